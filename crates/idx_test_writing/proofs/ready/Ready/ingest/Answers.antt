use Rattle.idx_test_writing.proofs.RawLemmas.{untold_alike}
use Rattle.idx_test_writing.proofs.ready.Ready.ingest.Goals as goal

pub ingest-writer-requires-clause-alike : goal.ingest-writer-requires-clause-alike
ingest-writer-requires-clause-alike g c κs within = λ i here. untold_alike c.args.self.raws.items i
