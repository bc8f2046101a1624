use Rattle.idx_test_writing.proofs.RawLemmas.{untold_alike}
use Rattle.idx_test_writing.proofs.states.Docked.batch.Goals as goal

pub parcel-requires-clause-alike : goal.parcel-requires-clause-alike
parcel-requires-clause-alike g c κs within = λ i here. untold_alike c.in_ok-raws.raws.items i
