use Rattle.idx_check.proofs.VerdictLemmas.{nothing_wrong}
use Rattle.idx_check.proofs.laws.nothing_is_wrong_with_written_files_alone.Goals as goal

pub returns : goal.returns
returns c = nothing_wrong
