use Rattle.std.proofs.Common.{◌≡◌, false, take}
use Rattle.std.specs.List.{list_any}
use Rattle.idx_seal.specs.Jobs.{has_failed}
use Rattle.idx_seal.proofs.writing.any_failed.Given as goal

-- none of the first jobs failed
abbrev pub invariant-loop-job : goal.invariant-loop-job
invariant-loop-job g l = list_any has_failed (take l.job-index l.jobs) ≡ false
