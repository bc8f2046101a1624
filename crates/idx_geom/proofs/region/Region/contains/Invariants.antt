use Rattle.std.proofs.Common.{ℕ, ◌<◌, get_or}
use Rattle.idx_geom.proofs.LiesInLemmas.{IsBetween}
use Rattle.idx_geom.proofs.region.Region.contains.Given as goal

abbrev pub invariant-loop-axis : goal.invariant-loop-axis
invariant-loop-axis l = (k : ℕ) → k < l.axis → IsBetween (get_or l.self k (0, 0)) (get_or l.p k 0)
