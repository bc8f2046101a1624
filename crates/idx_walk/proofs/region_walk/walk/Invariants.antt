use Rattle.idx_hz.specs.Stride.{stride}
use Rattle.idx_walk.proofs.LevelTests.{ratio_of}
use Rattle.idx_walk.proofs.StepLemmas.{IsMade}
use Rattle.idx_walk.proofs.region_walk.walk.Given as goal

abbrev pub invariant-loop-axis : goal.invariant-loop-axis
invariant-loop-axis l = IsMade (stride l.mask l.hi) (ratio_of l.mask l.lo l.hi) l.size l.extent l.region l.axis l.base l.weight l.axes
