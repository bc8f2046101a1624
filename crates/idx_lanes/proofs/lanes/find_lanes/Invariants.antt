use Rattle.idx_lanes.proofs.LanesLemmas.{AreLanesSoFar}
use Rattle.idx_lanes.proofs.lanes.find_lanes.Given as goal

-- the axes so far are planned
abbrev pub invariant-loop-axis : goal.invariant-loop-axis
invariant-loop-axis l = AreLanesSoFar l.part l.axis l.from l.weight l.lanes
