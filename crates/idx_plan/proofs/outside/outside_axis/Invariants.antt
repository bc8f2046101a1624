use Rattle.std.proofs.Common.{◌≡◌, drop}
use Rattle.idx_plan.specs.Needed.{outside_axis}
use Rattle.idx_plan.proofs.outside.outside_axis.Given as goal

-- what is left decides
abbrev pub invariant-loop-axis : goal.invariant-loop-axis
invariant-loop-axis l = outside_axis 0 l.region l.volume ≡ outside_axis l.axis (drop l.axis l.region) (drop l.axis l.volume)
