use Rattle.std.proofs.Common.{◌≡◌, ◌+◌, drop}
use Rattle.idx_stride.specs.Strides.{reach}
use Rattle.idx_stride.proofs.axes.widest_gap.Given as goal

-- what is added, and what the other axes reach, is the whole
abbrev pub invariant-loop-axis : goal.invariant-loop-axis
invariant-loop-axis l = l.reach + reach (drop l.axis-index l.axes) ≡ l.size + reach l.axes
