use Rattle.std.proofs.Common.{◌≡◌, ◌*◌, ◌↔◌, drop}
use Rattle.idx_stride.specs.Compact.{IsPacked}
use Rattle.idx_stride.specs.Strides.{grid_points}
use Rattle.idx_stride.proofs.axes.is_packed.Given as goal

-- the axes so far are packed, and fill this width
abbrev pub invariant-loop-axis : goal.invariant-loop-axis
invariant-loop-axis l = record {
  packed : IsPacked l.size l.axes ↔ IsPacked l.width (drop l.axis-index l.axes);
  filled : l.width * grid_points (drop l.axis-index l.axes) ≡ l.size * grid_points l.axes;
}
