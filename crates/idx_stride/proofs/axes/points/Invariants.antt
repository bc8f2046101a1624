use Rattle.std.proofs.Common.{◌≡◌, ◌*◌, ◌≤◌, drop}
use Rattle.idx_stride.specs.Counts.{coarse_points}
use Rattle.idx_stride.specs.Strides.{grid_points}
use Rattle.idx_stride.proofs.axes.points.Given as goal

-- the products so far, times those of the other axes, are the whole
abbrev pub invariant-loop-axis : goal.invariant-loop-axis
invariant-loop-axis l = record {
  all : l.all * grid_points (drop l.axis-index l.axes) ≡ grid_points l.axes;
  coarse : l.coarse * coarse_points (drop l.axis-index l.axes) ≡ coarse_points l.axes;
  fewer : l.coarse ≤ l.all;
}
