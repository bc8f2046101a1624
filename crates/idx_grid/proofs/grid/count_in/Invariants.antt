use Rattle.std.proofs.Common.{◌≡◌, ◌*◌, ◌^◌, ◌≤◌, drop}
use Rattle.idx_geom.proofs.PointsLemmas.{size}
use Rattle.idx_grid.proofs.GridLemmas.{grid_count}
use Rattle.idx_grid.proofs.grid.count_in.Given as goal

-- the count so far, times that of the axes to come, is the whole, and is no more than the region's points so far
abbrev pub invariant-loop-axis : goal.invariant-loop-axis
invariant-loop-axis l = record {
  whole : l.count * grid_count (drop l.axis l.grid.first) (drop l.axis l.grid.step) (drop l.axis l.region) ≡ grid_count l.grid.first l.grid.step l.region;
  few : l.count * size (drop l.axis l.region) ≤ 2 ^ 40;
}
