use Rattle.std.proofs.Common.{◌≡◌, ◌*◌, ◌^◌, ◌≤◌, drop}
use Rattle.std.specs.List.{zip}
use Rattle.idx_geom.proofs.PointsLemmas.{size}
use Rattle.idx_geom.proofs.region.point_count.Given as goal

-- the points so far, times those of the axes to come, are all points
abbrev pub invariant-loop-axis : goal.invariant-loop-axis
invariant-loop-axis l = record {
  whole : l.count * size (drop l.axis (zip l.lo l.hi)) ≡ size (zip l.lo l.hi);
  some : 1 ≤ l.count;
  few : l.count ≤ 2 ^ 40;
}
