use Rattle.std.proofs.Common.{◌≡◌, ◌++◌, length, take, drop}
use Rattle.idx_geom.specs.Region.{point_of}
use Rattle.idx_geom.proofs.region.Region.point_at.Given as goal

-- the coordinates so far and those that the rest still gives are the point's
abbrev pub invariant-loop-axis : goal.invariant-loop-axis
invariant-loop-axis l = record {
  room : length l.coordinates ≡ 5;
  point : take l.axis l.coordinates ++ point_of (drop l.axis l.self) l.rest ≡ point_of l.self l.place;
}
