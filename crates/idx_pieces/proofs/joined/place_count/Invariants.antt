use Rattle.std.proofs.Common.{◌≡◌, ◌+◌, ◌≤◌, drop}
use Rattle.idx_geom.proofs.PointsLemmas.{size}
use Rattle.idx_pieces.specs.Ranks.{cut_axis}
use Rattle.idx_pieces.proofs.joined.place_count.Given as goal

-- the places of the axes so far
abbrev pub invariant-loop-axis : goal.invariant-loop-axis
invariant-loop-axis l = record {
  count : l.count ≡ size (drop l.axis l.piece.region);
  from : cut_axis l.header.box + 1 ≤ l.axis;
}
