use Rattle.std.proofs.Common.{◌≡◌, ℕ, ◌<◌, length, get_or}
use Rattle.idx_pieces.proofs.regions.with_coordinate.Given as goal

-- the coordinates so far
abbrev pub invariant-loop-other : goal.invariant-loop-other
invariant-loop-other l = record {
  room : length l.coordinates ≡ 5;
  known : (k : ℕ) → k < l.other → get_or l.coordinates k 0 ≡ get_or l.point k 0;
}
