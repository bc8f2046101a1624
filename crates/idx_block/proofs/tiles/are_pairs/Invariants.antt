use Rattle.std.proofs.Common.{◌≡◌, ℕ, ◌+◌, ◌*◌, ◌<◌}
use Rattle.idx_lanes.specs.Spread.{part_after}
use Rattle.idx_block.proofs.tiles.are_pairs.Given as goal

-- the pairs so far
abbrev pub invariant-loop-k : goal.invariant-loop-k
invariant-loop-k l = record {
  part : l.part ≡ part_after l.lane.bits l.lane.first (l._k * 2);
  of_half : l.of_half ≡ part_after l.half.bits l.half.first l._k;
  low : (j : ℕ) → j < l._k → part_after l.lane.bits l.lane.first (j * 2) ≡ part_after l.half.bits l.half.first j;
  high : (j : ℕ) → j < l._k → part_after l.lane.bits l.lane.first (j * 2 + 1) ≡ part_after l.half.bits l.half.first j + l.bit;
}
