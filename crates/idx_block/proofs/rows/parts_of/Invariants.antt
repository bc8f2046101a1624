use Rattle.std.proofs.Common.{◌≡◌, ℕ, ◌<◌, length}
use Rattle.std.specs.Prelude.{slice_index}
use Rattle.idx_lanes.specs.Spread.{part_after}
use Rattle.idx_block.proofs.rows.parts_of.Given as goal

-- the parts so far
abbrev pub invariant-loop-k : goal.invariant-loop-k
invariant-loop-k g l = record {
  room : length l.parts ≡ g.row.N;
  are : (i : ℕ) → i < l.k → slice_index l.parts i ≡ part_after l.band.bits l.band.first i;
}
