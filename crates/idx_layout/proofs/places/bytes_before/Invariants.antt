use Rattle.std.proofs.Common.{◌≡◌, ◌*◌, ◌^◌, ◌≤◌}
use Rattle.std.specs.Prelude.{sum_by}
use Rattle.std.specs.List.{range_with_len}
use Rattle.idx_layout.specs.Placing.{block_bytes}
use Rattle.idx_layout.specs.OfHeader.{placing_of}
use Rattle.idx_layout.proofs.places.bytes_before.Given as goal

-- the blocks of the fields so far
abbrev pub invariant-loop-i : goal.invariant-loop-i
invariant-loop-i l = record {
  sum : l.bytes ≡ sum_by (block_bytes (placing_of l.header)) (range_with_len 0 l.i);
  few : l.bytes ≤ 2 ^ 24 * l.i;
}
