use Rattle.std.proofs.Common.{◌≡◌, ◌-◌, ◌^◌, ◌≤◌, length}
use Rattle.std.specs.Prelude.{filter}
use Rattle.std.specs.List.{range_with_len}
use Rattle.idx_pieces.specs.Pieces.{has_piece}
use Rattle.idx_pieces.proofs.piece_ids.piece_ids.Given as goal

-- the ids of the division so far
abbrev pub invariant-loop-behind : goal.invariant-loop-behind
invariant-loop-behind l = record {
  ids : l.ids.items ≡ filter (has_piece l.mask l.region l.behind) (range_with_len 0 (2 ^ (length l.mask - l.behind)));
  from : l.e ≤ l.behind;
}
