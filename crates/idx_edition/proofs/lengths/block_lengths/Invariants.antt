use Rattle.std.proofs.Common.{◌≡◌, map}
use Rattle.std.specs.List.{range_with_len}
use Rattle.idx_layout.specs.Placing.{block_bytes}
use Rattle.idx_layout.specs.OfHeader.{placing_of}
use Rattle.idx_edition.proofs.lengths.block_lengths.Given as goal

-- the lengths of the fields so far
abbrev pub invariant-loop-field : goal.invariant-loop-field
invariant-loop-field l = l.lengths.items ≡ map (block_bytes (placing_of l.header)) (range_with_len 0 l.field)
