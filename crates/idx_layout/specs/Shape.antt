-- The shape of the steps of a dataset by its header.
use Rattle.std.specs.Prelude.{ℕ, List, length, map}
use Rattle.std.specs.List.{range_with_len}
use Rattle.idx_outside.specs.Shape.{Shape}
use Rattle.idx_header.specs.Header.{HeaderValue}
use Rattle.idx_layout.specs.Placing.{Placing, block_bytes, block_count}
use Rattle.idx_layout.specs.OfHeader.{placing_of}

-- the bytes of a block of each field
abbrev pub block_lengths : Placing → List ℕ
block_lengths l = map (block_bytes l) (range_with_len 0 (length l.sizes))

-- how many blocks each step of a dataset has, present or not, and how many bytes a block of each field
abbrev pub shape_of : HeaderValue → Shape
shape_of h = record { blocks = block_count (placing_of h); lengths = block_lengths (placing_of h) }
