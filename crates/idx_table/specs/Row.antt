-- A row of the table of blocks, in ten words of 32 bits, big-endian (this project's own layout): word 2 is the low half
-- of the block's offset, word 3 its high half, word 4 the block's size and word 5 its flags. The other words are 0 when
-- written, and passed over when read.
use Rattle.std.specs.Prelude.{ℕ, ◌<◌, ◌+◌, ◌*◌, ◌/◌, ◌%◌, ◌^◌, List, [], ◌∷◌, drop}
use Rattle.std.specs.List.{flat_map}
use Rattle.byteorder.specs.Endian.{big_number, big_bytes}
use Rattle.idx_table.specs.declared.row.Row.{Row}

-- the values that a row can have: an offset of 64 bits, and a size and flags of 32 bits
pub record IsRow (row : Row) : Type 0 where
  pub offset : row.offset < 2 ^ 64
  pub size : row.size < 2 ^ 32
  pub flags : row.flags < 2 ^ 32

-- the flags of a block whose samples are raw and in hierarchical Z order
abbrev pub raw : ℕ
raw = 0

-- the flags of a block whose samples are raw and in the row-major order of their points
abbrev pub row_major : ℕ
row_major = 16

-- the row of a block that its file lacks
abbrev pub absent : Row
absent = record { offset = 0; size = 0; flags = raw }

-- how many bytes a row has; a table begins with as many bytes of 0
abbrev pub row_length : ℕ
row_length = 40

-- the word with this number, counted from 0
abbrev pub word_at : ℕ → List ℕ → ℕ
word_at place bytes = big_number 4 (drop (4 * place) bytes)

-- the row that stands in these bytes
abbrev pub row_of : List ℕ → Row
row_of bytes =
    record { offset = word_at 2 bytes + 2 ^ 32 * word_at 3 bytes; size = word_at 4 bytes; flags = word_at 5 bytes }

-- the words of a row
abbrev pub words_of : Row → List ℕ
words_of row = 0 ∷ 0 ∷ row.offset % 2 ^ 32 ∷ row.offset / 2 ^ 32 ∷ row.size ∷ row.flags ∷ 0 ∷ 0 ∷ 0 ∷ 0 ∷ []

-- the bytes of a row
abbrev pub row_bytes : Row → List ℕ
row_bytes row = flat_map (big_bytes 4) (words_of row)
