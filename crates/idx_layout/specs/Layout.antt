-- The orders in which the samples of a block stand in a file.
use Rattle.std.specs.Prelude.{ℕ, ◌==◌, if◌then◌else◌, List, length}
use Rattle.idx_table.specs.Row.{raw, row_major}
use Rattle.idx_rowmajor.specs.Rows.{hz_from_rows, rows_from_hz}
use Rattle.idx_rowmajor.specs.declared.layout.Layout.{Layout}
use Rattle.idx_rowmajor.specs.declared.layout.Layout.TheVariants.{Hz, Rows}
use Rattle.idx_layout.specs.Placing.{Placing}

-- the word of flags in the row of a block whose samples stand so
abbrev pub flags_of : Layout → ℕ
flags_of Hz = raw
flags_of Rows = row_major

-- the bytes of a block as they stand in a file, of those in hierarchical order: the block has this number, and a sample of its
-- field so many bytes
abbrev pub arranged : Layout → Placing → ℕ → ℕ → List ℕ → List ℕ
arranged Hz l size block bytes = bytes
arranged Rows l size block bytes = rows_from_hz l.mask (length l.region) l.bits block size bytes

-- and back: the bytes of a block in hierarchical order, of those that stand in a file where the block's row has these flags
abbrev pub in_hz_order : Placing → ℕ → ℕ → ℕ → List ℕ → List ℕ
in_hz_order l size block flags bytes =
    if flags == row_major then hz_from_rows l.mask (length l.region) l.bits block size bytes
    else bytes
