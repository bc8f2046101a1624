-- The two orders of a block in a file, and the way back.
use Rattle.std.proofs.Common.{◌≡◌, ℕ, ◌*◌, ◌^◌, Bool, true, false, cond, List, length, refl}
use Rattle.std.specs.Prelude.{◌==◌}
use Rattle.idx_table.specs.Row.{row_major}
use Rattle.idx_rowmajor.specs.RowPlace.{IsBlock}
use Rattle.idx_rowmajor.specs.Rows.{hz_from_rows}
use Rattle.idx_rowmajor.specs.declared.layout.Layout.{Layout}
use Rattle.idx_rowmajor.specs.declared.layout.Layout.TheVariants.{Hz, Rows}
use Rattle.idx_rowmajor.proofs.RowsLemmas.{hz_from_rows-back, length-hz_from_rows, length-rows_from_hz}
use Rattle.idx_layout.specs.Layout.{arranged, flags_of, in_hz_order}
use Rattle.idx_layout.specs.Placing.{Placing}

-- each layout keeps a block's length
pub length-arranged : (layout : Layout) (l : Placing) (size block : ℕ) (bytes : List ℕ) → length bytes ≡ size * 2 ^ l.bits →
    length (arranged layout l size block bytes) ≡ size * 2 ^ l.bits
length-arranged Hz l size block bytes long = long
length-arranged Rows l size block bytes long = length-rows_from_hz l.mask (length l.region) l.bits block size bytes long

-- and so does the way back
pub length-in_hz_order : (l : Placing) (size block flags : ℕ) (bytes : List ℕ) → IsBlock l.mask (length l.region) l.bits block → length bytes ≡ size * 2 ^ l.bits →
    length (in_hz_order l size block flags bytes) ≡ size * 2 ^ l.bits
length-in_hz_order l size block flags bytes is long = by_test (flags == row_major)
  where
    by_test : (b : Bool) → length (cond b (hz_from_rows l.mask (length l.region) l.bits block size bytes) bytes) ≡ size * 2 ^ l.bits
    by_test true = length-hz_from_rows l.mask (length l.region) l.bits block size is bytes long
    by_test false = long

-- what stands in a file is read as the block in hierarchical order
pub in_hz_order-arranged : (layout : Layout) (l : Placing) (size block : ℕ) (bytes : List ℕ) → IsBlock l.mask (length l.region) l.bits block → length bytes ≡ size * 2 ^ l.bits →
    in_hz_order l size block (flags_of layout) (arranged layout l size block bytes) ≡ bytes
in_hz_order-arranged Hz l size block bytes is long = refl
in_hz_order-arranged Rows l size block bytes is long = hz_from_rows-back l.mask (length l.region) l.bits block size bytes is long
