-- The form of the bytes that a file should have, place by place.
use Rattle.std.specs.Prelude.{◌≡◌, ℕ, ◌+◌, ◌*◌, ◌/◌, ◌^◌, ◌<◌, ◌≤◌, IsTrue, List, length, slice_get, slice_index, Some, if◌then◌else◌}
use Rattle.idx_table.specs.Row.{row_bytes, row_length}
use Rattle.idx_table.specs.Table.{table_bytes}
use Rattle.idx_table.specs.declared.row.Row.{Row}
use Rattle.idx_rowmajor.specs.declared.layout.Layout.TheVariants.{Hz}
use Rattle.idx_layout.specs.Files.{offset_of, rows_of_file}
use Rattle.idx_layout.specs.Placing.{Placing, block_bytes, is_present}
use Rattle.idx_check.specs.Wanted.{is_of_box}

-- Forty zeros, then the writer's rows, and in each present block the bytes of the file itself where the address is that of a point
-- of the box, and zeros elsewhere.
pub record HasForm (l : Placing) (file : ℕ) (bytes wanted : List ℕ) : Type 0 where
  pub front : (i : ℕ) → i < row_length → slice_index wanted i ≡ 0
  pub rows : (r i : ℕ) (row : Row) → slice_get (rows_of_file Hz l file) r ≡ Some row → i < row_length →
      slice_index wanted (table_bytes r + i) ≡ slice_index (row_bytes row) i
  pub blocks : (field block i : ℕ) → field < length l.sizes → file ≤ block → block < file + l.per_file →
      IsTrue (is_present l block) → i < block_bytes l field →
      slice_index wanted (offset_of l file field block + i) ≡
      (if is_of_box l (block * 2 ^ l.bits + i / slice_index l.sizes field)
      then slice_index bytes (offset_of l file field block + i) else 0)
