-- The files of a step as the writer lays them out: the table, and behind it without gaps the present blocks, field after
-- field and within a field block after block (this project's own form).
use Rattle.std.specs.Prelude.{◌<◌, ◌≤◌, ◌^◌, ℕ, Bool, ◌+◌, ◌*◌, ◌==◌, ◌&&◌, ◌||◌, nat_lt, if◌then◌else◌, List, ◌++◌, length, map, filter, sum_by, replicate}
use Rattle.std.specs.List.{flat_map, range_with_len, zip}
use Rattle.idx_table.specs.Row.{absent, row_bytes, row_length}
use Rattle.idx_table.specs.Table.{table_bytes}
use Rattle.idx_table.specs.declared.row.Row.{Row}
use Rattle.idx_rowmajor.specs.declared.layout.Layout.{Layout}
use Rattle.idx_layout.specs.Placing.{Placing, block_bytes, is_present, present_blocks, block_of_samples}
use Rattle.idx_layout.specs.Layout.{arranged, flags_of}

-- how many rows the table of a file has: one for each block place of each field
abbrev pub row_count : Placing → ℕ
row_count l = length l.sizes * l.per_file

-- the blocks that stand in a file, in their order: each is a field and the number of a present block
abbrev pub stored_blocks : Placing → ℕ → List (ℕ × ℕ)
stored_blocks l file =
    flat_map (λ field. map (λ block. (field, block)) (present_blocks l file)) (range_with_len 0 (length l.sizes))

-- a block stands before another: its field comes first, or it is of the same field and its number does
abbrev pub stands_before : ℕ × ℕ → ℕ × ℕ → Bool
stands_before a b = nat_lt a.0 b.0 || ((a.0 == b.0) && nat_lt a.1 b.1)

-- where a block begins in its file: behind the table and the blocks that stand before it
abbrev pub offset_of : Placing → ℕ → ℕ → ℕ → ℕ
offset_of l file field block =
    table_bytes (row_count l)
    + sum_by (λ before. block_bytes l before.0) (filter (λ other. stands_before other (field, block)) (stored_blocks l file))

-- the row of a block: that of an absent block is all zeros
abbrev pub row_of_block : Layout → Placing → ℕ → ℕ → ℕ → Row
row_of_block layout l file field block =
    if is_present l block then record { offset = offset_of l file field block; size = block_bytes l field; flags = flags_of layout }
    else absent

-- the rows of a file: for each field one for each of its block places
abbrev pub rows_of_file : Layout → Placing → ℕ → List Row
rows_of_file layout l file =
    flat_map (λ field. map (row_of_block layout l file field) (range_with_len file l.per_file)) (range_with_len 0 (length l.sizes))

-- how many bytes a file has
abbrev pub length_of_file : Placing → ℕ → ℕ
length_of_file l file = table_bytes (row_count l) + sum_by (λ stored. block_bytes l stored.0) (stored_blocks l file)

-- a block of a field as it stands in its file
abbrev pub block_in_file : Layout → Placing → ℕ → List (List ℕ) → ℕ → List ℕ
block_in_file layout l size samples block = arranged layout l size block (block_of_samples l size samples block)

-- the blocks of a file, one after another. The volume has for each field the samples of the box
abbrev pub blocks_of_file : Layout → Placing → List (List (List ℕ)) → ℕ → List ℕ
blocks_of_file layout l volume file =
    flat_map (λ field. flat_map (block_in_file layout l field.0 field.1) (present_blocks l file)) (zip l.sizes volume)

-- the bytes of a file of a volume: forty zeros, the rows, and the blocks
abbrev pub file_bytes : Layout → Placing → List (List (List ℕ)) → ℕ → List ℕ
file_bytes layout l volume file =
    replicate row_length 0 ++ flat_map row_bytes (rows_of_file layout l file) ++ blocks_of_file layout l volume file

-- what can be written as such a file: there are fields and places for blocks, a block's bytes fit a row's word, and the
-- file's bytes the two words of an offset
pub record FitsRows (l : Placing) (file : ℕ) : Type 0 where
  pub places : 1 ≤ l.per_file
  pub fields : 1 ≤ length l.sizes
  pub sizes : (field : ℕ) → field < length l.sizes → block_bytes l field < 2 ^ 32
  pub bytes : length_of_file l file < 2 ^ 64
