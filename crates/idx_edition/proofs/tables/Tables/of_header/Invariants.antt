use Rattle.std.proofs.Common.{◌≡◌, ◌<◌, ◌++◌, List, ℕ, Some, map}
use Rattle.std.specs.Prelude.{slice_get}
use Rattle.std.specs.List.{AllByRecursion}
use Rattle.idx_header.specs.Header.{block_count}
use Rattle.idx_table.specs.declared.row.Row.{Row}
use Rattle.idx_layout.specs.Placing.{file_numbers}
use Rattle.idx_layout.specs.Files.{rows_of_file}
use Rattle.idx_layout.specs.OfHeader.{placing_of}
use Rattle.idx_layout.specs.Shape.{block_lengths}
use Rattle.idx_edition.specs.Tables.{IsTable}
use Rattle.idx_edition.proofs.tables.Tables.of_header.Given as goal

-- the files so far, and those that are left behind them, are all
abbrev pub invariant-loop-file : goal.invariant-loop-file
invariant-loop-file l = record {
  numbers : l.numbers.items ++ l.file-iterator ≡ file_numbers (placing_of l.header);
  tables : l.tables.items ≡ map (rows_of_file l.layout (placing_of l.header)) l.numbers.items;
  each : (i : ℕ) (rows : List Row) → slice_get l.tables.items i ≡ Some rows → IsTable (block_lengths (placing_of l.header)) l.header.blocks_per_file rows;
  exist : AllByRecursion (λ file. file < block_count l.header) l.file-iterator;
}
