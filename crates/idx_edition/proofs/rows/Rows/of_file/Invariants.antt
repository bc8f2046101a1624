use Rattle.std.proofs.Common.{◌≡◌, ◌++◌}
use Rattle.idx_layout.specs.Files.{rows_of_file}
use Rattle.idx_layout.specs.OfHeader.{placing_of}
use Rattle.idx_edition.proofs.rows.Rows.of_file.Given as goal

-- the rows so far, and those that are left behind them, are all
abbrev pub invariant-loop-row : goal.invariant-loop-row
invariant-loop-row l = l.rows.items ++ l.row-iterator ≡ rows_of_file l.fn.layout (placing_of l.header) l.file
