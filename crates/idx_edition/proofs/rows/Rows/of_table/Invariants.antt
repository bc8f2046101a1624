use Rattle.std.proofs.Common.{◌≡◌, take}
use Rattle.idx_edition.proofs.rows.Rows.of_table.Given as goal

-- the rows so far
abbrev pub invariant-loop-i : goal.invariant-loop-i
invariant-loop-i l = l.rows.items ≡ take l.i l.table
