use Rattle.std.proofs.Common.{◌≡◌, ℕ, ◌<◌, None}
use Rattle.idx_table.specs.Table.{kind_of_row}
use Rattle.idx_table.proofs.table.first_fault.Given as goal

abbrev pub invariant-loop-row : goal.invariant-loop-row
invariant-loop-row l = (i : ℕ) → i < l.row → kind_of_row l.front l.rows l.block.items l.len i ≡ None
