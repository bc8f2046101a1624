use Rattle.std.proofs.Common.{◌≡◌}
use Rattle.idx_table.specs.Table.{rows_of}
use Rattle.idx_table.proofs.table.rows_of.Given as goal

abbrev pub invariant-loop-i : goal.invariant-loop-i
invariant-loop-i l = l.table.items ≡ rows_of l.front l.i
