use Rattle.std.proofs.Common.{◌≡◌, length}
use Rattle.idx_rowmajor.specs.Tables.{AreEntries}
use Rattle.idx_rowmajor.proofs.bit_tables.entries.Given as goal

abbrev pub invariant-loop-bit : goal.invariant-loop-bit
invariant-loop-bit l = (length l.entries ≡ 1024) × AreEntries l.places l.first l.bit l.entries
