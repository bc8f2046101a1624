use Rattle.idx_rowmajor.proofs.TableLemmas.{IsAdding}
use Rattle.idx_rowmajor.proofs.bit_tables.add_bit.Given as goal

abbrev pub invariant-loop-entry : goal.invariant-loop-entry
invariant-loop-entry l = IsAdding l.half l.bit l.entry l.initial.entries l.entries
