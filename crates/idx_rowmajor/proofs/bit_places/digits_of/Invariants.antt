use Rattle.idx_rowmajor.proofs.DigitLemmas.{IsCounted}
use Rattle.idx_rowmajor.proofs.bit_places.digits_of.Given as goal

abbrev pub invariant-loop-bit : goal.invariant-loop-bit
invariant-loop-bit l = IsCounted l.mask l.first l.bits l.axis l.bit l.count
