use Rattle.idx_rowmajor.proofs.DigitLemmas.{IsPlacing}
use Rattle.idx_rowmajor.proofs.bit_places.targets.Given as goal

abbrev pub invariant-loop-bit : goal.invariant-loop-bit
invariant-loop-bit l = IsPlacing l.mask l.first l.bits l.bit l.next l.targets
