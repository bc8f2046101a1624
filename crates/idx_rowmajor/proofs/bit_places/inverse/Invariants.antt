use Rattle.idx_rowmajor.proofs.InverseLemmas.{IsInverting}
use Rattle.idx_rowmajor.proofs.bit_places.inverse.Given as goal

abbrev pub invariant-loop-bit : goal.invariant-loop-bit
invariant-loop-bit l = IsInverting l.bits l.bit l.targets l.inverse
