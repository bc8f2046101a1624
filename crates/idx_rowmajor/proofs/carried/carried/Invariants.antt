use Rattle.idx_rowmajor.proofs.CarryLemmas.{IsCarrying}
use Rattle.idx_rowmajor.proofs.carried.carried.Given as goal

abbrev pub invariant-loop-bit : goal.invariant-loop-bit
invariant-loop-bit l = IsCarrying l.bits l.bit l.places l.from l.to
