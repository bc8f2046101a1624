use Rattle.idx_rowmajor.proofs.ReverseLemmas.{IsTurning}
use Rattle.idx_rowmajor.proofs.turned.turned.Given as goal

abbrev pub invariant-loop-left : goal.invariant-loop-left
invariant-loop-left l = IsTurning l.bits l.place l.left l.turned

abbrev pub decreases-loop-left : goal.decreases-loop-left
decreases-loop-left l = l.left
