use Rattle.std.proofs.Common.{◌≡◌, ◌++◌}
use Rattle.idx_plan.proofs.DescentLemmas.{halves_before}
use Rattle.idx_plan.proofs.descent.+descend.Given as goal

abbrev pub decreases-descend : goal.decreases-descend
decreases-descend l = l.branch.height

-- the keys of the halves so far are there
abbrev pub invariant-loop-bit : goal.invariant-loop-bit
invariant-loop-bit l = l.keys.items ≡ l.fn.keys.items ++ halves_before l.mask l.ask l.branch l.bit
