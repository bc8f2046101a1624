use Rattle.idx_ranks.specs.Settled.{NoneFailed}
use Rattle.idx_ranks.proofs.settling.least_fault.Given as goal

abbrev pub invariant-loop-rank : goal.invariant-loop-rank
invariant-loop-rank l = NoneFailed l.reads.items l.rank
