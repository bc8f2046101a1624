use Rattle.idx_rowmajor.proofs.SplitLemmas.{IsWalked}
use Rattle.idx_rowmajor.proofs.involutions.split_cycle.Given as goal

abbrev pub invariant-loop : goal.invariant-loop
invariant-loop l = IsWalked l.counter l.start l.ahead l.behind l.targets l.inverse l.initial.halves.first l.initial.halves.second l.halves.first l.halves.second
