use Rattle.idx_rowmajor.proofs.SplitLemmas.{AreSplitTo}
use Rattle.idx_rowmajor.proofs.involutions.split.Given as goal

abbrev pub invariant-loop-start : goal.invariant-loop-start
invariant-loop-start l = AreSplitTo l.bits l.start l.targets l.inverse l.halves.first l.halves.second
