use Rattle.idx_pieces.proofs.RankLemmas.{IsCutFrom}
use Rattle.idx_pieces.proofs.regions.cut_of.Given as goal

-- the cut of the axes behind
abbrev pub invariant-loop-axis : goal.invariant-loop-axis
invariant-loop-axis l = IsCutFrom l.region l.axis l.cut.axis l.cut.extent
