use Rattle.std.proofs.Common.{length}
use Rattle.idx_scatter.proofs.side.+before.Given as goal

abbrev pub decreases-before : goal.decreases-before
decreases-before l = length l.sides.now
