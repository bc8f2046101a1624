use Rattle.idx_ship.proofs.cut.+cut.Given as goal

abbrev pub decreases-cut : goal.decreases-cut
decreases-cut l = l.bits
