use Rattle.idx_check.proofs.stray.+stray_in_first.Given as goal

abbrev pub decreases-stray_in_first : goal.decreases-stray_in_first
decreases-stray_in_first l = l.bits
