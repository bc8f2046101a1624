use Rattle.idx_check.proofs.cell.Level.+cell_of.Given as goal

abbrev pub decreases-cell_of : goal.decreases-cell_of
decreases-cell_of l = l.digits
