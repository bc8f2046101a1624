use Rattle.idx_check.proofs.stray.+stray_in_cell.Given as goal

abbrev pub decreases-stray_in_cell : goal.decreases-stray_in_cell
decreases-stray_in_cell l = l.cell.now.bits
