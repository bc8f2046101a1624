use Rattle.idx_grid.proofs.GridLemmas.{is_on_axes_iff}
use Rattle.idx_grid.proofs.laws.grids_are_tested.Goals as goal

pub returns : goal.returns
returns c grid p = is_on_axes_iff grid.first grid.step p
