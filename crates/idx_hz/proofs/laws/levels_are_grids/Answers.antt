-- The law is proved over lists of digits and coordinates.
use Rattle.idx_hz.proofs.LevelLemmas.{level_iff_on_strides, level_iff_odd_multiple}
use Rattle.idx_hz.proofs.laws.levels_are_grids.Goals as goal

pub returns-clause-coarser : goal.returns-clause-coarser
returns-clause-coarser c = level_iff_on_strides

pub returns-clause-exact : goal.returns-clause-exact
returns-clause-exact c = level_iff_odd_multiple
