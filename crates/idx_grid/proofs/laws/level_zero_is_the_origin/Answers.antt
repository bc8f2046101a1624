use Rattle.idx_grid.proofs.LevelGridLemmas.{origin_from_level, level_from_origin}
use Rattle.idx_grid.proofs.laws.level_zero_is_the_origin.Goals as goal

pub returns : goal.returns
returns c mask p has = (origin_from_level mask p has, level_from_origin mask p has)
