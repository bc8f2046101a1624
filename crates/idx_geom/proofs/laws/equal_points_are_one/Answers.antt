use Rattle.idx_geom.proofs.PaddedLemmas.{equal_iff}
use Rattle.idx_geom.proofs.laws.equal_points_are_one.Goals as goal

pub returns : goal.returns
returns c = equal_iff 5
