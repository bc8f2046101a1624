use Rattle.std.proofs.Common.{arith}
use Rattle.std.specs.List.{zip}
use Rattle.idx_geom.proofs.EndsLemmas.{points-some}
use Rattle.idx_geom.proofs.region.Region.count.Goals as goal

pub returns-clause-some : goal.returns-clause-some
returns-clause-some c =
    let counted = rw c.unwrap.ensures at c.point_count.ensures in
    omega (arith, counted.1, points-some (zip c.self.inside.lo c.self.inside.hi) c.self.invariant.region.ordered)
