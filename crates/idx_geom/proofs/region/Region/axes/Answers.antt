use Rattle.std.proofs.Common.{arith}
use Rattle.idx_geom.proofs.EndsLemmas.{length-zip_ends}
use Rattle.idx_geom.proofs.region.Region.axes.Goals as goal

pub returns-clause-count : goal.returns-clause-count
returns-clause-count c = rw (← c.self.view_is) (omega (arith, length-zip_ends c.self.inside.lo c.self.inside.hi c.self.invariant.same_axes))
