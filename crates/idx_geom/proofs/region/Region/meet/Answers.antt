use Rattle.idx_geom.specs.Region.{HasExactly, HaveCommonPoint, LiesIn, common_bounds}
use Rattle.idx_geom.proofs.RegionSteps.{SomeIff-same, IfSome-from_SomeIff, AreEnds-from_common, HaveCommonPoint-from_ends, HasExactly-common}
use Rattle.idx_geom.proofs.region.Region.meet.Goals as goal

pub returns-clause-bounds : goal.returns-clause-bounds
returns-clause-bounds c =
    SomeIff-same c.new.result _ _
    (HaveCommonPoint-from_ends c.args.self.now c.args.other.now c.common_ends-lo.result.0 c.common_ends-lo.result.1 c.requires c.common_ends-lo.ensures.bounds)
    (AreEnds-from_common c.args.self.now c.args.other.now c.common_ends-lo.result.0 c.common_ends-lo.result.1 c.common_ends-lo.ensures.same_axes c.common_ends-lo.ensures.bounds c.common_ends-lo.ensures.few)
    c.common_ends-lo.ensures.bounds
    c.new.ensures

pub returns-clause-points : goal.returns-clause-points
returns-clause-points c =
    IfSome-from_SomeIff (HaveCommonPoint c.args.self.now c.args.other.now) c.new.result (common_bounds c.args.self.now c.args.other.now)
    (λ common. HasExactly common (λ p. LiesIn c.args.self.now p × LiesIn c.args.other.now p))
    (returns-clause-bounds c)
    (HasExactly-common c.args.self.now c.args.other.now c.requires)
