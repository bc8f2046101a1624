use Rattle.std.proofs.Common.{sym, arith, rules, subst}
use Rattle.idx_geom.specs.Point.{IsPoint}
use Rattle.idx_geom.proofs.RegionSteps.{some_from_SomeIff}
use Rattle.idx_pieces.proofs.RankLemmas.{point_is, point_made}
use Rattle.idx_pieces.proofs.regions.with_coordinate.Goals as goal

pub unwrap-requires : goal.unwrap-requires
unwrap-requires c =
    let p = c.args.point.now in
    let made = point_made p c.loop-other.coordinates c.axes.result c.args.axis c.args.x c.axes.ensures.count
    (omega (arith, c.loop-other.invariant.room, c.axes.ensures.valid.axes.1)) (omega arith)
    (λ k h. c.loop-other.invariant.known k (omega arith)) in
    rw (some_from_SomeIff c.stride.result _ c.stride.ensures (subst IsPoint (sym made) (point_is p c.args.axis c.args.x c.axes.ensures.valid c.requires.small)))
    (search rules)
