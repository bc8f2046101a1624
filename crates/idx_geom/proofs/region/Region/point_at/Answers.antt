use Rattle.std.proofs.Common.{◌≡◌, ◌<◌, Some, length, sym, ap, ◌∙◌, arith, rules, subst}
use Rattle.std.proofs.lemmas.List.{length-set}
use Rattle.std.proofs.lemmas.Option.{same_Some}
use Rattle.idx_geom.specs.Region.{LiesIn, place_of, point_of}
use Rattle.idx_geom.proofs.PointsLemmas.{length-points, slice_get-points, LiesIn-point_of, place_of-point_of}
use Rattle.idx_geom.proofs.RegionSteps.{point_of-step, point_of-found}
use Rattle.idx_geom.proofs.region.Region.point_at.Goals as goal

pub loop-axis-preserved : goal.loop-axis-preserved
loop-axis-preserved c =
    let inside : c.loop-axis.axis < length c.args.self.now = omega arith in
    let room : c.loop-axis.axis < length c.loop-axis.coordinates =
    omega (arith, c.loop-axis.invariant.room, c.axes-axis-end.ensures.valid.axes.1) in
    record {
      room = length-set c.loop-axis.coordinates c.loop-axis.axis _ ∙ c.loop-axis.invariant.room;
      point = point_of-step c.args.self.now c.loop-axis.coordinates (point_of c.args.self.now c.args.place) c.loop-axis.axis c.loop-axis.rest c.bounds-lo.result inside room c.bounds-lo.ensures.value c.bounds-lo.ensures.ordered c.loop-axis.invariant.point;
    }

pub unwrap-requires : goal.unwrap-requires
unwrap-requires c =
    rw (point_of-found c.args.self.now c.loop-axis.coordinates c.axes.result c.loop-axis.axis c.loop-axis.rest c.args.place c.stride.result c.axes.ensures.valid c.requires c.axes.ensures.count (omega arith) (omega arith) c.loop-axis.invariant.point c.stride.ensures)
    (search rules)

the_result : (c : goal.After-unwrap) → c.unwrap.result ≡ point_of c.args.self.now c.args.place
the_result c =
    same_Some c.unwrap.result (point_of c.args.self.now c.args.place)
    (sym c.unwrap.ensures
    ∙ point_of-found c.args.self.now c.loop-axis.coordinates c.axes.result c.loop-axis.axis c.loop-axis.rest c.args.place c.stride.result c.axes.ensures.valid c.requires c.axes.ensures.count (omega arith) (omega arith) c.loop-axis.invariant.point c.stride.ensures)

pub returns-clause-point : goal.returns-clause-point
returns-clause-point c =
    slice_get-points c.args.self.now c.args.place (omega (arith, length-points c.args.self.now, c.requires)) ∙ ap Some (sym (the_result c))

pub returns-clause-inside : goal.returns-clause-inside
returns-clause-inside c =
    subst (λ p. LiesIn c.args.self.now p) (sym (the_result c)) (LiesIn-point_of c.args.self.now c.args.place (omega (arith, length-points c.args.self.now, c.requires)))

pub returns-clause-undone : goal.returns-clause-undone
returns-clause-undone c =
    ap (place_of c.args.self.now) (the_result c) ∙ place_of-point_of c.args.self.now c.args.place (omega (arith, length-points c.args.self.now, c.requires))
