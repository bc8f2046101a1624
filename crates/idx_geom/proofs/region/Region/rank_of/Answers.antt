use Rattle.std.proofs.Common.{◌≡◌, ℕ, ◌+◌, ◌-◌, ◌<◌, length, drop, get_or, sym, ap, ◌∙◌, arith, refl, subst}
use Rattle.std.specs.List.{slice_get}
use Rattle.idx_geom.specs.Region.{points, place_of}
use Rattle.idx_geom.proofs.LiesInLemmas.{IsBetween, LiesIn-at_axis, length_from_LiesIn}
use Rattle.idx_geom.proofs.PointsLemmas.{slice_get-place_of}
use Rattle.idx_geom.proofs.RegionSteps.{place_of-small, place_of-step}
use Rattle.idx_geom.proofs.region.Region.rank_of.Goals as goal

pub overflow_mul-place : goal.overflow_mul-place
overflow_mul-place c =
    let k = c.loop-axis.axis - 1 in
    let next : k + 1 ≡ c.loop-axis.axis = omega arith in
    let inside : k < length c.args.self.now = omega arith in
    let step = place_of-step c.args.self.now c.args.p.now k c.loop-axis.axis c.loop-axis.place (get_or c.args.p.now k 0) c.bounds-lo.result c.requires next inside c.bounds-lo.ensures.value c.bounds-lo.ensures.ordered refl c.loop-axis.invariant in
    omega (arith, step, place_of-small c.args.self.now c.args.p.now k c.axes-axis.ensures.valid c.requires)

pub get-requires : goal.get-requires
get-requires c = omega (arith, length_from_LiesIn c.args.self.now c.args.p.now c.requires)

pub overflow_sub-place-in-loop-axis : goal.overflow_sub-place-in-loop-axis
overflow_sub-place-in-loop-axis c =
    let k = c.loop-axis.axis - 1 in
    let inside : k < length c.args.self.now = omega arith in
    let P : ℕ × ℕ → Type 0 = λ b. IsBetween b (get_or c.args.p.now k 0) in
    let here : IsBetween c.bounds-lo.result (get_or c.args.p.now k 0) =
    subst P (sym c.bounds-lo.ensures.value) (LiesIn-at_axis c.args.self.now c.args.p.now c.requires k inside) in
    omega (arith, here.0, c.get.ensures.value)

pub overflow_add-place-in-loop-axis : goal.overflow_add-place-in-loop-axis
overflow_add-place-in-loop-axis c =
    let k = c.loop-axis.axis - 1 in
    let next : k + 1 ≡ c.loop-axis.axis = omega arith in
    let inside : k < length c.args.self.now = omega arith in
    let step = place_of-step c.args.self.now c.args.p.now k c.loop-axis.axis c.loop-axis.place c.get.result c.bounds-lo.result c.requires next inside c.bounds-lo.ensures.value c.bounds-lo.ensures.ordered c.get.ensures.value c.loop-axis.invariant in
    omega (arith, step, place_of-small c.args.self.now c.args.p.now k c.axes-axis.ensures.valid c.requires)

pub loop-axis-preserved : goal.loop-axis-preserved
loop-axis-preserved c =
    let k = c.loop-axis.axis - 1 in
    let next : k + 1 ≡ c.loop-axis.axis = omega arith in
    let inside : k < length c.args.self.now = omega arith in
    place_of-step c.args.self.now c.args.p.now k c.loop-axis.axis c.loop-axis.place c.get.result c.bounds-lo.result c.requires next inside c.bounds-lo.ensures.value c.bounds-lo.ensures.ordered c.get.ensures.value c.loop-axis.invariant

pub returns-clause-found : goal.returns-clause-found
returns-clause-found c =
    let first : c.loop-axis.axis ≡ 0 = omega arith in
    let whole : c.loop-axis.place ≡ place_of c.args.self.now c.args.p.now =
    c.loop-axis.invariant ∙ ap (λ n. place_of (drop n c.args.self.now) (drop n c.args.p.now)) first in
    ap (slice_get (points c.args.self.now)) whole ∙ slice_get-place_of c.args.self.now c.args.p.now c.requires
