use Rattle.std.proofs.Common.{◌≡◌, ◌+◌, ◌-◌, ◌/◌, ◌<◌, ◌≤◌, [], length, sym, ap, ◌∙◌, subst, arith}
use Rattle.idx_geom.proofs.LiesInLemmas.{axes_from_ends}
use Rattle.idx_hz.specs.Stride.{stride}
use Rattle.idx_stride.specs.Places.{samples_at}
use Rattle.idx_stride.specs.Strides.{IsStrides, end_of, offsets_of}
use Rattle.idx_walk.specs.Progression.{count_of, axis_at}
use Rattle.idx_walk.proofs.LevelTests.{ratio_of, strides-at}
use Rattle.idx_lanes.proofs.AxisLemmas.{stride_pos}
use Rattle.idx_lanes.proofs.BoundsLemmas.{AreBounds, AreBounds-at}
use Rattle.std.proofs.Math.Nat.{mul-le-mul_right, mul_comm}
use Rattle.idx_stride.specs.declared.axis.Axis.{Axis}
use Rattle.idx_walk.specs.Walk.{points_up_to, places_of, wanted_places}
use Rattle.idx_walk.proofs.StepLemmas.{IsMade-start, IsNext, IsNext-found, weight-le, lattice-none_at, IsWhole, IsWhole-made}
use Rattle.idx_walk.proofs.WalkLemmas.{IsQuestion, points_up_to-lattice, points_up_to-some, wanted-none, offsets-wanted, samples_at-wanted, end-le, IsStrides-walk}
use Rattle.idx_walk.proofs.region_walk.walk.Goals as goal
use Rattle.idx_walk.proofs.region_walk.walk.Goals.{In-loop-axis, After-get}

-- the axis is one of the extent's
inside : (c : In-loop-axis) → c.loop-axis.axis < length c.args.extent.now
inside c = omega (arith, axes_from_ends c.args.extent.now c.args.region.now c.requires.lower)

question : (c : In-loop-axis) → IsQuestion c.args.mask.now c.args.extent.now c.args.region.now c.args.lo c.args.hi
question c = record {
  named = c.requires.named;
  lower = c.requires.lower;
  upper = c.requires.upper;
  region = c.axes-axis-end.ensures.valid;
  ordered = c.requires.ordered;
}

-- the bounds along the axis
at_axis : (c : After-get) → AreBounds c.args.extent.now c.args.region.now c.loop-axis.axis c.bounds-from.result c.bounds.result
at_axis c =
    AreBounds-at c.args.extent.now c.args.region.now c.loop-axis.axis c.bounds-from.result c.bounds.result
    c.axes-axis-end.ensures.valid c.requires.lower c.requires.upper (omega arith) c.bounds-from.ensures.value c.bounds.ensures.value

-- the strides along the axis
fine : (c : After-get) → c.get-stride.result ≡ stride c.args.mask.now c.args.hi c.loop-axis.axis
fine c =
    c.get-stride.ensures.value
    ∙ strides-at c.args.mask.now c.args.hi c.axes.result c.loop-axis.axis c.grid_up_to-fine.result.step c.grid_up_to-fine.ensures.value.step
    (omega (arith, inside (goal.at.nonzero_div-get c).In-loop-axis))

ratio : (c : After-get) → c.get.result / c.get-stride.result ≡ ratio_of c.args.mask.now c.args.lo c.args.hi c.loop-axis.axis
ratio c =
    let coarse : c.get.result ≡ stride c.args.mask.now c.saturating_sub.result c.loop-axis.axis =
    c.get.ensures.value
    ∙ strides-at c.args.mask.now c.saturating_sub.result c.axes-2.result c.loop-axis.axis c.grid_up_to-coarse.result.step c.grid_up_to-coarse.ensures.value.step
    (omega (arith, inside (goal.at.nonzero_div-get c).In-loop-axis)) in
    let level : c.saturating_sub.result ≡ c.args.lo - 1 = omega (arith, c.saturating_sub.ensures) in
    (λ i. coarse i / fine c i) ∙ ap (λ h. stride c.args.mask.now h c.loop-axis.axis / stride c.args.mask.now c.args.hi c.loop-axis.axis) level

pub bounds-from-requires-clause-axis : goal.bounds-from-requires-clause-axis
bounds-from-requires-clause-axis c = inside c

pub get-stride-requires : goal.get-stride-requires
get-stride-requires c =
    omega (arith, inside (goal.at.get-stride-requires c).In-loop-axis, c.grid_up_to-fine.ensures.axes.1)

pub get-requires : goal.get-requires
get-requires c =
    omega (arith, inside (goal.at.get-requires c).In-loop-axis, c.grid_up_to-coarse.ensures.axes.1)

pub nonzero_div-get : goal.nonzero_div-get
nonzero_div-get c = omega (arith, fine c, stride_pos c.args.mask.now c.args.hi c.loop-axis.axis)

pub axis_of-requires-clause-some : goal.axis_of-requires-clause-some
axis_of-requires-clause-some c = omega (arith, fine (goal.at.axis_of-requires-clause-some c).After-get, stride_pos c.args.mask.now c.args.hi c.loop-axis.axis)

pub axis_of-requires-clause-few : goal.axis_of-requires-clause-few
axis_of-requires-clause-few c =
    let at = at_axis (goal.at.axis_of-requires-clause-few c).After-get in
    let few = weight-le (stride c.args.mask.now c.args.hi)
    (ratio_of c.args.mask.now c.args.lo c.args.hi) c.args.size c.args.extent.now c.args.region.now c.loop-axis.axis c.loop-axis.base c.loop-axis.weight c.loop-axis.axes c.bounds-from.result c.bounds.result c.axes.ensures.valid c.requires.few_bytes at c.loop-axis.invariant in
    let within : c.bounds.result.1 - c.bounds.result.0 ≤ c.bounds-from.result.1 - c.bounds-from.result.0 + 1 = omega (arith, at.low, at.high, at.ordered) in
    omega (arith, few, mul-le-mul_right c.loop-axis.weight within, mul_comm c.loop-axis.weight (c.bounds-from.result.1 - c.bounds-from.result.0 + 1))

-- the axis that is found
next : (c : After-get) (a : Axis) →
    (1 ≤ count_of c.get-stride.result c.bounds.result) × (a ≡ axis_at c.loop-axis.weight c.get-stride.result (c.get.result / c.get-stride.result) c.bounds.result) →
    IsNext (stride c.args.mask.now c.args.hi)
    (ratio_of c.args.mask.now c.args.lo c.args.hi) c.args.size c.args.extent.now c.args.region.now c.loop-axis.axis c.loop-axis.base c.loop-axis.weight c.loop-axis.axes c.bounds-from.result c.get-stride.result a
next c a found =
    IsNext-found (stride c.args.mask.now c.args.hi) (ratio_of c.args.mask.now c.args.lo c.args.hi)
    (stride_pos c.args.mask.now c.args.hi) c.args.size c.args.extent.now c.args.region.now c.loop-axis.axis c.loop-axis.base c.loop-axis.weight c.loop-axis.axes c.bounds-from.result c.bounds.result
    c.get-stride.result (c.get.result / c.get-stride.result) a c.axes.ensures.valid c.requires.few_bytes (at_axis c) c.axes-axis-end.ensures.valid.axes.1 (fine c)
    (ratio c) found.0 found.1 c.loop-axis.invariant

pub overflow_sub-base : goal.overflow_sub-base
overflow_sub-base c = (next (goal.at.overflow_sub-base c).After-get c.in_ok-found.found (c.in_ok-found.ensures)).low

pub overflow_mul-base-in-loop-axis : goal.overflow_mul-base-in-loop-axis
overflow_mul-base-in-loop-axis c =
    let after = next (goal.at.overflow_mul-base-in-loop-axis c).After-get c.in_ok-found.found (c.in_ok-found.ensures) in
    omega (arith, after.next.within, after.small)

pub overflow_add-base : goal.overflow_add-base
overflow_add-base c =
    let after = next (goal.at.overflow_add-base c).After-get c.in_ok-found.found (c.in_ok-found.ensures) in
    omega (arith, after.next.within, after.small)

pub overflow_mul-weight : goal.overflow_mul-weight
overflow_mul-weight c =
    omega (arith, (next (goal.at.overflow_mul-weight c).After-get c.in_ok-found.found (c.in_ok-found.ensures)).small)

pub loop-axis-init : goal.loop-axis-init
loop-axis-init c = IsMade-start (stride c.args.mask.now c.args.hi) (ratio_of c.args.mask.now c.args.lo c.args.hi) c.args.size c.args.extent.now c.args.region.now _ (omega arith)

pub loop-axis-preserved : goal.loop-axis-preserved
loop-axis-preserved c = (next (goal.at.loop-axis-preserved c).After-get c.in_ok-found.found (c.in_ok-found.ensures)).next

-- ---- no walk

none : (c : After-get) → (1 ≤ count_of c.get-stride.result c.bounds.result → ⊥) → points_up_to c.args.mask.now c.args.region.now c.args.hi ≡ []
none c missing =
    let asked = question (goal.at.nonzero_div-get c).In-loop-axis in
    let no_multiple : count_of (stride c.args.mask.now c.args.hi c.loop-axis.axis) c.bounds.result ≡ 0 = ap (λ s. count_of s c.bounds.result) (sym (fine c)) ∙ omega (arith, missing) in
    points_up_to-lattice c.args.mask.now c.args.extent.now c.args.region.now c.args.lo c.args.hi asked
    ∙ lattice-none_at (stride c.args.mask.now c.args.hi)
    (ratio_of c.args.mask.now c.args.lo c.args.hi) c.args.size c.args.extent.now c.args.region.now c.loop-axis.axis c.loop-axis.base c.loop-axis.weight c.loop-axis.axes c.bounds-from.result c.bounds.result (at_axis c) no_multiple c.loop-axis.invariant

pub returns-in_err-found-clause-none : goal.returns-in_err-found-clause-none
returns-in_err-found-clause-none c =
    let empty = none (goal.at.returns-in_err-found-clause-none c).After-get (c.in_err-found.ensures) in
    (λ _. empty, λ _. rw c.from_residual.ensures)

places_none : (c : After-get) → (1 ≤ count_of c.get-stride.result c.bounds.result → ⊥) → [] ≡ wanted_places c.args.mask.now c.args.extent.now c.args.size c.args.region.now c.args.lo c.args.hi
places_none c missing = sym (wanted-none c.args.mask.now c.args.extent.now c.args.region.now c.args.lo c.args.hi c.args.size (none c missing))

pub returns-in_err-found-clause-places : goal.returns-in_err-found-clause-places
returns-in_err-found-clause-places c =
    ap places_of c.from_residual.ensures ∙ places_none (goal.at.returns-in_err-found-clause-places c).After-get c.in_err-found.ensures

pub returns-in_err-found-clause-answer : goal.returns-in_err-found-clause-answer
returns-in_err-found-clause-answer c = λ raw.
    ap (samples_at c.args.size raw) (ap places_of c.from_residual.ensures ∙ places_none (goal.at.returns-in_err-found-clause-answer c).After-get c.in_err-found.ensures)
    ∙ samples_at-wanted c.args.mask.now c.args.extent.now c.args.region.now c.args.lo c.args.hi c.args.size raw (question (goal.at.returns-in_err-found-clause-answer c).In-loop-axis)

-- ---- the walk

asked : (c : goal.After-new) → IsQuestion c.args.mask.now c.args.extent.now c.args.region.now c.args.lo c.args.hi
asked c = record {
  named = c.requires.named;
  lower = c.requires.lower;
  upper = c.requires.upper;
  region = c.axes-axis-end.ensures.valid;
  ordered = c.requires.ordered;
}

whole : (c : goal.After-new) → IsWhole c.args.mask.now c.args.extent.now c.args.region.now c.args.lo c.args.hi c.args.size c.new.result
whole c =
    subst (IsWhole c.args.mask.now c.args.extent.now c.args.region.now c.args.lo c.args.hi c.args.size) (sym c.new.ensures)
    (IsWhole-made c.args.mask.now c.args.extent.now c.args.region.now c.args.lo c.args.hi c.args.size c.loop-axis.axis c.axes-3.result c.loop-axis.base c.loop-axis.weight c.loop-axis.axes
    (axes_from_ends c.args.extent.now c.args.region.now c.requires.lower) (omega arith) (omega arith) (omega arith) c.loop-axis.invariant)

pub new-requires : goal.new-requires
new-requires c =
    let made = IsWhole-made c.args.mask.now c.args.extent.now c.args.region.now c.args.lo c.args.hi c.args.size c.loop-axis.axis c.axes-3.result c.loop-axis.base c.loop-axis.weight c.loop-axis.axes
    (axes_from_ends c.args.extent.now c.args.region.now c.requires.lower) (omega arith) (omega arith) (omega arith) c.loop-axis.invariant in
    let question : IsQuestion c.args.mask.now c.args.extent.now c.args.region.now c.args.lo c.args.hi = record {
      named = c.requires.named;
      lower = c.requires.lower;
      upper = c.requires.upper;
      region = c.axes-axis-end.ensures.valid;
      ordered = c.requires.ordered;
    } in
    subst IsStrides (sym made.walk)
    (IsStrides-walk c.args.mask.now c.args.extent.now c.args.region.now c.args.lo c.args.hi c.args.size question made.counted c.axes.ensures.valid c.requires.some_bytes c.requires.few_bytes)

pub returns-clause-none : goal.returns-clause-none
returns-clause-none c = (
  λ some_is_none. absurd (cc some_is_none),
  λ empty. absurd (points_up_to-some c.args.mask.now c.args.extent.now c.args.region.now c.args.lo c.args.hi (asked c) (whole c).counted empty),
)

places : (c : goal.After-new) → offsets_of c.new.result ≡ wanted_places c.args.mask.now c.args.extent.now c.args.size c.args.region.now c.args.lo c.args.hi
places c = ap offsets_of (whole c).walk ∙ offsets-wanted c.args.mask.now c.args.extent.now c.args.region.now c.args.lo c.args.hi c.args.size (asked c)

pub returns-clause-places : goal.returns-clause-places
returns-clause-places c = places c

pub returns-clause-end : goal.returns-clause-end
returns-clause-end c =
    omega (arith, ap end_of (whole c).walk, end-le c.args.mask.now c.args.extent.now c.args.region.now c.args.lo c.args.hi c.args.size (asked c) (whole c).counted)

pub returns-clause-answer : goal.returns-clause-answer
returns-clause-answer c = λ raw.
    ap (samples_at c.args.size raw) (places c)
    ∙ samples_at-wanted c.args.mask.now c.args.extent.now c.args.region.now c.args.lo c.args.hi c.args.size raw (asked c)
