use Rattle.std.proofs.Common.{◌≡◌, ℕ, ◌+◌, ◌-◌, ◌*◌, ◌/◌, ◌<◌, List, ap, ◌∙◌, arith}
use Rattle.idx_lanes.specs.Axis.{count_to, step_of}
use Rattle.idx_lanes.specs.Lanes.{block_digits, count_on, start_on, step_on, weight_on}
use Rattle.idx_lanes.specs.Spread.{spread}
use Rattle.idx_lanes.proofs.AxisLemmas.{stride_pos}
use Rattle.idx_lanes.proofs.LanesLemmas.{AreFound, AreOn, count-found, few-bytes, grid-on, lowest-lt, start-found}
use Rattle.idx_lanes.proofs.lanes.find_lane.Goals as goal
use Rattle.idx_lanes.proofs.lanes.find_lane.Goals.{After-bounds-lo, After-first_from-start}

on : (c : After-bounds-lo) → AreOn c.args.part.now.mask (c.args.part.now.bits + c.args.part.now.k) c.args.axis c.args.grid.now
on c = grid-on c.args.part.now.mask (c.args.part.now.bits + c.args.part.now.k) _ c.args.axis c.args.grid.now c.requires.grid c.requires.grid_axis

found : (c : After-first_from-start) → AreFound c.args.part.now c.args.axis c.bounds-lo.result c.get.result c.get-step.result c.first_from-start.result
found c = record {
  bounds = c.bounds-lo.ensures.value;
  lowest = c.get.ensures.value ∙ (grid-on c.args.part.now.mask (c.args.part.now.bits + c.args.part.now.k) _ c.args.axis c.args.grid.now c.requires.grid c.requires.grid_axis).first;
  pace = c.get-step.ensures.value ∙ (grid-on c.args.part.now.mask (c.args.part.now.bits + c.args.part.now.k) _ c.args.axis c.args.grid.now c.requires.grid c.requires.grid_axis).step;
  start_is = c.first_from-start.ensures.value;
}

pub get-step-requires : goal.get-step-requires
get-step-requires c = (on (goal.at.get-step-requires c).After-bounds-lo).steps

pub get-requires : goal.get-requires
get-requires c = (on (goal.at.get-requires c).After-bounds-lo).firsts

pub first_from-start-requires-clause-first : goal.first_from-start-requires-clause-first
first_from-start-requires-clause-first c =
    let are = on (goal.at.first_from-start-requires-clause-first c).After-bounds-lo in
    omega (arith, c.get.ensures.value, c.get-step.ensures.value, are.first, are.step, lowest-lt c.args.part.now.mask (c.args.part.now.bits + c.args.part.now.k) c.args.axis c.requires.digits)

pub returns-then-count-eq0 : goal.returns-then-count-eq0
returns-then-count-eq0 c = λ some.
    let are = found (goal.at.returns-then-count-eq0 c).After-first_from-start in
    omega (arith, some, c.if-count-eq0.true, count-found c.args.part.now c.args.axis c.bounds-lo.result c.get.result c.get-step.result c.first_from-start.result are)

pub step_of-requires : goal.step_of-requires
step_of-requires c = λ more.
    let are = on (goal.at.step_of-requires c).After-bounds-lo in
    let some : 0 < c.get-step.result = omega (arith, c.get-step.ensures.value, are.step, stride_pos c.args.part.now.mask (c.args.part.now.bits + c.args.part.now.k) c.args.axis) in
    few-bytes c.first_from-start.result c.bounds-lo.result.1 c.bounds-lo.result.0 c.get-step.result c.args.weight some c.first_from-start.ensures.from
    (omega (arith, c.requires.small, ap (λ (b : ℕ × ℕ). (b.1 - b.0) * c.args.weight) c.bounds-lo.ensures.value)) more

pub returns : goal.returns
returns c =
    let part = c.args.part.now in
    let axis = c.args.axis in
    let digits : List ℕ = block_digits part.mask part.k part.bits in
    let are = found (goal.at.returns c).After-first_from-start in
    let start : c.first_from-start.result ≡ start_on part axis = start-found part axis c.bounds-lo.result c.get.result c.get-step.result c.first_from-start.result are in
    let count : count_to c.first_from-start.result c.bounds-lo.result.1 c.get-step.result ≡ count_on part axis =
    count-found part axis c.bounds-lo.result c.get.result c.get-step.result c.first_from-start.result are in
    let bytes : c.step_of.result ≡ step_of (weight_on part axis) (step_on part axis) (count_on part axis) =
    c.step_of.ensures ∙ (λ i. step_of (c.requires.weight i) (are.pace i) (count i)) in
    let first : c.axis_places-places.result.first ≡ spread axis digits (start_on part axis / step_on part axis) =
    c.axis_places-places.ensures.first ∙ (λ i. spread axis digits (start i / are.pace i)) in (
      omega (arith, c.if-count-eq0.false, count),
      λ i. record { start = start i; lane = record { step = bytes i; count = count i; bits = c.axis_places-places.ensures.bits i; first = first i } },
    )
