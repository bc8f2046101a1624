use Rattle.std.proofs.Common.{◌≡◌, ◌+◌, ◌-◌, ◌*◌, ◌<◌, ◌≤◌, ◌^◌, length, refl, ap, arith}
use Rattle.std.proofs.Math.Nat.{mul_comm, mul-le-mul_right}
use Rattle.idx_geom.specs.Region.{extent}
use Rattle.idx_lanes.specs.Lanes.{bounds_on, box_on, count_on, lane_on, start_on, weight_on}
use Rattle.idx_lanes.specs.declared.lanes.Found.{Found}
use Rattle.idx_lanes.proofs.LanesLemmas.{IfNone-of, IsNext, bounds-part, next-found, lanes-made, lanes-none, same_axes-part, weight-small}
use Rattle.idx_lanes.proofs.lanes.find_lanes.Goals as goal
use Rattle.idx_lanes.proofs.lanes.find_lanes.Goals.{After-bounds-lo, In-loop-axis}

inside : (c : In-loop-axis) → c.loop-axis.axis < length c.args.part.now.region
inside c = omega (arith, same_axes-part c.args.part.now c.axes-axis-end.ensures.valid c.requires.inside, c.loop-axis-test.true, c.axes-axis-end.ensures.count)

pub bounds-lo-requires-clause-axis : goal.bounds-lo-requires-clause-axis
bounds-lo-requires-clause-axis c = inside c

pub find_lane-requires-clause-grid_axis : goal.find_lane-requires-clause-grid_axis
find_lane-requires-clause-grid_axis c = inside (goal.at.find_lane-requires-clause-grid_axis c).In-loop-axis

pub find_lane-requires-clause-small : goal.find_lane-requires-clause-small
find_lane-requires-clause-small c =
    let part = c.args.part.now in
    let axis = c.loop-axis.axis in
    let are = bounds-part part axis c.axes-axis-end.ensures.valid c.requires.inside (omega (arith, c.loop-axis-test.true, c.axes-axis-end.ensures.count)) in
    let small : weight_on part axis * extent (box_on part axis) ≤ 2 ^ 46 =
    weight-small part axis c.axes-axes.ensures.valid c.requires.few (inside (goal.at.find_lane-requires-clause-small c).In-loop-axis) in
    let wide : (bounds_on part axis).1 - (bounds_on part axis).0 ≤ extent (box_on part axis) = omega (arith, are.low, are.high, are.ordered) in
    omega (
      arith,
      small,
      mul-le-mul_right (weight_on part axis) wide,
      mul_comm (weight_on part axis) (extent (box_on part axis)),
      ap (λ n. ((bounds_on part axis).1 - (bounds_on part axis).0) * n) c.loop-axis.invariant.weight_is,
    )

pub loop-axis-init : goal.loop-axis-init
loop-axis-init c = lanes-none c.args.part.now _ c.requires.some (omega arith)

-- the lane that is found
next : (c : After-bounds-lo) (found : Found) →
    (1 ≤ count_on c.args.part.now c.loop-axis.axis) × (found ≡ record { start = start_on c.args.part.now c.loop-axis.axis; lane = lane_on c.args.part.now c.loop-axis.axis }) →
    IsNext c.args.part.now c.loop-axis.axis c.loop-axis.from c.loop-axis.weight c.loop-axis.lanes c.bounds-lo.result found.start found.lane
next c found is =
    next-found c.args.part.now c.loop-axis.axis c.loop-axis.from c.loop-axis.weight (c.args.part.now.bits + c.args.part.now.k) c.loop-axis.lanes c.bounds-lo.result found
    c.axes-axes.ensures.valid c.axes-axis-end.ensures.valid c.requires.inside c.requires.few refl c.requires.digits
    (omega (arith, c.loop-axis-test.true, c.axes-axis-end.ensures.count)) c.bounds-lo.ensures.value is.0 is.1 c.loop-axis.invariant

pub returns-in_err-found-clause-none : goal.returns-in_err-found-clause-none
returns-in_err-found-clause-none c =
    IfNone-of c.from_residual.result _ (c.loop-axis.axis, inside (goal.at.returns-in_err-found-clause-none c).In-loop-axis, omega (arith, c.in_err-found.ensures))

pub overflow_sub-from : goal.overflow_sub-from
overflow_sub-from c = (next (goal.at.overflow_sub-from c).After-bounds-lo c.in_ok-found.found c.in_ok-found.ensures).low

pub overflow_mul-from : goal.overflow_mul-from
overflow_mul-from c =
    let after = next (goal.at.overflow_mul-from c).After-bounds-lo c.in_ok-found.found c.in_ok-found.ensures in
    omega (arith, after.small, after.next.below)

pub overflow_add-from : goal.overflow_add-from
overflow_add-from c =
    let after = next (goal.at.overflow_add-from c).After-bounds-lo c.in_ok-found.found c.in_ok-found.ensures in
    omega (arith, after.small, after.next.below)

pub overflow_mul-weight : goal.overflow_mul-weight
overflow_mul-weight c =
    omega (arith, (next (goal.at.overflow_mul-weight c).After-bounds-lo c.in_ok-found.found c.in_ok-found.ensures).small)

pub loop-axis-preserved : goal.loop-axis-preserved
loop-axis-preserved c = (next (goal.at.loop-axis-preserved c).After-bounds-lo c.in_ok-found.found c.in_ok-found.ensures).next

pub returns-clause-some : goal.returns-clause-some
returns-clause-some c =
    lanes-made c.args.part.now c.loop-axis.axis c.axes-axes.result c.loop-axis.from c.loop-axis.weight c.loop-axis.lanes c.axes-axis-end.ensures.valid c.requires.inside
    (omega (arith, c.loop-axis-test.false, c.axes-axis-end.ensures.count)) (omega (arith, c.axes-axis-end.ensures.count)) c.axes-axes.ensures.count c.loop-axis.invariant
