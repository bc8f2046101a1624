use Rattle.std.proofs.Common.{◌≡◌, ℕ, suc, ◌+◌, ◌<◌, length, refl, ap, ◌∙◌, arith}
use Rattle.std.proofs.lemmas.List.{length-map}
use Rattle.idx_geom.specs.Region.{HoldsAll, IsRegion}
use Rattle.idx_grid.proofs.GridLemmas.{lower_at}
use Rattle.idx_grid.specs.LevelGrid.{IsGridAt}
use Rattle.idx_grid.specs.declared.grid.Grid.{Grid}
use Rattle.idx_lanes.specs.Axis.{first_from}
use Rattle.idx_lanes.specs.Lanes.{bounds_on}
use Rattle.idx_lanes.specs.declared.block_part.BlockPart.{BlockPart}
use Rattle.idx_lanes.proofs.LanesLemmas.{AreFound, AreOn, bounds-part, grid-on, lowest-lt, same_axes-part, start-found}
use Rattle.idx_scatter.proofs.order.leg_start.Goals as goal
use Rattle.idx_scatter.proofs.order.leg_start.Goals.{After-first_from-start}

grid_axis : (part : BlockPart) (axis : ℕ) → IsRegion part.common → HoldsAll part.region part.common → axis < length part.common → axis < length part.region
grid_axis part axis valid inside within = omega (arith, within, same_axes-part part valid inside)

on : (part : BlockPart) (axis : ℕ) (grid : Grid) → IsRegion part.common → HoldsAll part.region part.common → axis < length part.common →
    IsGridAt part.mask (length part.region) (suc (part.bits + part.k)) grid → AreOn part.mask (part.bits + part.k) axis grid
on part axis grid valid inside within is = grid-on part.mask (part.bits + part.k) (length part.region) axis grid is (grid_axis part axis valid inside within)

pub get-step-requires : goal.get-step-requires
get-step-requires c = (on c.args.part.now c.args.axis c.args.grid.now c.requires.valid c.requires.inside c.requires.axis c.requires.grid).steps

pub get-requires-2 : goal.get-requires-2
get-requires-2 c = (on c.args.part.now c.args.axis c.args.grid.now c.requires.valid c.requires.inside c.requires.axis c.requires.grid).firsts

pub get-requires-3 : goal.get-requires-3
get-requires-3 c = omega
    (arith, grid_axis c.args.part.now c.args.axis c.requires.valid c.requires.inside c.requires.axis, ap length c.lo-2.ensures, length-map c.args.part.now.region (λ (b : ℕ × ℕ). b.0))

pub first_from-start-requires-clause-first : goal.first_from-start-requires-clause-first
first_from-start-requires-clause-first c =
    let are = on c.args.part.now c.args.axis c.args.grid.now c.requires.valid c.requires.inside c.requires.axis c.requires.grid in
    omega (arith, c.get-2.ensures.value, c.get-step.ensures.value, are.first, are.step, lowest-lt c.args.part.now.mask (c.args.part.now.bits + c.args.part.now.k) c.args.axis c.requires.digits)

-- the lower end of the bounds that are asked for, and the first coordinate between them
low : (c : After-first_from-start) → c.get.result ≡ (bounds_on c.args.part.now c.args.axis).0
low c = lower_at c.args.part.now.common c.lo.result c.args.axis c.get.result c.requires.axis c.lo.ensures c.get.ensures.value

found : (c : After-first_from-start) → AreFound c.args.part.now c.args.axis (bounds_on c.args.part.now c.args.axis) c.get-2.result c.get-step.result c.first_from-start.result
found c =
    let are = on c.args.part.now c.args.axis c.args.grid.now c.requires.valid c.requires.inside c.requires.axis c.requires.grid in
    record {
      bounds = refl;
      lowest = c.get-2.ensures.value ∙ are.first;
      pace = c.get-step.ensures.value ∙ are.step;
      start_is = c.first_from-start.ensures.value ∙ ap (λ n. first_from n c.get-2.result c.get-step.result) (low c);
    }

pub overflow_sub-result : goal.overflow_sub-result
overflow_sub-result c =
    let at = (goal.at.overflow_sub-result c).After-first_from-start in
    let part = c.args.part.now in
    let inside = grid_axis part c.args.axis c.requires.valid c.requires.inside c.requires.axis in
    let bounds = bounds-part part c.args.axis c.requires.valid c.requires.inside c.requires.axis in
    omega (arith, low at, bounds.low, c.first_from-start.ensures.from, lower_at part.region c.lo-2.result c.args.axis c.get-3.result inside c.lo-2.ensures c.get-3.ensures.value)

pub returns-clause-here : goal.returns-clause-here
returns-clause-here c =
    let at = (goal.at.returns-clause-here c).After-first_from-start in
    let part = c.args.part.now in
    let inside = grid_axis part c.args.axis c.requires.valid c.requires.inside c.requires.axis in
    omega (
      arith,
      start-found part c.args.axis (bounds_on part c.args.axis) c.get-2.result c.get-step.result c.first_from-start.result (found at),
      lower_at part.region c.lo-2.result c.args.axis c.get-3.result inside c.lo-2.ensures c.get-3.ensures.value,
    )

pub returns-clause-step : goal.returns-clause-step
returns-clause-step c =
    c.get-step.ensures.value ∙ (on c.args.part.now c.args.axis c.args.grid.now c.requires.valid c.requires.inside c.requires.axis c.requires.grid).step
