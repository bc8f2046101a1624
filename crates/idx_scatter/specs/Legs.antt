-- The places of points in the answer, counted along lanes axis by axis, the slowest first: what comes before a
-- coordinate of a lane follows from what comes before the row that the lane is in.
use Rattle.std.specs.Prelude.{◌≡◌, ℕ, ◌+◌, ◌-◌, ◌*◌, ◌^◌, ◌<◌, ◌≤◌, nat_lt, true, List, [], ◌∷◌, length}
use Rattle.std.specs.List.{slice_index_or}
use Rattle.idx_hz.specs.Mask.{NamesAxes}
use Rattle.idx_hz.specs.Stride.{stride}
use Rattle.idx_lanes.specs.Lanes.{box_on, start_on, step_on}
use Rattle.idx_lanes.specs.Spread.{part_after}
use Rattle.idx_lanes.specs.declared.block_part.BlockPart.{BlockPart}
use Rattle.idx_lanes.specs.declared.lane.Lane.{Lane}
use Rattle.idx_scatter.specs.Asked.{Asked}
use Rattle.idx_scatter.specs.Sides.{IsSane, IsSide, in_row}
use Rattle.idx_scatter.specs.declared.leg.Leg.{Leg}
use Rattle.idx_scatter.specs.declared.side.Side.{Side}
use Rattle.idx_scatter.specs.declared.tally.Tally.{Tally}

-- the levels and the axes go together
pub record IsOrdered (a : Asked) : Type 0 where
  pub named : NamesAxes a.mask (length a.region)
  pub levels : a.lo ≤ a.hi

-- the leg of an axis of a block's lanes
pub record IsLeg (a : Asked) (part : BlockPart) (axis : ℕ) (leg : Leg) : Type 0 where
  pub fine : IsSide (stride a.mask a.hi axis) (box_on part axis) leg.fine
  pub coarse : IsSide (stride a.mask (a.lo - 1) axis) (box_on part axis) leg.coarse
  pub here : leg.here ≡ start_on part axis - (box_on part axis).0
  pub step : leg.step ≡ step_on part axis

abbrev pub no_leg : Leg
no_leg =
    let none : Side = record { lo = 0; extent = 0; stride = 0; whole = 0; shift = 0; below = 0 } in
    record { fine = none; coarse = none; here = 0; step = 0 }

-- the leg of a lane, by how many axes are faster
abbrev pub leg_of : List Leg → List Lane → Leg
leg_of legs faster = slice_index_or legs (length faster) no_leg

-- before the only row of no axis comes none, and it lies on all strides
abbrev pub start_of : Asked → Tally
start_of a = record { fine = record { count = 0; lies = true }; coarse = record { count = 0; lies = nat_lt 0 a.lo } }

-- a coordinate of a leg, counted from the lower end, and what comes before it
abbrev pub coordinate_on : Leg → ℕ → ℕ
coordinate_on leg k = leg.here + k * leg.step

abbrev pub tally_at : Leg → Tally → ℕ → Tally
tally_at leg rows k = record {
  fine = in_row leg.fine rows.fine (coordinate_on leg k);
  coarse = in_row leg.coarse rows.coarse (coordinate_on leg k);
}

-- the place in the answer
abbrev pub place_by : Tally → ℕ
place_by tally = tally.fine.count - tally.coarse.count

-- what comes before, with so many points more on the finer strides
abbrev pub later : ℕ → Tally → Tally
later n tally = record { fine = record { count = tally.fine.count + n; lies = tally.fine.lies }; coarse = tally.coarse }

-- the coordinate lies on the axis, and what comes before it can be counted
pub record Fits (leg : Leg) (rows : Tally) (k : ℕ) : Type 0 where
  pub fine : IsSane leg.fine
  pub coarse : IsSane leg.coarse
  pub within : coordinate_on leg k < leg.fine.extent
  pub within_coarse : coordinate_on leg k < leg.coarse.extent
  pub few : leg.fine.extent * rows.fine.count + coordinate_on leg k < 2 ^ 64
  pub few_coarse : leg.coarse.extent * rows.coarse.count + coordinate_on leg k < 2 ^ 64

abbrev pub AllFit : List Leg → List Lane → Tally → Type 0
AllFit legs [] rows = Unit {0}
AllFit legs (lane ∷ faster) rows =
    (k : ℕ) → k < lane.count → Fits (leg_of legs faster) rows k × AllFit legs faster (tally_at (leg_of legs faster) rows k)

-- of each move along these lanes, the slowest first, something holds of the place in the block that it comes from, and
-- of what comes before the point in the answer
abbrev pub EachMove : (ℕ → Tally → Type 0) → List Leg → List Lane → ℕ → Tally → Type 0
EachMove P legs [] place rows = P place rows
EachMove P legs (lane ∷ faster) place rows =
    (k : ℕ) → k < lane.count →
    EachMove P legs faster (place + part_after lane.bits lane.first k) (tally_at (leg_of legs faster) rows k)
