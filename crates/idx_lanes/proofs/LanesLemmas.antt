-- The grid of a block on one axis, and what is planned there.
use Rattle.std.proofs.Common.{◌≡◌, ◌≢◌, ℕ, suc, ◌+◌, ◌-◌, ◌*◌, ◌^◌, ◌<◌, ◌≤◌, List, ◌∷◌, length, get_or, drop, set, Option, Some, None, refl, sym, ap, ◌∙◌, subst, ⊎_elim, arith}
use Rattle.std.specs.Prelude.{IfNone}
use Rattle.std.proofs.Math.Nat.{mul_comm, mul-le-mul, mul-le-mul_right}
use Rattle.std.proofs.lemmas.Bool.{cases_eq, cases_lt}
use Rattle.std.proofs.lemmas.List.{drop_all, drop-set, length-set}
use Rattle.idx_geom.specs.Region.{HoldsAll, IsRegion, extent, lower_ends, upper_ends}
use Rattle.idx_geom.proofs.LiesInLemmas.{LiesIn-lower_ends, LiesIn-upper_ends, axes_from_ends}
use Rattle.idx_geom.proofs.PointsLemmas.{size, length-points}
use Rattle.idx_hz.specs.Stride.{stride}
use Rattle.idx_grid.specs.declared.grid.Grid.{Grid}
use Rattle.idx_grid.specs.LevelGrid.{IsGridAt, first_on}
use Rattle.idx_grid.proofs.LevelGridLemmas.{first_on-digit, first_on-other, get_or-first_of, get_or-strides, length-first_of, length-strides, stride-twice}
use Rattle.idx_lanes.specs.declared.block_part.BlockPart.{BlockPart}
use Rattle.idx_lanes.specs.declared.lane.Lane.{Lane}
use Rattle.idx_lanes.specs.declared.lanes.Found.{Found}
use Rattle.idx_lanes.specs.Lanes.{AreLanes, bounds_on, box_on, count_on, from_of, lane_on, lanes_of, lowest_on, start_on, step_on, weight_on}
use Rattle.idx_lanes.specs.Axis.{count_to, first_from}
use Rattle.idx_lanes.proofs.RankLemmas.{weight, weight-all, weight-part, weight-up}
use Rattle.idx_lanes.proofs.AxisLemmas.{IsStart, start-is, step-le, stride_pos}
use Rattle.idx_lanes.proofs.BoundsLemmas.{AreBounds, AreBounds-at}

-- the lowest coordinate of a level's points lies before the first step
pub lowest-lt : (mask : List ℕ) (t axis : ℕ) → t < length mask → first_on mask (suc t) axis < stride mask t axis
lowest-lt mask t axis within =
    let before : suc t - 1 ≡ t = omega arith in
    let digit : ℕ = get_or mask (suc t - 1) 0 in
    ⊎_elim
    (λ (same : digit ≡ axis).
    let twice : stride mask (suc t - 1) axis ≡ stride mask (suc t) axis * 2 = stride-twice mask (suc t) axis (omega arith) (omega (arith, within)) same in
    omega (arith, first_on-digit mask (suc t) axis (omega arith) same, twice, ap (λ h. stride mask h axis) before, stride_pos mask (suc t) axis))
    (λ (other : digit ≢ axis).
    omega (arith, first_on-other mask (suc t) axis other, stride_pos mask t axis))
    (cases_eq digit axis)

-- the grid of a level, on an axis
pub record AreOn (mask : List ℕ) (t axis : ℕ) (grid : Grid) : Type 0 where
  pub firsts : axis < length grid.first
  pub steps : axis < length grid.step
  pub first : get_or grid.first axis 0 ≡ first_on mask (suc t) axis
  pub step : get_or grid.step axis 0 ≡ stride mask t axis

pub grid-on : (mask : List ℕ) (t axes axis : ℕ) (grid : Grid) → IsGridAt mask axes (suc t) grid → axis < axes → AreOn mask t axis grid
grid-on mask t axes axis grid is within =
    let before : suc t - 1 ≡ t = omega arith in
    record {
      firsts = omega (arith, within, ap length is.first, length-first_of mask (suc t) axes);
      steps = omega (arith, within, ap length is.step, length-strides mask (suc t - 1) axes);
      first = ap (λ xs. get_or xs axis 0) is.first ∙ get_or-first_of mask (suc t) axes axis within;
      step = ap (λ xs. get_or xs axis 0) is.step ∙ get_or-strides mask (suc t - 1) axes axis within ∙ ap (λ h. stride mask h axis) before;
    }

-- what is found on an axis
pub record AreFound (part : BlockPart) (axis : ℕ) (b : ℕ × ℕ) (first step start : ℕ) : Type 0 where
  pub bounds : b ≡ bounds_on part axis
  pub lowest : first ≡ lowest_on part axis
  pub pace : step ≡ step_on part axis
  pub start_is : start ≡ first_from b.0 first step

pub start-found : (part : BlockPart) (axis : ℕ) (b : ℕ × ℕ) (first step start : ℕ) → AreFound part axis b first step start → start ≡ start_on part axis
start-found part axis b first step start are = are.start_is ∙ (λ i. first_from (are.bounds i).0 (are.lowest i) (are.pace i))

pub count-found : (part : BlockPart) (axis : ℕ) (b : ℕ × ℕ) (first step start : ℕ) → AreFound part axis b first step start → count_to start b.1 step ≡ count_on part axis
count-found part axis b first step start are =
    let at : start ≡ start_on part axis = start-found part axis b first step start are in
    λ i. count_to (at i) (are.bounds i).1 (are.pace i)

-- where there is a second coordinate, the bytes up to it are few
pub few-bytes : (start hi lo step weight : ℕ) → 0 < step → lo ≤ start → (hi - lo) * weight < 2 ^ 64 → 1 < count_to start hi step → step * weight < 2 ^ 64
few-bytes start hi lo step weight some from small more =
    let le : start + 1 * step ≤ hi = step-le start hi step 1 some more in
    let wide : step ≤ hi - lo = omega (arith, le, from) in
    omega (arith, small, mul-le-mul_right weight wide)

-- ---- one axis after another

-- the bounds that are asked for lie in those of the box
pub bounds-part : (part : BlockPart) (axis : ℕ) → IsRegion part.common → HoldsAll part.region part.common → axis < length part.common →
    AreBounds part.region part.common axis (box_on part axis) (bounds_on part axis)
bounds-part part axis region inside within =
    AreBounds-at part.region part.common axis (box_on part axis) (bounds_on part axis) region
    (inside (lower_ends part.common) (LiesIn-lower_ends part.common region.ordered)) (inside (upper_ends part.common) (LiesIn-upper_ends part.common region.ordered)) within refl refl

pub same_axes-part : (part : BlockPart) → IsRegion part.common → HoldsAll part.region part.common → length part.region ≡ length part.common
same_axes-part part region inside = axes_from_ends part.region part.common (inside (lower_ends part.common) (LiesIn-lower_ends part.common region.ordered))

-- the weight of each axis is small
pub weight-small : (part : BlockPart) (axis : ℕ) → IsRegion part.region → part.size ≤ 64 → axis < length part.region → weight_on part axis * extent (box_on part axis) ≤ 2 ^ 46
weight-small part axis region few within =
    let n : ℕ = length part.region in
    let up : weight part.size part.region (suc axis) ≤ weight part.size part.region n =
    weight-up part.size part.region (suc axis) (n - suc axis) n (omega (arith, within)) (λ a h. let ordered = region.ordered a (0, 0) h in omega (arith, ordered)) in
    let all : weight part.size part.region n ≡ part.size * size part.region = weight-all part.size part.region in
    let points_few : size part.region ≤ 2 ^ 40 = omega (arith, region.few, length-points part.region) in
    let product : part.size * size part.region ≤ 64 * 2 ^ 40 = mul-le-mul few points_few in
    omega (arith, up, all, product, weight-part part (suc axis))

-- what is planned of the axes before one
pub record AreLanesSoFar (part : BlockPart) (axis from weight : ℕ) (lanes : List Lane) : Type 0 where
  pub weight_is : weight ≡ weight_on part axis
  pub from_is : from ≡ from_of part axis
  pub lanes_are : drop (5 - axis) lanes ≡ lanes_of part axis
  pub room : length lanes ≡ 5
  pub some : (a : ℕ) → a < axis → 1 ≤ count_on part a
  pub below : from < weight

pub lanes-none : (part : BlockPart) (lanes : List Lane) → 1 ≤ part.size → length lanes ≡ 5 → AreLanesSoFar part 0 0 part.size lanes
lanes-none part lanes some room = record {
  weight_is = refl;
  from_is = refl;
  lanes_are = drop_all (5 - 0) lanes (omega (arith, room));
  room = room;
  some = λ a lt. absurd (omega arith);
  below = omega (arith, some);
}

-- where the first coordinate of an axis lies in the box
pub start-in_box : (part : BlockPart) (axis t : ℕ) → t ≡ part.bits + part.k → t < length part.mask → AreBounds part.region part.common axis (box_on part axis) (bounds_on part axis) →
    1 ≤ count_on part axis →
    ((box_on part axis).0 ≤ start_on part axis) × (start_on part axis + 1 ≤ (box_on part axis).0 + extent (box_on part axis)) × (start_on part axis ≤ (bounds_on part axis).1)
start-in_box part axis t same within are some =
    let step : ℕ = step_on part axis in
    let low : lowest_on part axis < step = subst (λ (n : ℕ). first_on part.mask (suc n) axis < stride part.mask n axis) same (lowest-lt part.mask t axis within) in
    let is : IsStart (bounds_on part axis).0 (lowest_on part axis) step (start_on part axis) = start-is (bounds_on part axis).0 (lowest_on part axis) step low in
    let le : start_on part axis + 0 * step ≤ (bounds_on part axis).1 =
    step-le (start_on part axis) (bounds_on part axis).1 step 0 (stride_pos part.mask (part.bits + part.k) axis) (omega (arith, some)) in
    (omega (arith, is.from, are.low), omega (arith, le, is.from, are.low, are.high), omega (arith, le))

pub lanes-more : (part : BlockPart) (axis from weight : ℕ) (lanes : List Lane) (from' weight' at : ℕ) → axis < 5 → at ≡ 4 - axis →
    ((box_on part axis).0 ≤ start_on part axis) → (start_on part axis + 1 ≤ (box_on part axis).0 + extent (box_on part axis)) → 1 ≤ count_on part axis →
    from' ≡ from + (start_on part axis - (box_on part axis).0) * weight → weight' ≡ weight * extent (box_on part axis) →
    AreLanesSoFar part axis from weight lanes → AreLanesSoFar part (axis + 1) from' weight' (set lanes at (lane_on part axis))
lanes-more part axis from weight lanes from' weight' at few where_at low high count to_from to_weight are =
    let next : axis + 1 ≡ suc axis = omega arith in
    let ahead : ℕ = start_on part axis - (box_on part axis).0 in
    let wide : ahead + 1 ≤ extent (box_on part axis) = omega (arith, low, high) in
    let more : (ahead + 1) * weight ≤ extent (box_on part axis) * weight = mul-le-mul_right weight wide in
    let front : 5 - (axis + 1) ≡ at = omega (arith, few, where_at) in
    let behind : at + 1 ≡ 5 - axis = omega (arith, few, where_at) in
    record {
      weight_is = to_weight ∙ ap (λ n. n * extent (box_on part axis)) are.weight_is ∙ ap (weight_on part) (sym next);
      from_is = to_from ∙ (λ i. are.from_is i + ahead * are.weight_is i) ∙ ap (from_of part) (sym next);
      lanes_are =
          ap (λ n. drop n (set lanes at (lane_on part axis))) front
          ∙ drop-set lanes at (lane_on part axis) (omega (arith, few, where_at, are.room))
          ∙ ap (λ n. lane_on part axis ∷ drop n lanes) behind
          ∙ ap (λ ls. lane_on part axis ∷ ls) are.lanes_are
          ∙ ap (lanes_of part) (sym next);
      room = length-set lanes at (lane_on part axis) ∙ are.room;
      some = λ a lt. ⊎_elim (λ (less : a < axis). are.some a less) (λ (ge : axis ≤ a). let same : axis ≡ a = omega (arith, lt, ge) in subst (λ (n : ℕ). 1 ≤ count_on part n) same count)
          (cases_lt a axis);
      below = omega (arith, to_from, to_weight, are.below, more, one_more ahead weight, mul_comm (extent (box_on part axis)) weight);
    }
  where
    one_more : (n x : ℕ) → (n + 1) * x ≡ n * x + x
    one_more n x = grind arith

-- what the lane that is found is good for
pub record IsNext (part : BlockPart) (axis from weight : ℕ) (lanes : List Lane) (e : ℕ × ℕ) (start : ℕ) (lane : Lane) : Type 0 where
  pub low : e.0 ≤ start
  pub small : weight * (e.1 - e.0 + 1) ≤ 2 ^ 46
  pub next : AreLanesSoFar part (axis + 1) (from + (start - e.0) * weight) (weight * (e.1 - e.0 + 1)) (set lanes (4 - axis) lane)

pub next-found : (part : BlockPart) (axis from weight t : ℕ) (lanes : List Lane) (e : ℕ × ℕ) (found : Found) → IsRegion part.region → IsRegion part.common →
    HoldsAll part.region part.common → part.size ≤ 64 → t ≡ part.bits + part.k → t < length part.mask →
    axis < length part.common → e ≡ box_on part axis → 1 ≤ count_on part axis → found ≡ record { start = start_on part axis; lane = lane_on part axis } →
    AreLanesSoFar part axis from weight lanes → IsNext part axis from weight lanes e found.start found.lane
next-found part axis from weight t lanes e found region common inside few level digits within at some is are =
    let same : length part.region ≡ length part.common = same_axes-part part common inside in
    let here : axis < length part.region = omega (arith, same, within) in
    let bounds = bounds-part part axis common inside within in
    let first = start-in_box part axis t level digits bounds some in
    let axes_few : axis < 5 = omega (arith, region.axes.1, here) in
    let begins : found.start ≡ start_on part axis = λ i. (is i).start in
    let lane : found.lane ≡ lane_on part axis = λ i. (is i).lane in
    let lo : e.0 ≡ (box_on part axis).0 = λ i. (at i).0 in
    let hi : e.1 ≡ (box_on part axis).1 = λ i. (at i).1 in
    let ordered = region.ordered axis (0, 0) here in
    let wide : e.1 - e.0 + 1 ≡ extent (box_on part axis) = omega (arith, lo, hi, ordered) in
    let bytes : weight * (e.1 - e.0 + 1) ≡ weight_on part axis * extent (box_on part axis) = λ i. are.weight_is i * wide i in
    record {
      low = omega (arith, first.0, begins, lo);
      small = omega (arith, weight-small part axis region few here, bytes);
      next = subst (λ (l : Lane). AreLanesSoFar part (axis + 1) (from + (found.start - e.0) * weight) (weight * (e.1 - e.0 + 1)) (set lanes (4 - axis) l)) (sym lane)
          (lanes-more part axis from weight lanes (from + (found.start - e.0) * weight) (weight * (e.1 - e.0 + 1)) (4 - axis) axes_few refl first.0 first.1 some
          (λ i. from + (begins i - lo i) * weight) (λ i. weight * wide i) are);
    }

-- with the last axis the lanes is made
pub lanes-made : (part : BlockPart) (axis axes from weight : ℕ) (lanes : List Lane) → IsRegion part.common → HoldsAll part.region part.common → length part.common ≤ axis →
    axis ≤ length part.common → axes ≡ length part.region → AreLanesSoFar part axis from weight lanes → AreLanes part (length part.region) from (drop (5 - axes) lanes)
lanes-made part axis axes from weight lanes common inside all within count are =
    let same : length part.region ≡ length part.common = same_axes-part part common inside in
    let last : axis ≡ length part.region = omega (arith, same, all, within) in
    let front : axes ≡ axis = omega (arith, count, last) in
    subst (λ (n : ℕ). AreLanes part n from (drop (5 - axes) lanes)) last (record {
      along = ap (λ n. drop (5 - n) lanes) front ∙ are.lanes_are;
      begins = are.from_is;
      some = are.some;
    })

pub IfNone-of : {T : Type 0} (o : Option T) (P : Type 0) → P → IfNone o P
IfNone-of None P p = p
IfNone-of (Some x) P p = tt
