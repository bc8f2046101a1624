-- The copies that are planned are those of a block's points: each goes to its point's place in the block, and comes from
-- its point's place in the volume.
use Rattle.std.proofs.Common.{◌≡◌, ◌↔◌, ℕ, zero, suc, ◌+◌, ◌-◌, ◌*◌, ◌/◌, ◌^◌, ◌<◌, ◌≤◌, List, length, length-drop, length-take, get_or, map, take, drop, refl, sym, ap, ◌∙◌, subst, arith}
use Rattle.std.specs.Prelude.{slice_index}
use Rattle.std.specs.List.{range_with_len}
use Rattle.std.proofs.lemmas.List.{ext_get_or}
use Rattle.std.proofs.lemmas.List.Elements.{All-drop, All-take}
use Rattle.std.proofs.lemmas.List.FromFn.{length-map-range_with_len, get_or-map-range_with_len}
use Rattle.idx_geom.specs.Region.{LiesIn, place_of}
use Rattle.idx_geom.proofs.LiesInLemmas.{LiesIn-at_axis, LiesIn-from_axes}
use Rattle.idx_hz.specs.Mask.{HasAddress, NamesAxes}
use Rattle.idx_hz.specs.Address.{hz_address, level}
use Rattle.idx_hz.specs.Stride.{stride}
use Rattle.idx_grid.specs.Grid.{IsOnAxis, LiesOn}
use Rattle.idx_grid.specs.declared.grid.Grid.{Grid}
use Rattle.idx_grid.specs.Block.{IsInBlock}
use Rattle.idx_grid.specs.LevelGrid.{IsGridAt}
use Rattle.idx_grid.proofs.LevelGridLemmas.{IsOnAxes-at_axis, IsOnAxes-from_axes, length-first_of, length-strides}
use Rattle.idx_lanes.specs.declared.block_part.BlockPart.{BlockPart}
use Rattle.idx_lanes.specs.Spread.{part_after, spread}
use Rattle.idx_lanes.specs.Lanes.{AreNumbers, block_digits, bounds_on, box_on, byte_at, count_on, from_of, lane_on, lowest_on, place_at, start_on, step_on, sum_to, weight_on}
use Rattle.idx_lanes.proofs.AxisLemmas.{IsAlong, IsStart, along, div-steps, on-steps, start-is, step-le, stride_pos, times-step_of}
use Rattle.idx_lanes.proofs.LanesLemmas.{AreOn, grid-on, lowest-lt}
use Rattle.idx_lanes.proofs.RankLemmas.{place_of-sum, weight, weight-part}
use Rattle.idx_lanes.proofs.SpreadLemmas.{part_after-spread}
use Rattle.idx_lanes.proofs.ZByLemmas.{hz_address-in_block, sum_to-same, z_by-sum}

-- a block, its box and its grid, and what its box and the volume's have in common
pub record IsSetting (part : BlockPart) (box : List (ℕ × ℕ)) (grid : Grid) (block : ℕ) : Type 0 where
  pub few : length part.mask ≤ 40
  pub digits : part.bits + part.k < length part.mask
  pub named : NamesAxes part.mask (length part.region)
  pub has : (p : List ℕ) → LiesIn part.region p → HasAddress part.mask p
  pub both : (p : List ℕ) → LiesIn part.common p ↔ (LiesIn part.region p × LiesIn box p)
  pub points : (p : List ℕ) → IsInBlock part.mask (length part.region) part.bits block p ↔ (LiesIn box p × LiesOn grid p)
  pub level_is : (p : List ℕ) → IsInBlock part.mask (length part.region) part.bits block p → level part.mask p ≡ suc (part.bits + part.k)
  pub grid_is : IsGridAt part.mask (length part.region) (suc (part.bits + part.k)) grid
  pub axes : length part.common ≡ length part.region

-- the coordinate of a number, and the point of the numbers
abbrev pub coordinate : BlockPart → (ℕ → ℕ) → ℕ → ℕ
coordinate part ks axis = start_on part axis + ks axis * step_on part axis

abbrev pub point_by : BlockPart → (ℕ → ℕ) → List ℕ
point_by part ks = map (coordinate part ks) (range_with_len 0 (length part.region))

length-point_by : (part : BlockPart) (ks : ℕ → ℕ) → length (point_by part ks) ≡ length part.region
length-point_by part ks = length-map-range_with_len (coordinate part ks) 0 (length part.region)

get_or-point_by : (part : BlockPart) (ks : ℕ → ℕ) (axis : ℕ) → axis < length part.region → get_or (point_by part ks) axis 0 ≡ coordinate part ks axis
get_or-point_by part ks axis within = get_or-map-range_with_len (coordinate part ks) 0 (length part.region) axis axis 0 within (omega arith)

sum_to-two : (f g h : ℕ → ℕ) (n : ℕ) → ((a : ℕ) → a < n → f a ≡ g a + h a) → sum_to f n ≡ sum_to g n + sum_to h n
sum_to-two f g h zero is = refl
sum_to-two f g h (suc n) is = omega (arith, sum_to-two f g h n (λ a less. is a (omega (arith, less))), is n (omega arith))

from_of-sum : (part : BlockPart) (n : ℕ) → from_of part n ≡ sum_to (λ axis. (start_on part axis - (box_on part axis).0) * weight_on part axis) n
from_of-sum part zero = refl
from_of-sum part (suc n) = ap (λ m. m + (start_on part n - (box_on part n).0) * weight_on part n) (from_of-sum part n)

module _ (part : BlockPart) (box : List (ℕ × ℕ)) (grid : Grid) (block : ℕ) (is : IsSetting part box grid block) where
  step-positive : (axis : ℕ) → 0 < step_on part axis
  step-positive axis = stride_pos part.mask (part.bits + part.k) axis

  starts : (axis : ℕ) → IsStart (bounds_on part axis).0 (lowest_on part axis) (step_on part axis) (start_on part axis)
  starts axis = start-is (bounds_on part axis).0 (lowest_on part axis) (step_on part axis) (lowest-lt part.mask (part.bits + part.k) axis is.digits)

  on_axis : (axis : ℕ) → axis < length part.region → AreOn part.mask (part.bits + part.k) axis grid
  on_axis axis within = grid-on part.mask (part.bits + part.k) (length part.region) axis grid is.grid_is within

  grid_axes : (length grid.first ≡ length part.region) × (length grid.step ≡ length part.region)
  grid_axes = (
    ap length is.grid_is.first ∙ length-first_of part.mask (suc (part.bits + part.k)) (length part.region),
    ap length is.grid_is.step
        ∙ length-strides part.mask (suc (part.bits + part.k) - 1) (length part.region),
  )

  -- the point of numbers lies between the bounds, and on the grid
  in_common : (ks : ℕ → ℕ) → AreNumbers part (length part.region) ks → LiesIn part.common (point_by part ks)
  in_common ks are = LiesIn-from_axes part.common (point_by part ks) (length-point_by part ks ∙ sym is.axes) (λ axis within.
      let here : axis < length part.region = omega (arith, within, is.axes) in
      let value = get_or-point_by part ks axis here in
      let below = step-le (start_on part axis) (bounds_on part axis).1 (step_on part axis) (ks axis) (step-positive axis) (are axis here) in
      (omega (arith, value, (starts axis).from), omega (arith, value, below)))

  on_grid : (ks : ℕ → ℕ) → LiesOn grid (point_by part ks)
  on_grid ks = IsOnAxes-from_axes grid.first grid.step (point_by part ks) (grid_axes.0 ∙ sym (length-point_by part ks)) (grid_axes.1 ∙ sym (length-point_by part ks)) (λ axis within.
      let here : axis < length part.region = omega (arith, within, length-point_by part ks) in
      let are = on_axis axis here in
      let steps : IsOnAxis (lowest_on part axis) (step_on part axis) (coordinate part ks axis) =
      on-steps (bounds_on part axis).0 (lowest_on part axis) (step_on part axis) (start_on part axis) (ks axis) (starts axis) in
      subst (λ (x : ℕ). IsOnAxis (get_or grid.first axis 0) (get_or grid.step axis 0) x) (sym (get_or-point_by part ks axis here))
      (subst (λ (s : ℕ). IsOnAxis (get_or grid.first axis 0) s (coordinate part ks axis)) (sym are.step)
      (subst (λ (f : ℕ). IsOnAxis f (step_on part axis) (coordinate part ks axis)) (sym are.first) steps)))

  pub in_region : (ks : ℕ → ℕ) → AreNumbers part (length part.region) ks → LiesIn part.region (point_by part ks)
  in_region ks are = ((is.both (point_by part ks)).0 (in_common ks are)).0

  pub in_block : (ks : ℕ → ℕ) → AreNumbers part (length part.region) ks → IsInBlock part.mask (length part.region) part.bits block (point_by part ks)
  in_block ks are = (is.points (point_by part ks)).1 (((is.both (point_by part ks)).0 (in_common ks are)).1, on_grid ks)

  -- the sample comes from the point's place in the volume
  pub byte-point : (ks : ℕ → ℕ) → AreNumbers part (length part.region) ks → part.size * place_of part.region (point_by part ks) ≡ byte_at part (length part.region) ks
  byte-point ks are =
      let n : ℕ = length part.region in
      place_of-sum part.size part.region (point_by part ks) (in_region ks are)
      ∙ sum_to-two (λ a. (get_or (point_by part ks) a 0 - (box_on part a).0) * weight part.size part.region a)
      (λ a. (start_on part a - (box_on part a).0) * weight_on part a) (λ a. ks a * (lane_on part a).step) n
      (λ a within.
      let value = get_or-point_by part ks a within in
      let bounds = LiesIn-at_axis part.region (point_by part ks) (in_region ks are) a within in
      let low : (box_on part a).0 ≤ start_on part a = lowest a within ks are in
      let steps : ks a * (lane_on part a).step ≡ ks a * (step_on part a * weight_on part a) = times-step_of (weight_on part a) (step_on part a) (count_on part a) (ks a) (are a within) in
      let ahead : get_or (point_by part ks) a 0 - (box_on part a).0 ≡ (start_on part a - (box_on part a).0) + ks a * step_on part a = omega (arith, value, low) in
      (λ i. ahead i * sym (weight-part part a) i)
      ∙ split (start_on part a - (box_on part a).0) (ks a) (step_on part a) (weight_on part a)
      ∙ ap (λ m. (start_on part a - (box_on part a).0) * weight_on part a + m) (sym steps))
      ∙ ap (λ m. m + sum_to (λ a. ks a * (lane_on part a).step) n) (sym (from_of-sum part n))
    where
      split : (a k s w : ℕ) → (a + k * s) * w ≡ a * w + k * (s * w)
      split a k s w = grind arith

      lowest : (a : ℕ) → a < length part.region → (ks : ℕ → ℕ) → AreNumbers part (length part.region) ks → (box_on part a).0 ≤ start_on part a
      lowest a within ks are =
          let zeros : ℕ → ℕ = λ (b : ℕ). 0 in
          let zeros_are : AreNumbers part (length part.region) zeros = λ b here. omega (arith, are b here) in
          let bounds = LiesIn-at_axis part.region (point_by part zeros) (in_region zeros zeros_are) a within in
          omega (arith, bounds.0, get_or-point_by part zeros a within)

  -- and goes to the point's place in the block
  pub place-point : (ks : ℕ → ℕ) → AreNumbers part (length part.region) ks → hz_address part.mask (point_by part ks) ≡ block * 2 ^ part.bits + place_at part (length part.region) ks
  place-point ks are =
      let n : ℕ = length part.region in
      let t : ℕ = part.bits + part.k in
      let digits : List ℕ = block_digits part.mask part.k part.bits in
      let within_mask : t ≤ length part.mask = omega (arith, is.digits) in
      let few : length digits ≤ 64 = omega (arith, is.few, short part.mask part.k (part.bits + part.k)) in
      let inside = in_block ks are in
      hz_address-in_block part.mask (point_by part ks) part.bits part.k block within_mask (is.level_is (point_by part ks) inside) inside.address
      ∙ ap (λ m. block * 2 ^ part.bits + m)
      (z_by-sum digits (λ a. slice_index (point_by part ks) a / stride part.mask t a) n (All-drop (λ d. d < n) part.k (take t part.mask) (All-take (λ d. d < n) t part.mask is.named))
      ∙ sum_to-same (λ a. spread a digits (slice_index (point_by part ks) a / stride part.mask t a)) (λ a. part_after (lane_on part a).bits (lane_on part a).first (ks a)) n
      (λ a here.
      ap (λ x. spread a digits (x / step_on part a)) (get_or-point_by part ks a here)
      ∙ ap (spread a digits) (div-steps (start_on part a) (ks a) (step_on part a) (step-positive a))
      ∙ sym (part_after-spread a digits (start_on part a / step_on part a) (ks a) few)))
    where
      short : (mask : List ℕ) (k t : ℕ) → length (drop k (take t mask)) ≤ length mask
      short mask k t = omega (arith, length-drop k (take t mask), length-take t mask)

  -- each point of the block in the volume's box has its numbers
  pub numbers-of : (p : List ℕ) → IsInBlock part.mask (length part.region) part.bits block p → LiesIn part.region p → (ks : ℕ → ℕ) × AreNumbers part (length part.region) ks × (point_by part ks ≡ p)
  numbers-of p inside within =
      let n : ℕ = length part.region in
      let parts = (is.points p).0 inside in
      let common : LiesIn part.common p = (is.both p).1 (within, parts.0) in
      let ks : ℕ → ℕ = λ a. (get_or p a 0 - start_on part a) / step_on part a in
      let size : length p ≡ n = inside.size in
      let each : (a : ℕ) → a < n → IsAlong (start_on part a) (bounds_on part a).1 (step_on part a) (get_or p a 0) = λ a here.
      let between = LiesIn-at_axis part.common p common a (omega (arith, here, is.axes)) in
      let are = on_axis a here in
      let on : IsOnAxis (get_or grid.first a 0) (get_or grid.step a 0) (get_or p a 0) = IsOnAxes-at_axis grid.first grid.step p parts.1 a (omega (arith, here, size)) in
      along (bounds_on part a).0 (bounds_on part a).1 (lowest_on part a) (step_on part a) (start_on part a) (get_or p a 0) (step-positive a) (starts a)
      (subst (λ (s : ℕ). IsOnAxis (lowest_on part a) s (get_or p a 0)) are.step (subst (λ (f : ℕ). IsOnAxis f (get_or grid.step a 0) (get_or p a 0)) are.first on)) between.0 between.1 in (
        ks,
        λ a here. (each a here).within,
        ext_get_or 0 (point_by part ks) p (length-point_by part ks ∙ sym size) (λ a here.
            let inside_axes : a < n = omega (arith, here, length-point_by part ks) in
            get_or-point_by part ks a inside_axes ∙ sym (each a inside_axes).is),
      )
