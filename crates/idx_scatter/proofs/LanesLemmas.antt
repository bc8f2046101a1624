-- The places in the answer that are counted along the lanes of a block are those of its points.
use Rattle.std.proofs.Common.{◌≡◌, ℕ, zero, suc, ◌+◌, ◌-◌, ◌*◌, ◌^◌, ◌<◌, ◌≤◌, Bool, true, false, List, [], ◌∷◌, length, get_or, drop, take, refl, sym, ap, ◌∙◌, subst, inl, inr, arith}
use Rattle.std.proofs.lemmas.Bool.{cases_lt}
use Rattle.std.specs.Prelude.{nat_lt}
use Rattle.std.proofs.lemmas.Bool.Decides.{nat_tests}
use Rattle.std.proofs.lemmas.List.{drop_all, length-take}
use Rattle.std.proofs.lemmas.List.Sums.{count_by-le-length, length-filter}
use Rattle.std.proofs.Math.Seq.{drop-cons}
use Rattle.std.proofs.Math.Nat.{mul-le-mul_left, mul-le-mul_right, mul_comm}
use Rattle.idx_lanes.specs.Axis.{on}
use Rattle.idx_geom.specs.Region.{HoldsAll, IsRegion, extent, points}
use Rattle.idx_geom.proofs.PointsLemmas.{length-points, size}
use Rattle.idx_hz.specs.Stride.{stride}
use Rattle.idx_lanes.specs.Spread.{part_after}
use Rattle.idx_lanes.specs.declared.block_part.BlockPart.{BlockPart}
use Rattle.idx_lanes.specs.declared.lane.Lane.{Lane}
use Rattle.idx_lanes.specs.Copies.{EachCopy, IsRight}
use Rattle.idx_lanes.specs.Lanes.{AreLanes, bounds_on, box_on, byte_at, count_on, from_of, lane_on, lanes_of, place_at, start_on, step_on, sum_to, weight_on}
use Rattle.idx_lanes.proofs.AxisLemmas.{step-le, stride_pos, times-step_of}
use Rattle.idx_lanes.proofs.EachLemmas.{each-elim}
use Rattle.idx_lanes.proofs.LanesLemmas.{bounds-part, same_axes-part, start-in_box}
use Rattle.idx_scatter.specs.Asked.{Asked, asked_before}
use Rattle.idx_scatter.specs.Legs.{AllFit, EachMove, Fits, IsLeg, IsOrdered, coordinate_on, leg_of, no_leg, place_by, start_of, tally_at}
use Rattle.idx_scatter.specs.Moves.{AreMoved, AreMovedBy, IsAsked, IsPut, IsRoom, IsThere, IsWanted}
use Rattle.idx_scatter.specs.Sides.{IsBefore}
use Rattle.idx_scatter.specs.declared.leg.Leg.{Leg}
use Rattle.idx_scatter.specs.declared.tally.Tally.{Tally}
use Rattle.idx_scatter.proofs.OrderLemmas.{before-fine, before-split}
use Rattle.idx_scatter.proofs.SideLemmas.{before-none, before-row, in_row-none}

-- ---- sizes

-- a region has no more points without its first axes
size-drop : (bs : List (ℕ × ℕ)) (n : ℕ) → ((a : ℕ) → a < length bs → 1 ≤ extent (get_or bs a (0, 0))) → size (drop n bs) ≤ size bs
size-drop [] zero some = omega arith
size-drop [] (suc n) some = omega arith
size-drop (b ∷ bs) zero some = omega arith
size-drop (b ∷ bs) (suc n) some =
    let rest : size (drop n bs) ≤ size bs = size-drop bs n (λ a within. some (suc a) (omega (arith, within))) in
    let wide : 1 * size bs ≤ extent b * size bs = mul-le-mul_right (size bs) (some 0 (omega arith)) in
    omega (arith, rest, wide)

-- no more come before a place than there are places before it
before-few : (s : ℕ → ℕ) (n : ℕ) (bs : List (ℕ × ℕ)) (r count : ℕ) (lies : Bool) → IsBefore s n bs r count lies → count ≤ r
before-few s n bs r count lies is =
    omega (arith, is.count, length-filter (on s n) (take r (points bs)), count_by-le-length (on s n) (take r (points bs)), length-take r (points bs))

length-lanes : (part : BlockPart) (n : ℕ) → length (lanes_of part n) ≡ n
length-lanes part zero = refl
length-lanes part (suc n) = ap suc (length-lanes part n)

-- ---- rows

-- the legs of a block's lanes in the region that is asked for
pub record IsCourse (a : Asked) (part : BlockPart) (legs : List Leg) : Type 0 where
  pub valid : IsOrdered a
  pub same : part.region ≡ a.region
  pub unit : part.size ≡ 1
  pub region : IsRegion part.region
  pub common : IsRegion part.common
  pub inside : HoldsAll part.region part.common
  pub digits : part.bits + part.k < length part.mask
  pub each : (axis : ℕ) → axis < length part.region → IsLeg a part axis (get_or legs axis no_leg)

-- what comes before a row of the first n axes
pub record IsTally (a : Asked) (bs : List (ℕ × ℕ)) (n r : ℕ) (rows : Tally) : Type 0 where
  pub within : r < length (points bs)
  pub fine : IsBefore (stride a.mask a.hi) n bs r rows.fine.count rows.fine.lies
  pub coarse : 1 ≤ a.lo → IsBefore (stride a.mask (a.lo - 1)) n bs r rows.coarse.count rows.coarse.lies
  pub none : a.lo ≡ 0 → (rows.coarse.count ≡ 0) × (rows.coarse.lies ≡ false)

coarse-few : (a : Asked) (bs : List (ℕ × ℕ)) (n r : ℕ) (rows : Tally) → IsTally a bs n r rows → rows.coarse.count ≤ r
coarse-few a bs n r rows is = elim (cases_lt a.lo 1) [
  | inl none ↦ omega (arith, (is.none (omega (arith, none))).0)
  | inr some ↦ before-few (stride a.mask (a.lo - 1)) n bs r rows.coarse.count rows.coarse.lies (is.coarse some)
]

-- the place in the answer of a point
pub record IsAnswer (a : Asked) (at : ℕ) (rows : Tally) : Type 0 where
  pub ordered : rows.coarse.count ≤ rows.fine.count
  pub place : place_by rows ≡ asked_before a at

answered : (a : Asked) (r : ℕ) (rows : Tally) → IsOrdered a → IsTally a a.region 0 r rows → IsAnswer a r rows
answered a r rows valid is = elim (cases_lt a.lo 1) [
  | inl less ↦
      let lo : a.lo ≡ 0 = omega (arith, less) in
      let none = is.none lo in
      let all = before-fine a r valid.named lo in
      record { ordered = omega (arith, none.0); place = omega (arith, none.0, is.fine.count, all) }
  | inr some ↦
      let split = before-split a r valid.named some valid.levels in
      let coarse = is.coarse some in
      record { ordered = omega (arith, is.fine.count, coarse.count, split); place = omega (arith, is.fine.count, coarse.count, split) }
]

-- before the only row of no axis
started : (a : Asked) (n : ℕ) → IsTally a [] n 0 (start_of a)
started a n = record {
  within = omega arith;
  fine = before-none (stride a.mask a.hi) n [] 0 tt (omega arith);
  coarse = λ some.
      let lies : true ≡ nat_lt 0 a.lo = grind (arith, nat_tests) in
      subst (λ (t : Bool). IsBefore (stride a.mask (a.lo - 1)) n [] 0 0 t) lies (before-none (stride a.mask (a.lo - 1)) n [] 0 tt (omega arith));
  none = λ lo. (refl, grind (arith, nat_tests));
}

module _ (a : Asked) (part : BlockPart) (legs : List Leg) (is : IsCourse a part legs) where
  some_extent : (n : ℕ) → n < length part.region → 1 ≤ extent (box_on part n)
  some_extent n within = let ordered = is.region.ordered n (0, 0) within in omega (arith, ordered)

  -- the leg of an axis
  leg-at : (n : ℕ) → n < length part.region → IsLeg a part n (leg_of legs (lanes_of part n))
  leg-at n within = subst (λ (m : ℕ). IsLeg a part n (get_or legs m no_leg)) (sym (length-lanes part n)) (is.each n within)

  abbrev ahead : ℕ → ℕ → ℕ
  ahead n k = start_on part n - (box_on part n).0 + k * step_on part n

  coordinate-is : (n k : ℕ) → n < length part.region → coordinate_on (leg_of legs (lanes_of part n)) k ≡ ahead n k
  coordinate-is n k within = let leg = leg-at n within in λ i. leg.here i + k * leg.step i

  -- the coordinates of a lane lie on its axis
  in_box : (n k : ℕ) → n < length part.region → k < count_on part n → ahead n k < extent (box_on part n)
  in_box n k within lt =
      let bounds = bounds-part part n is.common is.inside (omega (arith, within, same_axes-part part is.common is.inside)) in
      let start = start-in_box part n (part.bits + part.k) refl is.digits bounds (omega (arith, lt)) in
      let last = step-le (start_on part n) (bounds_on part n).1 (step_on part n) k (stride_pos part.mask (part.bits + part.k) n) lt in
      omega (arith, start.0, start.1, last, bounds.high, bounds.low, bounds.ordered)

  module _ (n r k : ℕ) (rows : Tally) (within : n < length part.region) (lt : k < count_on part n) (before : IsTally a (drop (suc n) part.region) (suc n) r rows) where
    abbrev b : ℕ × ℕ
    b = box_on part n

    abbrev bs : List (ℕ × ℕ)
    bs = drop (suc n) part.region

    abbrev leg : Leg
    leg = leg_of legs (lanes_of part n)

    leg_is : IsLeg a part n leg
    leg_is = leg-at n within

    abbrev here : ℕ
    here = coordinate_on leg k

    small : here < extent b
    small = omega (arith, coordinate-is n k within, in_box n k within lt)

    whole : drop n part.region ≡ b ∷ bs
    whole = drop-cons part.region n (0, 0) within

    room : r * extent b + here < length (points (b ∷ bs))
    room =
        let le : r + 1 ≤ size bs = omega (arith, before.within, length-points bs) in
        let more : (r + 1) * extent b ≡ r * extent b + extent b = grind arith in
        omega (arith, small, length-points (b ∷ bs), mul-le-mul_right (extent b) le, more, mul_comm (size bs) (extent b))

    next-row : IsTally a (b ∷ bs) n (r * extent b + here) (tally_at leg rows k)
    next-row = record {
      within = room;
      fine = before-row (stride a.mask a.hi) n b bs leg.fine rows.fine r here leg_is.fine before.fine before.within small;
      coarse = λ some. before-row (stride a.mask (a.lo - 1)) n b bs leg.coarse rows.coarse r here leg_is.coarse (before.coarse some) before.within small;
      none = λ lo. in_row-none leg.coarse rows.coarse here (before.none lo).0 (before.none lo).1;
    }

    next : IsTally a (drop n part.region) n (r * extent b + here) (tally_at leg rows k)
    next = subst (λ (t : List (ℕ × ℕ)). IsTally a t n (r * extent b + here) (tally_at leg rows k)) (sym whole) next-row

    near : size (b ∷ bs) ≤ 2 ^ 40
    near = omega (arith, ap size whole, size-drop part.region n (λ a inside. some_extent a inside), length-points part.region, is.region.few)

    fits : Fits leg rows k
    fits = record {
      fine = leg_is.fine.sane;
      coarse = leg_is.coarse.sane;
      within = omega (arith, small, leg_is.fine.wide);
      within_coarse = omega (arith, small, leg_is.coarse.wide);
      few = omega (
        arith,
        room,
        length-points (b ∷ bs),
        near,
        mul-le-mul_left (extent b) (before-few (stride a.mask a.hi) (suc n) bs r rows.fine.count rows.fine.lies before.fine),
        mul_comm r (extent b),
        ap (λ e. e * rows.fine.count) leg_is.fine.wide,
      );
      few_coarse = omega (
        arith,
        room,
        length-points (b ∷ bs),
        near,
        mul-le-mul_left (extent b) (coarse-few a bs (suc n) r rows before),
        mul_comm r (extent b),
        ap (λ e. e * rows.coarse.count) leg_is.coarse.wide,
      );
    }

  pub all-fit : (n r : ℕ) (rows : Tally) → n ≤ length part.region → IsTally a (drop n part.region) n r rows → AllFit legs (lanes_of part n) rows
  all-fit zero r rows within before = tt
  all-fit (suc n) r rows within before = λ k lt.
      let less : n < length part.region = omega (arith, within) in (
        fits n r k rows less lt before,
        all-fit n (r * extent (box_on part n) + coordinate_on (leg_of legs (lanes_of part n)) k) (tally_at (leg_of legs (lanes_of part n)) rows k) (omega (arith, less))
            (next n r k rows less lt before),
      )

  -- the place in the region of the first point of a row of fewer axes
  moved : (n at r k : ℕ) → n < length part.region → k < count_on part n → at ≡ r * weight_on part (suc n) + from_of part (suc n) →
      at + k * (lane_on part n).step ≡ (r * extent (box_on part n) + coordinate_on (leg_of legs (lanes_of part n)) k) * weight_on part n + from_of part n
  moved n at r k within lt is_at =
      let steps = times-step_of (weight_on part n) (step_on part n) (count_on part n) k lt in
      is_sum at (k * (lane_on part n).step) r (weight_on part n) (extent (box_on part n)) (from_of part n) (start_on part n - (box_on part n).0) k (step_on part n)
      (coordinate_on (leg_of legs (lanes_of part n)) k) is_at steps (coordinate-is n k within)
    where
      is_sum : (at far r w e f d k s x : ℕ) → at ≡ r * (w * e) + (f + d * w) → far ≡ k * (s * w) → x ≡ d + k * s → at + far ≡ (r * e + x) * w + f
      is_sum at far r w e f d k s x first second third = (λ i. first i + second i) ∙ sum r w e f d k s ∙ ap (λ x. (r * e + x) * w + f) (sym third)
        where
          sum : (r w e f d k s : ℕ) → r * (w * e) + (f + d * w) + k * (s * w) ≡ (r * e + (d + k * s)) * w + f
          sum r w e f d k s = grind arith

  -- at the first axis the row is the place
  at_point : (at r : ℕ) (rows : Tally) → at ≡ r * weight_on part 0 + from_of part 0 → IsTally a (drop 0 part.region) 0 r rows → IsAnswer a at rows
  at_point at r rows is_at before =
      let one : r * weight_on part 0 ≡ r * 1 = ap (λ n. r * n) is.unit in
      let same : r ≡ at = omega (arith, is_at, one) in
      subst (λ (n : ℕ). IsAnswer a n rows) same (answered a r rows is.valid (subst (λ (bs : List (ℕ × ℕ)). IsTally a bs 0 r rows) is.same before))

  pub moves-from : (P : ℕ → ℕ → Type 0) (Q : ℕ → Tally → Type 0) → ((at place : ℕ) (t : Tally) → IsAnswer a at t → P at place → Q place t) → (n at place r : ℕ) (rows : Tally) →
      n ≤ length part.region →
      at ≡ r * weight_on part n + from_of part n → IsTally a (drop n part.region) n r rows → EachCopy P (lanes_of part n) at place → EachMove Q legs (lanes_of part n) place rows
  moves-from P Q given zero at place r rows within is_at before each = given at place rows (at_point at r rows is_at before) each
  moves-from P Q given (suc n) at place r rows within is_at before each = λ k lt.
      let less : n < length part.region = omega (arith, within) in
      moves-from P Q given n (at + k * (lane_on part n).step) (place + part_after (lane_on part n).bits (lane_on part n).first k)
      (r * extent (box_on part n) + coordinate_on (leg_of legs (lanes_of part n)) k) (tally_at (leg_of legs (lanes_of part n)) rows k)
      (omega (arith, less)) (moved n at r k less lt is_at) (next n r k rows less lt before) (each k lt)

  pub moves-to : (P : ℕ → ℕ → Type 0) (Q : ℕ → Tally → Type 0) → ((at place : ℕ) (t : Tally) → IsAnswer a at t → Q place t → P at place) → (n at place r : ℕ) (rows : Tally) → n ≤ length part.region →
      at ≡ r * weight_on part n + from_of part n → IsTally a (drop n part.region) n r rows → EachMove Q legs (lanes_of part n) place rows → EachCopy P (lanes_of part n) at place
  moves-to P Q given zero at place r rows within is_at before each = given at place rows (at_point at r rows is_at before) each
  moves-to P Q given (suc n) at place r rows within is_at before each = λ k lt.
      let less : n < length part.region = omega (arith, within) in
      moves-to P Q given n (at + k * (lane_on part n).step) (place + part_after (lane_on part n).bits (lane_on part n).first k)
      (r * extent (box_on part n) + coordinate_on (leg_of legs (lanes_of part n)) k) (tally_at (leg_of legs (lanes_of part n)) rows k)
      (omega (arith, less)) (moved n at r k less lt is_at) (next n r k rows less lt before) (each k lt)

  -- ---- a lanes

  begun : (at : ℕ) → at ≡ from_of part (length part.region) → at ≡ 0 * weight_on part (length part.region) + from_of part (length part.region)
  begun at is_at = omega (arith, is_at)

  start : IsTally a (drop (length part.region) part.region) (length part.region) 0 (start_of a)
  start = subst (λ (bs : List (ℕ × ℕ)). IsTally a bs (length part.region) 0 (start_of a)) (sym (drop_all (length part.region) part.region (omega arith))) (started a (length part.region))

  module _ (at : ℕ) (lanes : List Lane) (found : AreLanes part (length part.region) at lanes) where
    pub lanes-fits : AllFit legs lanes (start_of a)
    lanes-fits = subst (λ (ls : List Lane). AllFit legs ls (start_of a)) (sym found.along) (all-fit (length part.region) 0 (start_of a) (omega arith) start)

    pub few-lanes : IsRegion part.region → length lanes ≤ 5
    few-lanes region = omega (arith, ap length found.along, length-lanes part (length part.region), region.axes)

    pub lanes-from : (P : ℕ → ℕ → Type 0) (Q : ℕ → Tally → Type 0) → ((at place : ℕ) (t : Tally) → IsAnswer a at t → P at place → Q place t) → EachCopy P lanes at 0 →
        EachMove Q legs lanes 0 (start_of a)
    lanes-from P Q given each =
        subst (λ (ls : List Lane). EachMove Q legs ls 0 (start_of a)) (sym found.along)
        (moves-from P Q given (length part.region) at 0 0 (start_of a) (omega arith) (begun at found.begins) start (subst (λ (ls : List Lane). EachCopy P ls at 0) found.along each))

    pub lanes-room : (size : ℕ) (samples into : List ℕ) → EachCopy (IsThere a size samples into) lanes at 0 → EachMove (IsRoom size samples into) legs lanes 0 (start_of a)
    lanes-room size samples into each = lanes-from (IsThere a size samples into) (IsRoom size samples into)
        (λ at place t answer there. record {
          ordered = answer.ordered;
          room = subst (λ (o : ℕ). (o + 1) * size ≤ length into) (sym answer.place) there.room;
          read = there.read;
        }) each

    pub lanes-wanted : (want : ℕ → List ℕ) (size : ℕ) (samples : List ℕ) → EachCopy (IsAsked a want size samples) lanes at 0 → EachMove (IsWanted want size samples) legs lanes 0 (start_of a)
    lanes-wanted want size samples each = lanes-from (IsAsked a want size samples) (IsWanted want size samples) (λ at place t answer asked. asked ∙ ap want (sym answer.place)) each

    pub lanes-moved : (want : ℕ → List ℕ) (size : ℕ) (old new : List ℕ) → AreMoved want size legs lanes 0 (start_of a) old new → AreMovedBy a want size part (length part.region) old new
    lanes-moved want size old new made = record {
      kept = made.kept;
      placed = λ ks are.
          let byte : at + sum_to (λ axis. ks axis * (lane_on part axis).step) (length part.region) ≡ byte_at part (length part.region) ks = omega (arith, found.begins) in
          let each : EachCopy (λ at place. IsPut a want size new at) (lanes_of part (length part.region)) at 0 =
          moves-to (λ at place. IsPut a want size new at) (λ place tally. IsRight want size new (place_by tally))
          (λ at place t answer right. subst (λ (o : ℕ). IsRight want size new o) answer.place right)
          (length part.region) at 0 0 (start_of a) (omega arith) (begun at found.begins) start
          (subst (λ (ls : List Lane). EachMove (λ place tally. IsRight want size new (place_by tally)) legs ls 0 (start_of a)) found.along made.placed) in
          subst (λ (o : ℕ). IsPut a want size new o) byte
          (each-elim (λ at place. IsPut a want size new at) part (length part.region) at 0 each ks are
          (at + sum_to (λ axis. ks axis * (lane_on part axis).step) (length part.region)) (place_at part (length part.region) ks) refl (omega arith));
    }

-- where an axis has no coordinate there are no moves
pub none-moved : (a : Asked) (want : ℕ → List ℕ) (size : ℕ) (part : BlockPart) (axes : ℕ) (old : List ℕ) → (axis : ℕ) × (axis < axes) × (count_on part axis ≡ 0) →
    AreMovedBy a want size part axes old old
none-moved a want size part axes old none = record {
  kept = λ o h. h;
  placed = λ ks are. absurd (omega (arith, are none.0 none.1, none.2));
}
