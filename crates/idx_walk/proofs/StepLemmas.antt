-- One axis more of a walk.
use Rattle.std.proofs.Common.{◌≡◌, ℕ, ◌+◌, ◌-◌, ◌*◌, ◌^◌, ◌<◌, ◌≤◌, List, [], ◌∷◌, ◌++◌, length, set, take, drop, refl, sym, ap, ◌∙◌, subst, arith, append_assoc, ltb}
use Rattle.std.proofs.lemmas.List.{drop_more, drop_all, take_more_set, append-nil}
use Rattle.std.proofs.Math.Nat.{mul-le-mul_left, mul-le-mul_right, mul_assoc, mul_comm}
use Rattle.std.proofs.lemmas.List.{length-set}
use Rattle.idx_geom.specs.Region.{extent, IsRegion}
use Rattle.idx_geom.proofs.PointsLemmas.{size, length-points}
use Rattle.idx_geom.proofs.EndsLemmas.{size-positive}
use Rattle.std.proofs.lemmas.List.Elements.{All-drop}
use Rattle.std.proofs.lemmas.Nat.{mul-le}
use Rattle.idx_stride.specs.declared.axis.Axis.{Axis}
use Rattle.idx_lanes.proofs.BoundsLemmas.{AreBounds}
use Rattle.idx_walk.specs.Progression.{phase_of, count_of, axis_at}
use Rattle.idx_walk.proofs.GridLemmas.{first_multiple, lattice}
use Rattle.idx_walk.proofs.PlaceLemmas.{axes_of, start_of}
use Rattle.idx_hz.specs.Stride.{stride}
use Rattle.idx_stride.specs.Strides.{Walk}
use Rattle.idx_walk.proofs.LevelTests.{ratio_of}
use Rattle.idx_walk.proofs.WalkLemmas.{walk_of}
use Rattle.idx_walk.proofs.BoundLemmas.{HasMultiples, lattice-none, last_multiple}

-- what is made of the axes before number k: with what is to come it makes the whole
pub record IsMade (s r : ℕ → ℕ) (bytes : ℕ) (es bs : List (ℕ × ℕ)) (k base weight : ℕ) (axes : List Axis) : Type 0 where
  pub made : take k axes ++ axes_of s r weight k (drop k es) (drop k bs) ≡ axes_of s r bytes 0 es bs
  pub start : base + start_of s weight k (drop k es) (drop k bs) ≡ start_of s bytes 0 es bs
  pub volume : weight * size (drop k es) ≡ bytes * size es
  pub room : length axes ≡ 5
  pub within : base + bytes ≤ weight
  pub counted : HasMultiples s k (drop k bs) → HasMultiples s 0 bs
  pub none : lattice s k (drop k bs) ≡ [] → lattice s 0 bs ≡ []

pub IsMade-start : (s r : ℕ → ℕ) (bytes : ℕ) (es bs : List (ℕ × ℕ)) (axes : List Axis) → length axes ≡ 5 → IsMade s r bytes es bs 0 0 bytes axes
IsMade-start s r bytes es bs axes room = record {
  made = refl;
  room = room;
  start = omega arith;
  volume = refl;
  within = omega arith;
  counted = λ h. h;
  none = λ h. h;
}

extent_rest : (es bs : List (ℕ × ℕ)) (k : ℕ) (e b : ℕ × ℕ) → AreBounds es bs k e b → drop k es ≡ e ∷ drop (k + 1) es
extent_rest es bs k e b at = drop_more es k (0, 0) at.extent_axis ∙ ap (λ c. c ∷ drop (k + 1) es) (sym at.extent_bounds)

region_rest : (es bs : List (ℕ × ℕ)) (k : ℕ) (e b : ℕ × ℕ) → AreBounds es bs k e b → drop k bs ≡ b ∷ drop (k + 1) bs
region_rest es bs k e b at = drop_more bs k (0, 0) at.region_axis ∙ ap (λ c. c ∷ drop (k + 1) bs) (sym at.region_bounds)

-- the first multiple lies between the bounds where one does
pub first-within : (s : ℕ) (b : ℕ × ℕ) → 0 < s → 1 ≤ count_of s b → (b.0 ≤ phase_of s b.0 * s) × (phase_of s b.0 * s ≤ b.1)
first-within s b some counted = (omega (arith, first_multiple s b.0 some), omega (arith, last_multiple s b counted))

pub IsMade-step : (s r : ℕ → ℕ) → ((a : ℕ) → 0 < s a) → (bytes : ℕ) (es bs : List (ℕ × ℕ)) (k base weight : ℕ) (axes : List Axis) (e b : ℕ × ℕ) (a : Axis) → AreBounds es bs k e b →
    length bs ≤ 5 → 1 ≤ count_of (s k) b → a ≡ axis_at weight (s k) (r k) b → IsMade s r bytes es bs k base weight axes →
    IsMade s r bytes es bs (k + 1) (base + (phase_of (s k) b.0 * s k - e.0) * weight) (weight * (e.1 - e.0 + 1)) (set axes k a)
IsMade-step s r some bytes es bs k base weight axes e b a at few_axes counted is made =
    let room : k < length axes = omega (arith, at.region_axis, made.room) in
    let width : e.1 - e.0 + 1 ≡ extent e = omega (arith, at.low, at.high, at.ordered) in
    let es_rest : drop k es ≡ e ∷ drop (k + 1) es = extent_rest es bs k e b at in
    let bs_rest : drop k bs ≡ b ∷ drop (k + 1) bs = region_rest es bs k e b at in
    let ends = first-within (s k) b (some k) counted in
    record {
      made =
          ap (λ w. take (k + 1) (set axes k a) ++ axes_of s r (weight * w) (k + 1) (drop (k + 1) es) (drop (k + 1) bs)) width
          ∙ ap (λ t. t ++ axes_of s r (weight * extent e) (k + 1) (drop (k + 1) es) (drop (k + 1) bs)) (take_more_set axes k a room)
          ∙ append_assoc (take k axes) (a ∷ []) (axes_of s r (weight * extent e) (k + 1) (drop (k + 1) es) (drop (k + 1) bs))
          ∙ ap (λ x. take k axes ++ x ∷ axes_of s r (weight * extent e) (k + 1) (drop (k + 1) es) (drop (k + 1) bs)) is
          ∙ sym (λ i. take k axes ++ axes_of s r weight k (es_rest i) (bs_rest i))
          ∙ made.made;
      start =
          ap (λ w. base + (phase_of (s k) b.0 * s k - e.0) * weight + start_of s (weight * w) (k + 1) (drop (k + 1) es) (drop (k + 1) bs)) width
          ∙ (let whole : base + (phase_of (s k) b.0 * s k - e.0) * weight + start_of s (weight * extent e) (k + 1) (drop (k + 1) es) (drop (k + 1) bs) ≡ base + start_of s weight k
          (e ∷ drop (k + 1) es) (b ∷ drop (k + 1) bs) = omega arith in whole)
          ∙ sym (λ i. base + start_of s weight k (es_rest i) (bs_rest i))
          ∙ made.start;
      volume =
          ap (λ w. weight * w * size (drop (k + 1) es)) width
          ∙ mul_assoc weight (extent e) (size (drop (k + 1) es))
          ∙ sym (ap (λ t. weight * size t) es_rest)
          ∙ made.volume;
      room = length-set axes k a ∙ made.room;
      within =
          let far : phase_of (s k) b.0 * s k - e.0 + 1 ≤ e.1 - e.0 + 1 = omega (arith, ends.0, ends.1, at.low, at.high) in
          omega (arith, made.within, mul-le-mul_right weight far, mul_comm weight (e.1 - e.0 + 1));
      counted = λ rest. made.counted (subst (HasMultiples s k) (sym bs_rest) (counted, rest));
      none = λ rest. made.none (ap (lattice s k) bs_rest ∙ (let empty : lattice s k (b ∷ drop (k + 1) bs) ≡ [] = rw rest refl in empty));
    }

-- the extent's points so far, and those of one axis more, fit in the volume
pub weight-le : (s r : ℕ → ℕ) (bytes : ℕ) (es bs : List (ℕ × ℕ)) (k base weight : ℕ) (axes : List Axis) (e b : ℕ × ℕ) → IsRegion es → bytes ≤ 64 → AreBounds es bs k e b →
    IsMade s r bytes es bs k base weight axes → weight * (e.1 - e.0 + 1) ≤ 2 ^ 46
weight-le s r bytes es bs k base weight axes e b region few at made =
    let width : e.1 - e.0 + 1 ≡ extent e = omega (arith, at.low, at.high, at.ordered) in
    let rest : 1 ≤ size (drop (k + 1) es) = size-positive (drop (k + 1) es) (All-drop (λ c. c.0 ≤ c.1) (k + 1) es region.ordered) in
    let more : weight * extent e * 1 ≤ weight * extent e * size (drop (k + 1) es) = mul-le-mul_left (weight * extent e) rest in
    let whole : weight * extent e * size (drop (k + 1) es) ≡ bytes * size es =
    mul_assoc weight (extent e) (size (drop (k + 1) es)) ∙ sym (ap (λ t. weight * size t) (extent_rest es bs k e b at)) ∙ made.volume in
    omega (arith, ap (λ n. weight * n) width, mul-le bytes (size es) 64 (2 ^ 40) few (let small : size es ≤ 2 ^ 40 = omega (arith, length-points es, region.few) in small))

-- an axis without a multiple leaves no point
pub lattice-none_at : (s r : ℕ → ℕ) (bytes : ℕ) (es bs : List (ℕ × ℕ)) (k base weight : ℕ) (axes : List Axis) (e b : ℕ × ℕ) → AreBounds es bs k e b → count_of (s k) b ≡ 0 →
    IsMade s r bytes es bs k base weight axes → lattice s 0 bs ≡ []
lattice-none_at s r bytes es bs k base weight axes e b at none made =
    made.none (ap (lattice s k) (region_rest es bs k e b at) ∙ lattice-none s k b (drop (k + 1) bs) none)

-- with the last axis all are made
pub axes-made : (s r : ℕ → ℕ) (bytes : ℕ) (es bs : List (ℕ × ℕ)) (k base weight : ℕ) (axes : List Axis) → length bs ≤ k → length es ≤ k → IsMade s r bytes es bs k base weight axes →
    (take k axes ≡ axes_of s r bytes 0 es bs) × (base ≡ start_of s bytes 0 es bs) × HasMultiples s 0 bs
axes-made s r bytes es bs k base weight axes all_b all_e made =
    let es_none : drop k es ≡ [] = drop_all k es all_e in
    let bs_none : drop k bs ≡ [] = drop_all k bs all_b in (
      sym (append-nil (take k axes)) ∙ sym (λ i. take k axes ++ axes_of s r weight k (es_none i) (bs_none i)) ∙ made.made,
      (let whole : base ≡ base + 0 = omega arith in whole) ∙ sym (λ i. base + start_of s weight k (es_none i) (bs_none i)) ∙ made.start,
      made.counted (subst (HasMultiples s k) (sym bs_none) tt),
    )

-- what the axis that is found is good for: the first multiple is one of the extent's coordinates, one axis more is made,
-- and the bytes of its points are few
pub record IsNext (s r : ℕ → ℕ) (bytes : ℕ) (es bs : List (ℕ × ℕ)) (k base weight : ℕ) (axes : List Axis) (e : ℕ × ℕ) (stride : ℕ) (a : Axis) : Type 0 where
  pub low : e.0 ≤ a.phase * stride
  pub high : a.phase * stride ≤ e.1
  pub next : IsMade s r bytes es bs (k + 1) (base + (a.phase * stride - e.0) * weight) (weight * (e.1 - e.0 + 1)) (set axes k a)
  pub small : weight * (e.1 - e.0 + 1) ≤ 2 ^ 46

pub IsNext-found : (s r : ℕ → ℕ) → ((n : ℕ) → 0 < s n) → (bytes : ℕ) (es bs : List (ℕ × ℕ)) (k base weight : ℕ) (axes : List Axis) (e b : ℕ × ℕ) (stride ratio : ℕ) (a : Axis) → IsRegion es →
    bytes ≤ 64 → AreBounds es bs k e b → length bs ≤ 5 → stride ≡ s k → ratio ≡ r k → 1 ≤ count_of stride b → a ≡ axis_at weight stride ratio b → IsMade s r bytes es bs k base weight axes →
    IsNext s r bytes es bs k base weight axes e stride a
IsNext-found s r some bytes es bs k base weight axes e b stride ratio a region few at few_axes fine coarse counted is made =
    let counted_fine : 1 ≤ count_of (s k) b = subst (λ n. 1 ≤ count_of n b) fine counted in
    let is_fine : a ≡ axis_at weight (s k) (r k) b = is ∙ (λ i. axis_at weight (fine i) (coarse i) b) in
    let first : phase_of (s k) b.0 * s k ≡ a.phase * stride = sym ((λ i. (is_fine i).phase * fine i)) in
    let ends = first-within (s k) b (some k) counted_fine in
    record {
      low = omega (arith, ends.0, at.low, first);
      high = omega (arith, ends.1, at.high, first);
      next = subst (λ x. IsMade s r bytes es bs (k + 1) (base + (x - e.0) * weight) (weight * (e.1 - e.0 + 1)) (set axes k a)) first
          (IsMade-step s r some bytes es bs k base weight axes e b a at few_axes counted_fine is_fine made);
      small = weight-le s r bytes es bs k base weight axes e b region few at made;
    }

-- with the last axis the walk is made
pub record IsWhole (mask : List ℕ) (es bs : List (ℕ × ℕ)) (lo hi bytes : ℕ) (w : Walk) : Type 0 where
  pub walk : w ≡ walk_of mask es bs lo hi bytes
  pub counted : HasMultiples (stride mask hi) 0 bs

pub IsWhole-made : (mask : List ℕ) (es bs : List (ℕ × ℕ)) (lo hi bytes : ℕ) (k n base weight : ℕ) (axes : List Axis) → length es ≡ length bs → length bs ≤ k → k ≤ n → n ≡ length bs →
    IsMade (stride mask hi) (ratio_of mask lo hi) bytes es bs k base weight axes → IsWhole mask es bs lo hi bytes (record { base = base; size = bytes; coarse = ltb 0 lo; axes = take n axes })
IsWhole-made mask es bs lo hi bytes k n base weight axes same all within last made =
    let whole = axes-made (stride mask hi) (ratio_of mask lo hi) bytes es bs k base weight axes all (omega arith) made in
    let count : n ≡ k = omega arith in
    let front : take n axes ≡ axes_of (stride mask hi) (ratio_of mask lo hi) bytes 0 es bs = ap (λ m. take m axes) count ∙ whole.0 in
    record {
      walk = λ i. record { base = whole.1 i; size = bytes; coarse = ltb 0 lo; axes = front i };
      counted = whole.2;
    }
