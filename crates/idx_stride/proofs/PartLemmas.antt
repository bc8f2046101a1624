-- A walk is its parts along the slowest axis, one behind the other.
use Rattle.std.proofs.Common.{◌≡◌, ℕ, ◌+◌, ◌-◌, ◌*◌, ◌%◌, ◌<◌, ◌≤◌, Bool, ◌&&◌, List, [], ◌∷◌, ◌++◌, length, sym, ap, ◌∙◌, arith, All, length-append}
use Rattle.std.specs.Prelude.{◌==◌}
use Rattle.std.specs.List.{flat_map, range_with_len}
use Rattle.std.proofs.lemmas.List.Elements.{All-head, All-tail, All-cons, All-nil}
use Rattle.std.proofs.Math.Nat.{mul-le-mul_right, mul-le-mul_left}
use Rattle.std.proofs.lemmas.Nat.{mul-le}
use Rattle.idx_stride.specs.declared.axis.Axis.{Axis}
use Rattle.idx_stride.specs.Parts.{axis_part, walk_part}
use Rattle.idx_stride.specs.Places.{is_coarse, offsets}
use Rattle.idx_stride.specs.Strides.{Walk, IsAxis, IsStrides, reach, grid_points, end_of}
use Rattle.idx_stride.proofs.PlacesLemmas.{offsets-snoc}
use Rattle.idx_stride.proofs.RangeLemmas.{flat_map-range_append, flat_map-range_shift}

pub reach-snoc : (faster : List Axis) (a : Axis) → reach (faster ++ a ∷ []) ≡ reach faster + (a.count - 1) * a.step
reach-snoc [] a = omega arith
reach-snoc (b ∷ faster) a = omega (arith, reach-snoc faster a)

pub grid_points-snoc : (faster : List Axis) (a : Axis) → grid_points (faster ++ a ∷ []) ≡ grid_points faster * a.count
grid_points-snoc [] a = omega arith
grid_points-snoc (b ∷ faster) a =
    let rest : b.count * grid_points (faster ++ a ∷ []) ≡ b.count * (grid_points faster * a.count) = ap (λ n. b.count * n) (grid_points-snoc faster a) in
    omega arith

pub All-snoc_front : (P : Axis → Type 0) (faster : List Axis) (a : Axis) → All P (faster ++ a ∷ []) → All P faster
All-snoc_front P [] a h = All-nil P
All-snoc_front P (b ∷ faster) a h =
    All-cons P b faster (All-head P b (faster ++ a ∷ []) h) (All-snoc_front P faster a (All-tail P b (faster ++ a ∷ []) h))

pub All-snoc_last : (P : Axis → Type 0) (faster : List Axis) (a : Axis) → All P (faster ++ a ∷ []) → P a
All-snoc_last P [] a h = All-head P a [] h
All-snoc_last P (b ∷ faster) a h = All-snoc_last P faster a (All-tail P b (faster ++ a ∷ []) h)

pub grid_points-positive : (axes : List Axis) → All IsAxis axes → 1 ≤ grid_points axes
grid_points-positive [] h = omega arith
grid_points-positive (a ∷ slower) h =
    let here : IsAxis a = All-head IsAxis a slower h in
    mul-le 1 1 a.count (grid_points slower) here.counted (grid_points-positive slower (All-tail IsAxis a slower h))

-- a walk is two parts of it
pub offsets-cut : (base : ℕ) (coarse : Bool) (faster : List Axis) (a : Axis) (h m : ℕ) → h + m ≡ a.count →
    offsets base coarse (faster ++ a ∷ []) ≡ offsets (base + 0 * a.step) coarse (faster ++ axis_part a 0 h ∷ []) ++ offsets (base + h * a.step) coarse (faster ++ axis_part a h m ∷ [])
offsets-cut base coarse faster a h m whole =
    let F : ℕ → List ℕ = λ k. offsets (base + k * a.step) (coarse && is_coarse a k) faster in
    let same_base : base ≡ base + 0 * a.step = omega arith in
    let same_phase : a.phase ≡ a.phase + 0 = omega arith in
    let front : flat_map F (range_with_len 0 h) ≡ offsets (base + 0 * a.step) coarse (faster ++ axis_part a 0 h ∷ []) =
    (λ i. flat_map (λ k. offsets (same_base i + k * a.step) (coarse && is_coarse (record { step = a.step; count = h; phase = same_phase i; ratio = a.ratio }) k) faster) (range_with_len 0 h))
    ∙ sym (offsets-snoc (base + 0 * a.step) coarse faster (axis_part a 0 h)) in
    let place_at : (k : ℕ) → base + (h + k) * a.step ≡ base + h * a.step + k * a.step = λ k. omega arith in
    let phase_at : (k : ℕ) → a.phase + (h + k) ≡ a.phase + h + k = λ k. omega arith in
    let start : 0 + h ≡ h + 0 = omega arith in
    let behind : flat_map F (range_with_len (0 + h) m) ≡ offsets (base + h * a.step) coarse (faster ++ axis_part a h m ∷ []) =
    ap (λ s. flat_map F (range_with_len s m)) start
    ∙ flat_map-range_shift F h 0 m
    ∙ (λ i. flat_map (λ k. offsets (place_at k i) (coarse && (phase_at k i % a.ratio == 0)) faster) (range_with_len 0 m))
    ∙ sym (offsets-snoc (base + h * a.step) coarse faster (axis_part a h m)) in
    offsets-snoc base coarse faster a
    ∙ ap (λ n. flat_map F (range_with_len 0 n)) (sym whole)
    ∙ flat_map-range_append F 0 h m
    ∙ (λ i. front i ++ behind i)

-- a part along the slowest axis lies within the whole
pub end_of-part : (w : Walk) (faster : List Axis) (a : Axis) (from count : ℕ) → w.axes ≡ faster ++ a ∷ [] → 1 ≤ count → from + count ≤ a.count → end_of (walk_part w faster a from count) ≤ end_of w
end_of-part w faster a from count same some fits =
    let last : from + (count - 1) ≤ a.count - 1 = omega arith in
    let whole : reach w.axes ≡ reach faster + (a.count - 1) * a.step = ap reach same ∙ reach-snoc faster a in
    omega (arith, whole, reach-snoc faster (axis_part a from count), mul-le-mul_right a.step last)

pub grid_points-part : (w : Walk) (faster : List Axis) (a : Axis) (from count : ℕ) → w.axes ≡ faster ++ a ∷ [] → All IsAxis w.axes → count < a.count →
    grid_points (walk_part w faster a from count).axes < grid_points w.axes
grid_points-part w faster a from count same valid fewer =
    let axes : All IsAxis (faster ++ a ∷ []) = rw same at valid in
    let some : 1 ≤ grid_points faster = grid_points-positive faster (All-snoc_front IsAxis faster a axes) in
    let more : count + 1 ≤ a.count = omega arith in
    let whole : grid_points w.axes ≡ grid_points faster * a.count = ap grid_points same ∙ grid_points-snoc faster a in
    omega (arith, whole, grid_points-snoc faster (axis_part a from count), mul-le-mul_left (grid_points faster) more)

pub IsStrides-part : (w : Walk) (faster : List Axis) (a : Axis) (from count : ℕ) → w.axes ≡ faster ++ a ∷ [] → IsStrides w → 1 ≤ count → from + count ≤ a.count →
    IsStrides (walk_part w faster a from count)
IsStrides-part w faster a from count same valid some fits =
    let axes : All IsAxis (faster ++ a ∷ []) = rw same at valid.axes in
    let slowest : IsAxis a = All-snoc_last IsAxis faster a axes in
    let most : count ≤ a.count = omega arith in
    record {
      few_axes = omega (arith, valid.few_axes, ap length same, length-append faster (a ∷ []), length-append faster (axis_part a from count ∷ []));
      axes = snoc faster (axis_part a from count) (All-snoc_front IsAxis faster a axes) (record { counted = some; paced = slowest.paced; early = omega (arith, slowest.early) });
      some_bytes = valid.some_bytes;
      few_bytes = valid.few_bytes;
      within = omega (arith, end_of-part w faster a from count same some fits, valid.within);
      few_points = omega (arith, valid.few_points, ap grid_points same, grid_points-snoc faster a, grid_points-snoc faster (axis_part a from count), mul-le-mul_left (grid_points faster) most);
    }
  where
    snoc : (faster : List Axis) (b : Axis) → All IsAxis faster → IsAxis b → All IsAxis (faster ++ b ∷ [])
    snoc [] b h last = All-cons IsAxis b [] last (All-nil IsAxis)
    snoc (c ∷ faster) b h last = All-cons IsAxis c (faster ++ b ∷ []) (All-head IsAxis c faster h) (snoc faster b (All-tail IsAxis c faster h) last)
