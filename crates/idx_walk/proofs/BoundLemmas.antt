-- How far a walk over the points on strides goes, and which walks have a point.
use Rattle.std.proofs.Common.{◌≡◌, ℕ, zero, suc, ◌+◌, ◌-◌, ◌*◌, ◌/◌, ◌^◌, ◌<◌, ◌≤◌, List, [], ◌∷◌, ◌++◌, length, map, refl, ap, inl, inr, arith}
use Rattle.std.specs.Prelude.{All}
use Rattle.std.specs.List.{range_with_len, flat_map}
use Rattle.std.proofs.lemmas.Bool.{cases_lt}
use Rattle.std.proofs.lemmas.List.Elements.{All-head, All-tail, All-nil, All-cons}
use Rattle.std.proofs.lemmas.Nat.{mul-le}
use Rattle.std.proofs.Math.Nat.{mul-le-mul_right, mul_assoc, mul_comm, div-mul-le_self, div-le_self}
use Rattle.idx_geom.specs.Region.{extent, LiesIn, lower_ends, upper_ends}
use Rattle.idx_geom.proofs.PointsLemmas.{size}
use Rattle.idx_stride.specs.Strides.{IsAxis, reach, grid_points}
use Rattle.idx_lanes.specs.Axis.{step_of}
use Rattle.idx_lanes.proofs.AxisLemmas.{times-step_of}
use Rattle.idx_walk.specs.Progression.{phase_of, count_of, axis_at}
use Rattle.idx_walk.proofs.GridLemmas.{first_multiple, progression, lattice}
use Rattle.idx_walk.proofs.PlaceLemmas.{axes_of, start_of}

-- on each axis some multiple of the stride lies between the bounds
abbrev pub HasMultiples : (ℕ → ℕ) → ℕ → List (ℕ × ℕ) → Type 0
HasMultiples s k [] = Unit {0}
HasMultiples s k (b ∷ bs) = (1 ≤ count_of (s k) b) × HasMultiples s (k + 1) bs

-- then the points on the strides are some
pub lattice-some : (s : ℕ → ℕ) (k : ℕ) (bs : List (ℕ × ℕ)) → HasMultiples s k bs → 1 ≤ length (lattice s k bs)
lattice-some s k [] h = omega arith
lattice-some s k (b ∷ bs) h = rows (lattice s (k + 1) bs) (lattice-some s (k + 1) bs h.1)
  where
    row : (n : ℕ) (slower : List ℕ) → 1 ≤ n → (others : List (List ℕ)) → 1 ≤ length (map (λ x. x ∷ slower) (map (λ j. (phase_of (s k) b.0 + j) * s k) (range_with_len 0 n)) ++ others)
    row zero slower some others = absurd (omega arith)
    row (suc n) slower some others = omega arith

    rows : (ps : List (List ℕ)) → 1 ≤ length ps → 1 ≤ length (flat_map (λ slower. map (λ x. x ∷ slower) (progression (s k) b)) ps)
    rows [] some = absurd (omega arith)
    rows (p ∷ ps) some = row (count_of (s k) b) p h.0 (flat_map (λ slower. map (λ x. x ∷ slower) (progression (s k) b)) ps)

-- where an axis has no multiple, no point is on the strides
rows-none : (n : ℕ) (f : ℕ → ℕ) (ps : List (List ℕ)) → n ≡ 0 → flat_map (λ slower. map (λ x. x ∷ slower) (map f (range_with_len 0 n))) ps ≡ []
rows-none zero f [] none = refl
rows-none zero f (p ∷ ps) none = rows-none zero f ps refl
rows-none (suc n) f ps none = absurd (omega arith)

pub lattice-none : (s : ℕ → ℕ) (k : ℕ) (b : ℕ × ℕ) (bs : List (ℕ × ℕ)) → count_of (s k) b ≡ 0 → lattice s k (b ∷ bs) ≡ []
lattice-none s k b bs none = rows-none (count_of (s k) b) (λ j. (phase_of (s k) b.0 + j) * s k) (lattice s (k + 1) bs) none

-- the last multiple is at most the upper end
pub last_multiple : (s : ℕ) (b : ℕ × ℕ) → 1 ≤ count_of s b → phase_of s b.0 * s + (count_of s b - 1) * s ≤ b.1
last_multiple s b some =
    let last : phase_of s b.0 + (count_of s b - 1) ≡ b.1 / s = omega arith in
    omega (arith, ap (λ n. n * s) last, div-mul-le_self b.1 s)

-- the axes from k on end before one step of the axis behind them
pub reach-le : (s r : ℕ → ℕ) → ((k : ℕ) → 0 < s k) → (weight k : ℕ) (es bs : List (ℕ × ℕ)) → LiesIn es (lower_ends bs) → LiesIn es (upper_ends bs) → HasMultiples s k bs →
    start_of s weight k es bs + reach (axes_of s r weight k es bs) + weight ≤ weight * size es
reach-le s r some weight k [] [] lower upper counted = omega arith
reach-le s r some weight k [] (b ∷ bs) lower upper counted = absurd lower
reach-le s r some weight k (e ∷ es) [] lower upper counted = absurd lower
reach-le s r some weight k (e ∷ es) (b ∷ bs) lower upper counted =
    let phase : ℕ = phase_of (s k) b.0 in
    let steps : ℕ = (count_of (s k) b - 1) * s k in
    let rest = reach-le s r some (weight * extent e) (k + 1) es bs lower.2 upper.2 counted.1 in
    let first : e.0 ≤ phase * s k = omega (arith, lower.0, first_multiple (s k) b.0 (some k)) in
    let last : (phase * s k - e.0) + steps + 1 ≤ extent e = omega (arith, last_multiple (s k) b counted.0, upper.1) in
    let wide : ((phase * s k - e.0) + steps + 1) * weight ≤ extent e * weight = mul-le-mul_right weight last in
    let spread : ((phase * s k - e.0) + steps + 1) * weight ≡ (phase * s k - e.0) * weight + (count_of (s k) b - 1) * step_of weight (s k) (count_of (s k) b) + weight =
    omega (arith, mul_assoc (count_of (s k) b - 1) (s k) weight, times-step_of weight (s k) (count_of (s k) b) (count_of (s k) b - 1) (let some' : 1 ≤ count_of (s k) b = counted.0 in omega arith)) in
    omega (arith, rest, wide, spread, mul_comm (extent e) weight, mul_assoc weight (extent e) (size es))

-- no axis has more multiples than coordinates
count-le : (s : ℕ) (b : ℕ × ℕ) → 0 < s → count_of s b ≤ extent b
count-le s b some =
    elim (cases_lt (count_of s b) 1) [
      | inl none ↦ omega arith
      | inr more ↦
          let steps : (count_of s b - 1) * 1 ≤ (count_of s b - 1) * s = mul-le (count_of s b - 1) 1 (count_of s b - 1) s (omega arith) some in
          omega (arith, last_multiple s b more, first_multiple s b.0 some)
    ]

pub grid_points-le : (s r : ℕ → ℕ) → ((k : ℕ) → 0 < s k) → (weight k : ℕ) (es bs : List (ℕ × ℕ)) → LiesIn es (lower_ends bs) → grid_points (axes_of s r weight k es bs) ≤ size bs
grid_points-le s r some weight k [] [] lower = omega arith
grid_points-le s r some weight k [] (b ∷ bs) lower = absurd lower
grid_points-le s r some weight k (e ∷ es) [] lower = absurd lower
grid_points-le s r some weight k (e ∷ es) (b ∷ bs) lower =
    mul-le (count_of (s k) b) (grid_points (axes_of s r (weight * extent e) (k + 1) es bs)) (extent b) (size bs)
    (count-le (s k) b (some k)) (grid_points-le s r some (weight * extent e) (k + 1) es bs lower.2)

pub length-axes_of : (s r : ℕ → ℕ) (weight k : ℕ) (es bs : List (ℕ × ℕ)) → LiesIn es (lower_ends bs) → length (axes_of s r weight k es bs) ≡ length bs
length-axes_of s r weight k [] [] lower = refl
length-axes_of s r weight k [] (b ∷ bs) lower = absurd lower
length-axes_of s r weight k (e ∷ es) [] lower = absurd lower
length-axes_of s r weight k (e ∷ es) (b ∷ bs) lower = ap suc (length-axes_of s r (weight * extent e) (k + 1) es bs lower.2)

-- each of them is an axis
IsAxis-axis_at : (weight s r : ℕ) (b : ℕ × ℕ) → 0 < r → b.1 ≤ 2 ^ 40 → 1 ≤ count_of s b → IsAxis (axis_at weight s r b)
IsAxis-axis_at weight s r b paced small some = record {
  counted = some;
  paced = paced;
  early = omega (arith, div-le_self b.1 s);
}

pub All-axes_of : (s r : ℕ → ℕ) → ((k : ℕ) → 0 < r k) → (weight k : ℕ) (es bs : List (ℕ × ℕ)) → LiesIn es (lower_ends bs) → All (λ (b : ℕ × ℕ). b.1 ≤ 2 ^ 40) bs → HasMultiples s k bs →
    All IsAxis (axes_of s r weight k es bs)
All-axes_of s r paced weight k [] [] lower small counted = All-nil IsAxis
All-axes_of s r paced weight k [] (b ∷ bs) lower small counted = absurd lower
All-axes_of s r paced weight k (e ∷ es) [] lower small counted = absurd lower
All-axes_of s r paced weight k (e ∷ es) (b ∷ bs) lower small counted =
    All-cons IsAxis (axis_at weight (s k) (r k) b) (axes_of s r (weight * extent e) (k + 1) es bs)
    (IsAxis-axis_at weight (s k) (r k) b (paced k) (All-head (λ (c : ℕ × ℕ). c.1 ≤ 2 ^ 40) b bs small) counted.0)
    (All-axes_of s r paced (weight * extent e) (k + 1) es bs lower.2 (All-tail (λ (c : ℕ × ℕ). c.1 ≤ 2 ^ 40) b bs small) counted.1)
