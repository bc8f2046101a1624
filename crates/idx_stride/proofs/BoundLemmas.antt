-- Between which bytes the places of a walk lie.
use Rattle.std.proofs.Common.{ℕ, ◌+◌, ◌-◌, ◌*◌, ◌≤◌, Bool, ◌&&◌, List, [], ◌∷◌, filter, arith, All}
use Rattle.std.specs.List.{range_with_len}
use Rattle.std.proofs.lemmas.List.Elements.{All-nil, All-cons, All-map, All-filter, All-weaker}
use Rattle.std.proofs.Math.Nat.{mul-le-mul_right}
use Rattle.idx_stride.specs.declared.axis.Axis.{Axis}
use Rattle.idx_stride.specs.Places.{is_coarse, places, offsets}
use Rattle.idx_stride.specs.Strides.{reach}
use Rattle.idx_stride.proofs.PlacesLemmas.{row_of, is_kept, place}
use Rattle.idx_stride.proofs.RangeLemmas.{All-flat_map, All-range}

-- a place between two others, both among them
abbrev pub IsAmong : ℕ → ℕ → ℕ → Type 0
IsAmong low high o = (low ≤ o) × (o ≤ high)

places-among : (base : ℕ) (coarse : Bool) (axes : List Axis) → All (λ p. IsAmong base (base + reach axes) p.0) (places base coarse axes)
places-among base coarse [] =
    All-cons (λ (p : ℕ × Bool). IsAmong base (base + 0) p.0) (base, coarse) [] (omega arith, omega arith) (All-nil (λ (p : ℕ × Bool). IsAmong base (base + 0) p.0))
places-among base coarse (a ∷ slower) =
    let P : ℕ × Bool → Type 0 = λ p. IsAmong base (base + ((a.count - 1) * a.step + reach slower)) p.0 in
    let Q : ℕ × Bool → Type 0 = λ p. IsAmong base (base + reach slower) p.0 in
    let along : (p : ℕ × Bool) → Q p → All P (row_of a p) = λ p h.
    All-map P (λ (k : ℕ). (p.0 + k * a.step, p.1 && is_coarse a k)) (range_with_len 0 a.count)
    (All-range (λ k. P (p.0 + k * a.step, p.1 && is_coarse a k)) 0 a.count (λ k low high.
    let most : k ≤ a.count - 1 = omega arith in
    (omega (arith, h.0), omega (arith, h.1, mul-le-mul_right a.step most)))) in
    All-flat_map P (row_of a) (places base coarse slower)
    (All-weaker Q (λ p. All P (row_of a p)) along (places base coarse slower) (places-among base coarse slower))

pub offsets-among : (base : ℕ) (coarse : Bool) (axes : List Axis) → All (IsAmong base (base + reach axes)) (offsets base coarse axes)
offsets-among base coarse axes =
    All-map (IsAmong base (base + reach axes)) place (filter is_kept (places base coarse axes))
    (All-filter is_kept (λ p. IsAmong base (base + reach axes) p.0) (places base coarse axes) (places-among base coarse axes))
