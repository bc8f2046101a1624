-- The box of a drill fills its mask: each address below the mask's size is that of a point of the box.
use Rattle.std.proofs.Common.{◌≡◌, ℕ, zero, suc, ◌-◌, ◌^◌, ◌<◌, ◌≤◌, List, [], ◌∷◌, length, refl, subst, arith}
use Rattle.std.proofs.lemmas.List.Elements.{All-cons, All-nil}
use Rattle.idx_geom.specs.Region.{LiesIn}
use Rattle.idx_hz.specs.Address.{hz_address}
use Rattle.idx_hz.specs.Mask.{HasAddress, NamesAxes, bit_count}
use Rattle.idx_hz.proofs.AddressLaws.{hz_address-onto}
use Rattle.idx_drill_model.specs.Drill.{drill_bits, drill_box, drill_depth, drill_mask}

-- ---- the mask

pub length-mask : (n : ℕ) → length (drill_mask n) ≡ drill_depth n
length-mask zero = refl
length-mask (suc n) = omega (arith, length-mask n)

-- each axis has as many digits
pub bits-of : (axis n : ℕ) → axis < 3 → bit_count axis (drill_mask n) ≡ n
bits-of axis zero within = refl
bits-of zero (suc n) within = omega (arith, bits-of zero n within)
bits-of (suc zero) (suc n) within = omega (arith, bits-of (suc zero) n within)
bits-of (suc (suc zero)) (suc n) within = omega (arith, bits-of (suc (suc zero)) n within)
bits-of (suc (suc (suc axis))) (suc n) within = absurd (omega arith)

pub names-axes : (n : ℕ) → NamesAxes (drill_mask n) 3
names-axes zero = All-nil (λ (d : ℕ). d < 3)
names-axes (suc n) =
    All-cons (λ (d : ℕ). d < 3) 0 (1 ∷ 2 ∷ drill_mask n) (omega arith)
    (All-cons (λ (d : ℕ). d < 3) 1 (2 ∷ drill_mask n) (omega arith)
    (All-cons (λ (d : ℕ). d < 3) 2 (drill_mask n) (omega arith) (names-axes n)))

pub bits-within : (n : ℕ) → drill_bits n ≤ length (drill_mask n)
bits-within n = omega (arith, length-mask n)

-- ---- the box

coordinate-below : (n axis x : ℕ) → axis < 3 → x < 2 ^ bit_count axis (drill_mask n) → x ≤ 2 ^ n - 1
coordinate-below n axis x within below =
    let small : x < 2 ^ n = subst (λ k. x < 2 ^ k) (bits-of axis n within) below in omega arith

-- a point of three axes below the mask's size lies in the box
pub inside-box : (n : ℕ) (p : List ℕ) → length p ≡ 3 → HasAddress (drill_mask n) p → LiesIn (drill_box n) p
inside-box n [] size has = absurd (omega arith)
inside-box n (x ∷ []) size has = absurd (omega arith)
inside-box n (x ∷ y ∷ []) size has = absurd (omega arith)
inside-box n (x ∷ y ∷ z ∷ w ∷ p) size has = absurd (omega arith)
inside-box n (x ∷ y ∷ z ∷ []) size has = (
  omega arith,
  coordinate-below n 0 x (omega arith) (has.below 0 (omega arith)),
  (omega arith, coordinate-below n 1 y (omega arith) (has.below 1 (omega arith)), (omega arith, coordinate-below n 2 z (omega arith) (has.below 2 (omega arith)), tt)),
)

-- each address is that of a point of the box
pub point-at : (n address : ℕ) → address < 2 ^ length (drill_mask n) → (p : List ℕ) × LiesIn (drill_box n) p × (hz_address (drill_mask n) p ≡ address)
point-at n address small =
    let at = hz_address-onto (drill_mask n) 3 address (names-axes n) small in (at.0, inside-box n at.0 at.1 at.2, at.3)
