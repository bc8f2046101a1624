-- The Z address of a point, and the point of a Z address, over lists of digits and coordinates.
use Rattle.std.proofs.Common.{◌≡◌, ◌≢◌, ℕ, suc, ◌+◌, ◌*◌, ◌%◌, ◌^◌, ◌<◌, ◌≤◌, List, [], ◌∷◌, ◌++◌, length, get_or, refl, sym, ap, ◌∙◌, ⊎_elim, arith}
use Rattle.std.specs.Prelude.{if◌then◌else◌, ◌==◌}
use Rattle.std.specs.Int.{bit_at}
use Rattle.std.proofs.Math.Nat.{pow-suc, mod-eq_of_lt, mod-one}
use Rattle.std.proofs.lemmas.Bool.{cases_eq, eq-eqb, ne_eqb}
use Rattle.std.proofs.lemmas.Nat.{pow_pos, mul-add-lt, shr_high, mod-pow-add, mod_below, same_from_place}
use Rattle.std.proofs.lemmas.Nat.Bits.{bit_at_cat_low, bit_at-lt}
use Rattle.std.proofs.lemmas.List.{ext_get_or}
use Rattle.std.proofs.lemmas.List.Elements.{All-head, All-tail}
use Rattle.std.proofs.lemmas.List.FromFn.{length-map-range_with_len, get_or-map-range_with_len}
use Rattle.idx_hz.specs.Mask.{bit_count, NamesAxes, HasAddress}
use Rattle.idx_hz.specs.Address.{z_address}
use Rattle.idx_hz.specs.Coordinate.{coordinate_at, point_at}

-- ---- one digit more

-- a digit of the axis is one bit of it
pub bit_count-same : (d axis : ℕ) (finer : List ℕ) → d ≡ axis → bit_count axis (d ∷ finer) ≡ suc (bit_count axis finer)
bit_count-same d axis finer same = rw (eq-eqb d axis same) (omega arith)

-- a digit of another axis is none
pub bit_count-other : (d axis : ℕ) (finer : List ℕ) → d ≢ axis → bit_count axis (d ∷ finer) ≡ bit_count axis finer
bit_count-other d axis finer other = rw (ne_eqb d axis other) (omega arith)

-- the bits of two lists of digits
pub bit_count-append : (axis : ℕ) (xs ys : List ℕ) → bit_count axis (xs ++ ys) ≡ bit_count axis xs + bit_count axis ys
bit_count-append axis [] ys = omega arith
bit_count-append axis (x ∷ xs) ys = omega (arith, bit_count-append axis xs ys)

-- a digit of the axis is the highest bit of the coordinate
pub coordinate_at-same : (d axis : ℕ) (finer : List ℕ) (z : ℕ) → d ≡ axis → coordinate_at (d ∷ finer) axis z ≡ bit_at z (length finer) * 2 ^ bit_count axis finer + coordinate_at finer axis z
coordinate_at-same d axis finer z same = rw (eq-eqb d axis same) refl

-- a digit of another axis gives the coordinate nothing
pub coordinate_at-other : (d axis : ℕ) (finer : List ℕ) (z : ℕ) → d ≢ axis → coordinate_at (d ∷ finer) axis z ≡ coordinate_at finer axis z
coordinate_at-other d axis finer z other = rw (ne_eqb d axis other) (omega arith)

-- one binary digit before k others
pub digit-lt : (b k y : ℕ) → b < 2 → y < 2 ^ k → b * 2 ^ k + y < 2 ^ suc k
digit-lt b k y bit small = rw pow-suc (mul-add-lt b (2 ^ k) y 2 bit small)

-- the digit before k others is bit k
pub bit_at-digit : (b k y : ℕ) → b < 2 → y < 2 ^ k → bit_at (b * 2 ^ k + y) k ≡ b
bit_at-digit b k y bit small = rw (shr_high b k y small) (mod-eq_of_lt bit)

-- a number's first k + 1 binary digits are bit k and the first k
pub mod-pow-suc : (n k : ℕ) → n % 2 ^ suc k ≡ bit_at n k * 2 ^ k + n % 2 ^ k
mod-pow-suc n k = let one_more : 1 + k ≡ suc k = omega arith in rw (← one_more) (mod-pow-add n 1 k)

-- ---- how large

-- a Z address is below 2 to the number of digits
pub z_address-lt : (mask p : List ℕ) → z_address mask p < 2 ^ length mask
z_address-lt [] p = omega arith
z_address-lt (d ∷ finer) p =
    digit-lt (bit_at (get_or p d 0) (bit_count d finer)) (length finer) (z_address finer p) (bit_at-lt (get_or p d 0) (bit_count d finer)) (z_address-lt finer p)

-- a coordinate is below 2 to its axis's bits
pub coordinate_at-lt : (mask : List ℕ) (axis z : ℕ) → coordinate_at mask axis z < 2 ^ bit_count axis mask
coordinate_at-lt [] axis z = omega arith
coordinate_at-lt (d ∷ finer) axis z = ⊎_elim
    (λ same. rw (coordinate_at-same d axis finer z same, bit_count-same d axis finer same)
    (digit-lt (bit_at z (length finer)) (bit_count axis finer) (coordinate_at finer axis z) (bit_at-lt z (length finer)) (coordinate_at-lt finer axis z)))
    (λ other. rw (coordinate_at-other d axis finer z other, bit_count-other d axis finer other) (coordinate_at-lt finer axis z))
    (cases_eq d axis)

-- ---- there and back

-- bits beyond the mask's places give a coordinate nothing
pub coordinate_at-high : (mask : List ℕ) (axis hi k z : ℕ) → length mask ≤ k → coordinate_at mask axis (hi * 2 ^ k + z) ≡ coordinate_at mask axis z
coordinate_at-high [] axis hi k z h = refl
coordinate_at-high (d ∷ finer) axis hi k z h =
    rw (bit_at_cat_low hi k z (length finer) h) (ap (λ n. (if d == axis then bit_at z (length finer) * 2 ^ bit_count axis finer else 0) + n) (coordinate_at-high finer axis hi k z (omega arith)))

-- a Z address gives back of each coordinate the bits that the mask names
pub coordinate_at-z_address : (mask : List ℕ) (axis : ℕ) (p : List ℕ) → coordinate_at mask axis (z_address mask p) ≡ get_or p axis 0 % 2 ^ bit_count axis mask
coordinate_at-z_address [] axis p = sym (mod-one (get_or p axis 0))
coordinate_at-z_address (d ∷ finer) axis p =
    let b : ℕ = bit_at (get_or p d 0) (bit_count d finer) in
    let below : coordinate_at finer axis (b * 2 ^ length finer + z_address finer p) ≡ get_or p axis 0 % 2 ^ bit_count axis finer =
    coordinate_at-high finer axis b (length finer) (z_address finer p) (omega arith) ∙ coordinate_at-z_address finer axis p in
    ⊎_elim
    (λ same. rw (coordinate_at-same d axis finer (z_address (d ∷ finer) p) same, bit_count-same d axis finer same, mod-pow-suc (get_or p axis 0) (bit_count axis finer), below, bit_at-digit b (length finer) (z_address finer p) (bit_at-lt (get_or p d 0) (bit_count d finer)) (z_address-lt finer p), same) refl)
    (λ other. rw (coordinate_at-other d axis finer (z_address (d ∷ finer) p) other, bit_count-other d axis finer other) below)
    (cases_eq d axis)

-- the coordinates' bits that a mask names make up the address that gives them
pub z_address-from_coordinates : (mask p : List ℕ) (axes z : ℕ) → NamesAxes mask axes → ((axis : ℕ) → axis < axes → get_or p axis 0 % 2 ^ bit_count axis mask ≡ coordinate_at mask axis z) → z_address mask p ≡ z % 2 ^ length mask
z_address-from_coordinates [] p axes z named same = sym (mod-one z)
z_address-from_coordinates (d ∷ finer) p axes z named same =
    let parts : (axis : ℕ) → axis < axes → d ≡ axis → (bit_at (get_or p axis 0) (bit_count axis finer) ≡ bit_at z (length finer)) × (get_or p axis 0 % 2 ^ bit_count axis finer ≡ coordinate_at finer axis z) = λ axis within one.
    same_from_place (bit_at (get_or p axis 0) (bit_count axis finer)) (get_or p axis 0 % 2 ^ bit_count axis finer) (bit_at z (length finer)) (coordinate_at finer axis z) (2 ^ bit_count axis finer)
    (mod_below (get_or p axis 0) (2 ^ bit_count axis finer) (pow_pos (bit_count axis finer))) (coordinate_at-lt finer axis z)
    (sym (mod-pow-suc (get_or p axis 0) (bit_count axis finer)) ∙ ap (λ k. get_or p axis 0 % 2 ^ k) (sym (bit_count-same d axis finer one)) ∙ same axis within ∙ coordinate_at-same d axis finer z one) in
    let finer_same : (axis : ℕ) → axis < axes → get_or p axis 0 % 2 ^ bit_count axis finer ≡ coordinate_at finer axis z = λ axis within. ⊎_elim
    (λ one. (parts axis within one).1)
    (λ other. ap (λ k. get_or p axis 0 % 2 ^ k) (sym (bit_count-other d axis finer other)) ∙ same axis within ∙ coordinate_at-other d axis finer z other)
    (cases_eq d axis) in
    let here : bit_at (get_or p d 0) (bit_count d finer) ≡ bit_at z (length finer) = (parts d (All-head (λ x. x < axes) d finer named) refl).0 in
    let rest : z_address finer p ≡ z % 2 ^ length finer = z_address-from_coordinates finer p axes z (All-tail (λ x. x < axes) d finer named) finer_same in
    rw (here, rest) (sym (mod-pow-suc z (length finer)))

-- ---- points

-- a point has so many coordinates
pub length-point_at : (mask : List ℕ) (axes z : ℕ) → length (point_at mask axes z) ≡ axes
length-point_at mask axes z = length-map-range_with_len (λ axis. coordinate_at mask axis z) 0 axes

-- each of them is the coordinate there
pub get_or-point_at : (mask : List ℕ) (axes z axis : ℕ) → axis < axes → get_or (point_at mask axes z) axis 0 ≡ coordinate_at mask axis z
get_or-point_at mask axes z axis within = get_or-map-range_with_len (λ axis. coordinate_at mask axis z) 0 axes axis axis 0 within (omega arith)

-- the point of an address has an address
pub HasAddress-point_at : (mask : List ℕ) (axes z : ℕ) → NamesAxes mask axes → HasAddress mask (point_at mask axes z)
HasAddress-point_at mask axes z named = record {
  named = rw (length-point_at mask axes z) named;
  below = λ axis within.
      let in_axes : axis < axes = rw (length-point_at mask axes z) at within in
      rw (get_or-point_at mask axes z axis in_axes) (coordinate_at-lt mask axis z);
}

-- namely that address
pub z_address-point_at : (mask : List ℕ) (axes z : ℕ) → NamesAxes mask axes → z < 2 ^ length mask → z_address mask (point_at mask axes z) ≡ z
z_address-point_at mask axes z named small =
    z_address-from_coordinates mask (point_at mask axes z) axes z named
    (λ axis within. rw (get_or-point_at mask axes z axis within) (mod-eq_of_lt (coordinate_at-lt mask axis z)))
    ∙ mod-eq_of_lt small

-- a point that has an address is the point of its address
pub point_at-z_address : (mask p : List ℕ) → HasAddress mask p → point_at mask (length p) (z_address mask p) ≡ p
point_at-z_address mask p has =
    let axes : length (point_at mask (length p) (z_address mask p)) ≡ length p = length-point_at mask (length p) (z_address mask p) in
    ext_get_or 0 (point_at mask (length p) (z_address mask p)) p axes (λ axis within.
    let in_axes : axis < length p = rw axes at within in
    get_or-point_at mask (length p) (z_address mask p) axis in_axes ∙ coordinate_at-z_address mask axis p ∙ mod-eq_of_lt (has.below axis in_axes))

-- two points with one Z address are one point
pub z_address-injective : (mask p q : List ℕ) → HasAddress mask p → HasAddress mask q → length p ≡ length q → z_address mask p ≡ z_address mask q → p ≡ q
z_address-injective mask p q has_p has_q axes address =
    sym (point_at-z_address mask p has_p) ∙ ap (λ n. point_at mask n (z_address mask p)) axes ∙ ap (λ z. point_at mask (length q) z) address ∙ point_at-z_address mask q has_q
