-- A loop over a mask's digits that gives each coordinate its bits, from the highest on.
use Rattle.std.proofs.Common.{◌≡◌, ◌≢◌, ℕ, ◌+◌, ◌-◌, ◌*◌, ◌^◌, ◌<◌, ◌≤◌, Option, None, Some, List, ◌∷◌, length, get_or, drop, take, set, refl, sym, ap, ◌∙◌, ⊎_elim, arith, length-drop, length-set}
use Rattle.std.specs.Int.{bit_at}
use Rattle.std.proofs.Math.Nat.{pow-suc, mul-le-mul_left}
use Rattle.std.proofs.Math.Pow.{pow_mono}
use Rattle.std.proofs.lemmas.Bool.{cases_eq}
use Rattle.std.proofs.lemmas.Nat.{pow_pos}
use Rattle.std.proofs.lemmas.List.{drop_more, get_or-set_same, get_or-set_other, get_or-take, ext_get_or, length-take-le}
use Rattle.std.specs.Prelude.{IsSome}
use Rattle.std.specs.Option.{SomeIff}
use Rattle.idx_hz.specs.Mask.{bit_count, NamesAxes, HasAddress}
use Rattle.idx_hz.specs.Address.{z_address}
use Rattle.idx_hz.specs.Coordinate.{coordinate_at, point_at}
use Rattle.idx_hz.proofs.MaskLemmas.{bit_count-le}
use Rattle.idx_hz.proofs.ZLemmas.{bit_count-same, bit_count-other, coordinate_at-same, coordinate_at-other, coordinate_at-lt, length-point_at, get_or-point_at, HasAddress-point_at, z_address-point_at, point_at-z_address}

-- the digits before a place have given the coordinates their highest bits
pub record HasHighBits (mask : List ℕ) (z place : ℕ) (coordinates : List ℕ) : Type 0 where
  pub room : length coordinates ≡ 5
  pub split : (axis : ℕ) → axis < 5 → get_or coordinates axis 0 * 2 ^ bit_count axis (drop place mask) + coordinate_at (drop place mask) axis z ≡ coordinate_at mask axis z

-- a coordinate so far is below 2^40
pub HasHighBits-lt : (mask : List ℕ) (z place : ℕ) (coordinates : List ℕ) → length mask ≤ 40 → HasHighBits mask z place coordinates → (axis : ℕ) → axis < 5 → get_or coordinates axis 0 < 2 ^ 40
HasHighBits-lt mask z place coordinates few h axis within =
    let bits : bit_count axis mask ≤ 40 = omega (arith, bit_count-le axis mask) in
    let power : 2 ^ bit_count axis mask ≤ 2 ^ 40 = pow_mono bits in
    let scaled : get_or coordinates axis 0 * 1 ≤ get_or coordinates axis 0 * 2 ^ bit_count axis (drop place mask) = mul-le-mul_left (get_or coordinates axis 0) (pow_pos (bit_count axis (drop place mask))) in
    omega (arith, coordinate_at-lt mask axis z, h.split axis within)

-- a bit behind a number's others
bit-behind : (x b p more y value whole : ℕ) → more ≡ p * 2 → value ≡ b * p + y → x * more + value ≡ whole → (2 * x + b) * p + y ≡ whole
bit-behind x b p more y value whole double is h =
    let parts : x * (p * 2) + (b * p + y) ≡ whole = rw (← double, ← is) h in
    omega arith

-- one digit more
module _ (mask : List ℕ) (z place digit : ℕ) (coordinates : List ℕ) (within : place < length mask) (is : digit ≡ get_or mask place 0) (small : digit < 5) (h : HasHighBits mask z place coordinates) where
  front : drop place mask ≡ digit ∷ drop (place + 1) mask
  front = drop_more mask place 0 within ∙ ap (λ d. d ∷ drop (place + 1) mask) (sym is)

  split_before : (axis : ℕ) → axis < 5 → get_or coordinates axis 0 * 2 ^ bit_count axis (digit ∷ drop (place + 1) mask) + coordinate_at (digit ∷ drop (place + 1) mask) axis z ≡ coordinate_at mask axis z
  split_before axis in_room = ap (λ finer. get_or coordinates axis 0 * 2 ^ bit_count axis finer + coordinate_at finer axis z) (sym front) ∙ h.split axis in_room

  left : length (drop (place + 1) mask) ≡ length mask - 1 - place
  left = length-drop (place + 1) mask ∙ omega arith

  same_axis : (axis : ℕ) → axis < 5 → digit ≡ axis → (2 * get_or coordinates axis 0 + bit_at z (length mask - 1 - place)) * 2 ^ bit_count axis (drop (place + 1) mask) + coordinate_at (drop (place + 1) mask) axis z ≡ coordinate_at mask axis z
  same_axis axis in_room same =
      bit-behind (get_or coordinates axis 0) (bit_at z (length mask - 1 - place)) (2 ^ bit_count axis (drop (place + 1) mask)) (2 ^ bit_count axis (digit ∷ drop (place + 1) mask))
      (coordinate_at (drop (place + 1) mask) axis z) (coordinate_at (digit ∷ drop (place + 1) mask) axis z) (coordinate_at mask axis z)
      (ap (λ n. 2 ^ n) (bit_count-same digit axis (drop (place + 1) mask) same) ∙ pow-suc 2 (bit_count axis (drop (place + 1) mask)))
      (coordinate_at-same digit axis (drop (place + 1) mask) z same ∙ ap (λ n. bit_at z n * 2 ^ bit_count axis (drop (place + 1) mask) + coordinate_at (drop (place + 1) mask) axis z) left)
      (split_before axis in_room)

  other_axis : (axis : ℕ) → axis < 5 → digit ≢ axis → get_or coordinates axis 0 * 2 ^ bit_count axis (drop (place + 1) mask) + coordinate_at (drop (place + 1) mask) axis z ≡ coordinate_at mask axis z
  other_axis axis in_room other =
      ap (λ n. get_or coordinates axis 0 * 2 ^ n + coordinate_at (drop (place + 1) mask) axis z) (sym (bit_count-other digit axis (drop (place + 1) mask) other))
      ∙ ap (λ n. get_or coordinates axis 0 * 2 ^ bit_count axis (digit ∷ drop (place + 1) mask) + n) (sym (coordinate_at-other digit axis (drop (place + 1) mask) z other))
      ∙ split_before axis in_room

  pub HasHighBits-more : HasHighBits mask z (place + 1) (set coordinates digit (2 * get_or coordinates digit 0 + bit_at z (length mask - 1 - place)))
  HasHighBits-more = record {
    room = length-set coordinates digit (2 * get_or coordinates digit 0 + bit_at z (length mask - 1 - place)) ∙ h.room;
    split = λ axis in_room. ⊎_elim
        (λ (same : digit ≡ axis).
        let room : axis < length coordinates = omega (arith, h.room) in
        rw (same, get_or-set_same coordinates axis (2 * get_or coordinates axis 0 + bit_at z (length mask - 1 - place)) 0 room) (same_axis axis in_room same))
        (λ (other : digit ≢ axis).
        rw (get_or-set_other coordinates digit axis (2 * get_or coordinates digit 0 + bit_at z (length mask - 1 - place)) 0 (λ e. other (sym e))) (other_axis axis in_room other))
        (cases_eq digit axis);
  }

-- ---- the point

-- the coordinates of so many axes are the point's
pub take-coordinates : (mask : List ℕ) (axes z : ℕ) (coordinates : List ℕ) → length coordinates ≡ 5 → axes ≤ 5 → ((axis : ℕ) → axis < length coordinates → get_or coordinates axis 0 ≡ coordinate_at mask axis z) → take axes coordinates ≡ point_at mask axes z
take-coordinates mask axes z coordinates room few is =
    let size : length (take axes coordinates) ≡ axes = length-take-le axes coordinates (omega arith) in
    ext_get_or 0 (take axes coordinates) (point_at mask axes z) (size ∙ sym (length-point_at mask axes z)) (λ axis within.
    let in_axes : axis < axes = rw size at within in
    get_or-take axes coordinates axis 0 in_axes ∙ is axis (omega arith) ∙ sym (get_or-point_at mask axes z axis in_axes))

-- an answer that comes exactly where a fact holds is there
pub Some-from_SomeIff : {T : Type 0} (o : Option T) (P : Type 0) (v : T) → SomeIff o P v → P → IsSome o
Some-from_SomeIff None P v h p = absurd (h p)
Some-from_SomeIff (Some x) P v h p = refl

-- and is the value
pub value-from_SomeIff : {T : Type 0} (o : Option T) (P : Type 0) (v x : T) → SomeIff o P v → o ≡ Some x → x ≡ v
value-from_SomeIff None P v x h e = cc
value-from_SomeIff (Some y) P v x h e = cc (h.1)

-- what is true of the point of a Z address
pub record IsPointOf (mask : List ℕ) (axes z : ℕ) (point : List ℕ) : Type 0 where
  pub below : HasAddress mask point
  pub address : z_address mask point ≡ z
  pub only : (p : List ℕ) → length p ≡ axes → HasAddress mask p → z_address mask p ≡ z → p ≡ point

-- the point that the digits give is it
pub IsPointOf-point_at : (mask : List ℕ) (axes z : ℕ) → NamesAxes mask axes → z < 2 ^ length mask → IsPointOf mask axes z (point_at mask axes z)
IsPointOf-point_at mask axes z named small = record {
  below = HasAddress-point_at mask axes z named;
  address = z_address-point_at mask axes z named small;
  only = λ p size has address. sym (point_at-z_address mask p has) ∙ ap (λ n. point_at mask n (z_address mask p)) size ∙ ap (point_at mask axes) address;
}
