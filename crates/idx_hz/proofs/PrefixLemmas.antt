-- The points whose Z addresses share their first digits fill a box: on each axis one multiple of the stride behind those
-- places, and what follows it up to the next.
use Rattle.std.proofs.Common.{◌≡◌, ◌≢◌, ℕ, zero, suc, ◌+◌, ◌-◌, ◌*◌, ◌/◌, ◌%◌, ◌^◌, ◌<◌, ◌≤◌, ◌↔◌, List, [], ◌∷◌, length, get_or, take, drop, refl, sym, ap, ◌∙◌, ⊎_elim, arith, length-append, length-drop, length-take-le, take-append-drop}
use Rattle.std.specs.Prelude.{EachIndex, slice_index}
use Rattle.std.specs.Int.{bit_at}
use Rattle.std.proofs.Math.Nat.{mul_assoc, mul-add-div_right, mod-eq_of_lt, div-eq_of_lt, add_comm}
use Rattle.std.proofs.lemmas.Bool.{cases_eq}
use Rattle.std.proofs.lemmas.Nat.{pow_pos, pow-add, shr-shr, shr_below}
use Rattle.std.proofs.lemmas.List.{ext_get_or}
use Rattle.std.proofs.lemmas.List.Elements.{All-take}
use Rattle.idx_hz.specs.Mask.{bit_count, NamesAxes, HasAddress}
use Rattle.idx_hz.specs.Address.{z_address}
use Rattle.idx_hz.specs.Coordinate.{coordinate_at, point_at}
use Rattle.idx_hz.specs.Stride.{stride}
use Rattle.idx_hz.proofs.ZLemmas.{bit_count-append, coordinate_at-same, coordinate_at-other, coordinate_at-lt, coordinate_at-z_address, length-point_at, get_or-point_at, z_address-lt, z_address-point_at}

-- a front of a number and what is behind it
front-div : (b c t y : ℕ) → (b * 2 ^ (t + c) + y) / 2 ^ c ≡ b * 2 ^ t + y / 2 ^ c
front-div b c t y =
    let power : b * 2 ^ (t + c) ≡ b * 2 ^ t * 2 ^ c = ap (λ m. b * m) (pow-add 2 t c) ∙ sym (mul_assoc b (2 ^ t) (2 ^ c)) in
    rw power (mul-add-div_right (pow_pos c) (b * 2 ^ t) y)

-- the first digits give a coordinate what stands before the bits of the others
pub coordinate_at-prefix : (h : ℕ) (mask : List ℕ) (axis z : ℕ) → coordinate_at mask axis z / 2 ^ bit_count axis (drop h mask) ≡ coordinate_at (take h mask) axis (z / 2 ^ length (drop h mask))
coordinate_at-prefix zero mask axis z = div-eq_of_lt (coordinate_at-lt mask axis z)
coordinate_at-prefix (suc h) [] axis z = refl
coordinate_at-prefix (suc h) (d ∷ finer) axis z =
    let count : bit_count axis finer ≡ bit_count axis (take h finer) + bit_count axis (drop h finer) = ap (bit_count axis) (sym (take-append-drop h finer)) ∙ bit_count-append axis (take h finer) (drop h finer) in
    let size : length finer ≡ length (drop h finer) + length (take h finer) = ap length (sym (take-append-drop h finer)) ∙ length-append (take h finer) (drop h finer) ∙ add_comm (length (take h finer)) (length (drop h finer)) in
    let bit : bit_at z (length finer) ≡ bit_at (z / 2 ^ length (drop h finer)) (length (take h finer)) = ap (bit_at z) size ∙ ap (λ m. m % 2) (sym (shr-shr z (length (drop h finer)) (length (take h finer)))) in
    ⊎_elim
    (λ (same : d ≡ axis).
    ap (λ x. x / 2 ^ bit_count axis (drop h finer)) (coordinate_at-same d axis finer z same ∙ ap (λ n. bit_at z (length finer) * 2 ^ n + coordinate_at finer axis z) count)
    ∙ front-div (bit_at z (length finer)) (bit_count axis (drop h finer)) (bit_count axis (take h finer)) (coordinate_at finer axis z)
    ∙ ap (λ b. b * 2 ^ bit_count axis (take h finer) + coordinate_at finer axis z / 2 ^ bit_count axis (drop h finer)) bit
    ∙ ap (λ x. bit_at (z / 2 ^ length (drop h finer)) (length (take h finer)) * 2 ^ bit_count axis (take h finer) + x) (coordinate_at-prefix h finer axis z)
    ∙ sym (coordinate_at-same d axis (take h finer) (z / 2 ^ length (drop h finer)) same))
    (λ (other : d ≢ axis).
    ap (λ x. x / 2 ^ bit_count axis (drop h finer)) (coordinate_at-other d axis finer z other)
    ∙ coordinate_at-prefix h finer axis z
    ∙ sym (coordinate_at-other d axis (take h finer) (z / 2 ^ length (drop h finer)) other))
    (cases_eq d axis)

-- a point's coordinates, in strides
pub stride-coordinate : (mask p : List ℕ) (h axis : ℕ) → HasAddress mask p → axis < length p → get_or p axis 0 / stride mask h axis ≡ coordinate_at (take h mask) axis (z_address mask p / 2 ^ length (drop h mask))
stride-coordinate mask p h axis has within =
    let whole : coordinate_at mask axis (z_address mask p) ≡ get_or p axis 0 = coordinate_at-z_address mask axis p ∙ mod-eq_of_lt (has.below axis within) in
    ap (λ x. x / stride mask h axis) (sym whole) ∙ coordinate_at-prefix h mask axis (z_address mask p)

-- two Z addresses that give each axis one coordinate are one
pub same_from_coordinates : (mask : List ℕ) (axes y z : ℕ) → NamesAxes mask axes → y < 2 ^ length mask → z < 2 ^ length mask → ((axis : ℕ) → axis < axes → coordinate_at mask axis y ≡ coordinate_at mask axis z) → y ≡ z
same_from_coordinates mask axes y z named small_y small_z same =
    let points : point_at mask axes y ≡ point_at mask axes z = ext_get_or 0 (point_at mask axes y) (point_at mask axes z) (length-point_at mask axes y ∙ sym (length-point_at mask axes z)) (λ axis within.
    let in_axes : axis < axes = rw (length-point_at mask axes y) at within in
    get_or-point_at mask axes y axis in_axes ∙ same axis in_axes ∙ sym (get_or-point_at mask axes z axis in_axes)) in
    sym (z_address-point_at mask axes y named small_y) ∙ ap (z_address mask) points ∙ z_address-point_at mask axes z named small_z

-- the first h digits of a point's Z address are those of a number exactly where each coordinate has as many whole
-- strides as the number's point by those digits
pub prefix_iff_strides : (mask p : List ℕ) (h front : ℕ) → HasAddress mask p → h ≤ length mask → front < 2 ^ h → (z_address mask p / 2 ^ (length mask - h) ≡ front) ↔ EachIndex p (λ axis. slice_index p axis / stride mask h axis ≡ coordinate_at (take h mask) axis front)
prefix_iff_strides mask p h front has le small =
    let behind : length (drop h mask) ≡ length mask - h = length-drop h mask in
    let size : length (take h mask) ≡ h = length-take-le h mask le in
    let split : h + (length mask - h) ≡ length mask = omega arith in
    let below : z_address mask p / 2 ^ (length mask - h) < 2 ^ h = shr_below (z_address mask p) h (length mask - h) (rw split (z_address-lt mask p)) in (
      λ here axis within. stride-coordinate mask p h axis has within ∙ ap (coordinate_at (take h mask) axis) (ap (λ n. z_address mask p / 2 ^ n) behind ∙ here),
      λ strides. same_from_coordinates (take h mask) (length p) (z_address mask p / 2 ^ (length mask - h)) front (All-take (λ d. d < length p) h mask (has.named)) (rw size below) (rw size small)
          (λ axis within. sym (stride-coordinate mask p h axis has within ∙ ap (λ n. coordinate_at (take h mask) axis (z_address mask p / 2 ^ n)) behind) ∙ strides axis within),
    )
