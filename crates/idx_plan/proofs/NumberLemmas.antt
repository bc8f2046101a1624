-- The digits of a point's Z address by its numbers on a level's grid.
use Rattle.std.proofs.Common.{◌≡◌, ◌≢◌, ℕ, zero, suc, ◌+◌, ◌-◌, ◌*◌, ◌/◌, ◌%◌, ◌^◌, ◌<◌, ◌≤◌, List, [], ◌∷◌, length, get_or, take, drop, refl, sym, ap, ◌∙◌, ⊎_elim, arith, take-append-drop}
use Rattle.std.specs.Int.{bit_at}
use Rattle.std.proofs.Math.Nat.{div-div-eq-div-mul, pow-suc}
use Rattle.std.proofs.lemmas.Bool.{cases_eq}
use Rattle.std.proofs.lemmas.Nat.{div-add-mod', div-mul-add, pow-add, pow_pos, shr-shr}
use Rattle.std.proofs.lemmas.Nat.Bits.{bit_at-lt, bit_at_cat_low}
use Rattle.std.proofs.lemmas.List.{drop-drop}
use Rattle.std.proofs.lemmas.List.FromFn.{get_or-map-range_with_len, length-map-range_with_len}
use Rattle.idx_hz.specs.Mask.{bit_count}
use Rattle.idx_hz.specs.Address.{z_address}
use Rattle.idx_hz.specs.Stride.{stride}
use Rattle.idx_hz.proofs.ZLemmas.{bit_at-digit, bit_count-append, z_address-lt}
use Rattle.idx_hz.proofs.LevelLemmas.{stride_of_digit}
use Rattle.idx_grid.specs.LevelGrid.{first_on}
use Rattle.idx_grid.proofs.LevelGridLemmas.{first_on-digit, first_on-other, stride-twice}
use Rattle.idx_plan.specs.Parts.{coordinate_on, point_on}

-- ---- the digits of a mask

-- fewer of them name an axis behind a later place
pub fewer_behind : (mask : List ℕ) (axis i j : ℕ) → i ≤ j → bit_count axis (drop j mask) ≤ bit_count axis (drop i mask)
fewer_behind mask axis i j le =
    let split : i + (j - i) ≡ j = omega arith in
    let again : drop (j - i) (drop i mask) ≡ drop j mask = drop-drop (j - i) i mask ∙ ap (λ n. drop n mask) split in
    let parts : bit_count axis (take (j - i) (drop i mask)) + bit_count axis (drop (j - i) (drop i mask)) ≡ bit_count axis (drop i mask) =
    sym (bit_count-append axis (take (j - i) (drop i mask)) (drop (j - i) (drop i mask))) ∙ ap (bit_count axis) (take-append-drop (j - i) (drop i mask)) in
    omega (arith, parts, ap (bit_count axis) again)

-- a digit of a Z address is a bit of the coordinate on its axis
pub digit_bit : (mask p : List ℕ) (d : ℕ) → d < length mask → bit_at (z_address mask p) (length mask - suc d) ≡ bit_at (get_or p (get_or mask d 0) 0) (bit_count (get_or mask d 0) (drop (suc d) mask))
digit_bit [] p d within = absurd (omega arith)
digit_bit (axis ∷ finer) p zero within =
    let behind : suc (length finer) - 1 ≡ length finer = omega arith in
    ap (bit_at (z_address (axis ∷ finer) p)) behind
    ∙ bit_at-digit (bit_at (get_or p axis 0) (bit_count axis finer)) (length finer) (z_address finer p) (bit_at-lt (get_or p axis 0) (bit_count axis finer)) (z_address-lt finer p)
digit_bit (axis ∷ finer) p (suc d) within =
    let behind : suc (length finer) - suc (suc d) ≡ length finer - suc d = omega arith in
    let inside : length finer - suc d < length finer = omega arith in
    ap (bit_at (z_address (axis ∷ finer) p)) behind
    ∙ bit_at_cat_low (bit_at (get_or p axis 0) (bit_count axis finer)) (length finer) (z_address finer p) (length finer - suc d) inside
    ∙ digit_bit finer p d (omega arith)

-- one digit more of a number
pub more_digits : (z j : ℕ) → z / 2 ^ j ≡ z / 2 ^ suc j * 2 + bit_at z j
more_digits z j =
    let half : z / 2 ^ j / 2 ≡ z / 2 ^ suc j = div-div-eq-div-mul z (2 ^ j) 2 ∙ ap (λ m. z / m) (sym (pow-suc 2 j)) in
    sym (div-add-mod' (z / 2 ^ j) 2) ∙ ap (λ m. m * 2 + bit_at z j) half

-- and of the number that is a 1 and then the first digits of a Z address
pub more_front : (z total d : ℕ) → d < total → 2 ^ (d + 1) + z / 2 ^ (total - (d + 1)) ≡ 2 * (2 ^ d + z / 2 ^ (total - d)) + bit_at z (total - suc d)
more_front z total d within =
    let here : total - (d + 1) ≡ total - suc d = omega arith in
    let wider : suc (total - suc d) ≡ total - d = omega arith in
    let power : 2 ^ (d + 1) ≡ 2 ^ d * 2 ^ 1 = pow-add 2 d 1 in
    let digits : z / 2 ^ (total - suc d) ≡ z / 2 ^ (total - d) * 2 + bit_at z (total - suc d) = more_digits z (total - suc d) ∙ ap (λ n. z / 2 ^ n * 2 + bit_at z (total - suc d)) wider in
    omega (arith, ap (λ n. z / 2 ^ n) here, power, digits)

-- ---- coordinates

-- the first coordinate of a level is below the step
pub first_below : (mask : List ℕ) (level axis : ℕ) → 1 ≤ level → level ≤ length mask → first_on mask level axis < stride mask (level - 1) axis
first_below mask level axis some few = ⊎_elim
    (λ (same : get_or mask (level - 1) 0 ≡ axis).
    omega (arith, first_on-digit mask level axis some same, stride-twice mask level axis some few same, pow_pos (bit_count axis (drop level mask))))
    (λ (other : get_or mask (level - 1) 0 ≢ axis).
    omega (arith, first_on-other mask level axis other, pow_pos (bit_count axis (drop (level - 1) mask))))
    (cases_eq (get_or mask (level - 1) 0) axis)

-- a bit of a coordinate from the step on is one of the number
pub coordinate_bit : (first n s b : ℕ) → first < 2 ^ s → bit_at (first + n * 2 ^ s) (b + s) ≡ bit_at n b
coordinate_bit first n s b small =
    let turn : first + n * 2 ^ s ≡ n * 2 ^ s + first = omega arith in
    let order : b + s ≡ s + b = omega arith in
    ap (λ m. m % 2)
    (ap (λ k. (first + n * 2 ^ s) / 2 ^ k) order ∙ sym (shr-shr (first + n * 2 ^ s) s b)
    ∙ ap (λ m. m / 2 ^ b) (ap (λ m. m / 2 ^ s) turn ∙ div-mul-add n (2 ^ s) first small))

-- the point with some numbers
pub length-point_on : (mask : List ℕ) (level : ℕ) (ns : List ℕ) → length (point_on mask level ns) ≡ length ns
length-point_on mask level ns = length-map-range_with_len (λ axis. coordinate_on mask level axis (get_or ns axis 0)) 0 (length ns)

pub get_or-point_on : (mask : List ℕ) (level : ℕ) (ns : List ℕ) (axis : ℕ) → axis < length ns → get_or (point_on mask level ns) axis 0 ≡ coordinate_on mask level axis (get_or ns axis 0)
get_or-point_on mask level ns axis within =
    get_or-map-range_with_len (λ a. coordinate_on mask level a (get_or ns a 0)) 0 (length ns) axis axis 0 within (omega arith)

-- a digit of its Z address is one of a number
pub number_bit : (mask : List ℕ) (level : ℕ) (ns : List ℕ) (d left : ℕ) → d < level - 1 → level ≤ length mask → get_or mask d 0 < length ns →
    left + bit_count (get_or mask d 0) (drop (level - 1) mask) ≡ bit_count (get_or mask d 0) (drop d mask) →
    (1 ≤ left) × (bit_at (z_address mask (point_on mask level ns)) (length mask - suc d) ≡ bit_at (get_or ns (get_or mask d 0) 0) (left - 1))
number_bit mask level ns d left before few axis is =
    let a : ℕ = get_or mask d 0 in
    let s : ℕ = bit_count a (drop (level - 1) mask) in
    let more : bit_count a (drop d mask) ≡ suc (bit_count a (drop (suc d) mask)) = stride_of_digit mask d a (omega arith) refl in
    let behind : s ≤ bit_count a (drop (suc d) mask) = fewer_behind mask a (suc d) (level - 1) (omega arith) in
    let place : bit_count a (drop (suc d) mask) ≡ left - 1 + s = omega (arith, is, more, behind) in (
      omega (arith, is, more, behind),
      digit_bit mask (point_on mask level ns) d (omega arith)
          ∙ ap (λ x. bit_at x (bit_count a (drop (suc d) mask))) (get_or-point_on mask level ns a axis)
          ∙ ap (bit_at (coordinate_on mask level a (get_or ns a 0))) place
          ∙ coordinate_bit (first_on mask level a) (get_or ns a 0) s (left - 1) (first_below mask level a (omega arith) few),
    )
