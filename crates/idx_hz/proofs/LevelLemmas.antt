-- The points of a level form a grid: the axes' strides are 2 to the number of their digits behind the level's places.
use Rattle.std.proofs.Common.{◌≡◌, ◌≢◌, ℕ, zero, suc, ◌+◌, ◌-◌, ◌*◌, ◌/◌, ◌%◌, ◌^◌, ◌<◌, ◌≤◌, ◌↔◌, List, [], ◌∷◌, length, get_or, drop, refl, sym, ap, ◌∙◌, subst, ⊎_elim, arith, length-drop}
use Rattle.std.specs.Int.{bit_at}
use Rattle.std.proofs.Math.Nat.{pow-suc, mod-eq_of_lt, zero-mod, zero-div, mul-mod_left, mul-add-mod_self_right, mul_assoc}
use Rattle.std.proofs.Math.Pow.{mod-mod-pow}
use Rattle.std.proofs.lemmas.Bool.{cases_lt, cases_eq}
use Rattle.std.proofs.lemmas.Nat.{pow_pos, pow-add, mod_low, field_of}
use Rattle.std.proofs.lemmas.Nat.Bits.{bit_at-zero, bit_at-lt}
use Rattle.std.proofs.lemmas.List.{drop_more}
use Rattle.std.proofs.lemmas.List.Elements.{All-drop, All-get_or}
use Rattle.idx_hz.specs.Mask.{bit_count, NamesAxes}
use Rattle.idx_hz.specs.Address.{z_address, level_at, level}
use Rattle.idx_hz.specs.Stride.{stride, LiesOnStrides}
use Rattle.idx_hz.specs.Coordinate.{coordinate_at}
use Rattle.idx_hz.proofs.ZLemmas.{coordinate_at-same, coordinate_at-other, coordinate_at-z_address, z_address-from_coordinates, z_address-lt, mod-pow-suc, bit_count-same, bit_count-other}
use Rattle.idx_hz.proofs.HzLemmas.{HasLowestOne, cases_lowest_one, level_at-zero, level_at-lowest_one}

-- ---- levels of numbers

-- a multiple of 2^j is one of each smaller power
mod-pow-smaller : (z j k : ℕ) → j ≤ k → z % 2 ^ k ≡ 0 → z % 2 ^ j ≡ 0
mod-pow-smaller z j k le multiple =
    let split : k - j + j ≡ k = omega arith in
    sym (mod-mod-pow z (k - j) j) ∙ ap (λ n. z % 2 ^ n % 2 ^ j) split ∙ ap (λ m. m % 2 ^ j) multiple ∙ zero-mod (2 ^ j)

-- an odd number times 2^q is a multiple of 2^q
odd-mod-pow : (q r : ℕ) → ((2 * r + 1) * 2 ^ q) % 2 ^ q ≡ 0
odd-mod-pow q r = mul-mod_left (2 * r + 1) (2 ^ q)

-- and of no greater power of two
odd-mod-pow-suc : (q r : ℕ) → ((2 * r + 1) * 2 ^ q) % 2 ^ suc q ≡ 2 ^ q
odd-mod-pow-suc q r =
    let split : (2 * r + 1) * 2 ^ q ≡ r * 2 ^ suc q + 2 ^ q = rw pow-suc (omega arith) in
    rw split (mod_low r (suc q) (2 ^ q) (omega (arith, pow_pos q, pow-suc 2 q)))

-- a Z address of level at most h is a multiple of 2 to the number of places behind h
pub multiple-from_level : (digits z h : ℕ) → z < 2 ^ digits → level_at digits z ≤ h → z % 2 ^ (digits - h) ≡ 0
multiple-from_level digits z h small low = ⊎_elim
    (λ (none : z ≡ 0). rw none (zero-mod (2 ^ (digits - h))))
    (λ (one : HasLowestOne digits z).
    mod-pow-smaller z (digits - h) one.zeros (omega (arith, level_at-lowest_one digits z one, one.places))
    (rw (one.is) (odd-mod-pow one.zeros one.rest)))
    (cases_lowest_one digits z small)

-- and each such multiple has level at most h
pub level-from_multiple : (digits z h : ℕ) → z < 2 ^ digits → z % 2 ^ (digits - h) ≡ 0 → level_at digits z ≤ h
level-from_multiple digits z h small multiple = ⊎_elim
    (λ (none : z ≡ 0). let origin : level_at digits z ≡ 0 = ap (level_at digits) none ∙ level_at-zero digits in omega arith)
    (λ (one : HasLowestOne digits z). ⊎_elim
    (λ (more : h < suc one.above).
    let low : z % 2 ^ suc one.zeros ≡ 0 = mod-pow-smaller z (suc one.zeros) (digits - h) (omega (arith, one.places)) multiple in
    let high : z % 2 ^ suc one.zeros ≡ 2 ^ one.zeros = ap (λ n. n % 2 ^ suc one.zeros) one.is ∙ odd-mod-pow-suc one.zeros one.rest in
    absurd (omega (arith, pow_pos one.zeros)))
    (λ (fits : suc one.above ≤ h). omega (arith, level_at-lowest_one digits z one))
    (cases_lt h (suc one.above)))
    (cases_lowest_one digits z small)

-- ---- strides

-- what stands before n places gives the last m of them nothing
mod-cat-low : (b n m z : ℕ) → m ≤ n → (b * 2 ^ n + z) % 2 ^ m ≡ z % 2 ^ m
mod-cat-low b n m z le =
    let split : n - m + m ≡ n = omega arith in
    let power : b * 2 ^ n ≡ b * 2 ^ (n - m) * 2 ^ m = ap (λ k. b * 2 ^ k) (sym split) ∙ ap (λ k. b * k) (pow-add 2 (n - m) m) ∙ sym (mul_assoc b (2 ^ (n - m)) (2 ^ m)) in
    rw power (mul-add-mod_self_right (b * 2 ^ (n - m)) (2 ^ m) z)

-- the finest places of a Z address are the Z address by the digits there
pub z_address-drop : (h : ℕ) (mask p : List ℕ) → z_address mask p % 2 ^ length (drop h mask) ≡ z_address (drop h mask) p
z_address-drop zero mask p = mod-eq_of_lt (z_address-lt mask p)
z_address-drop (suc h) [] p = refl
z_address-drop (suc h) (d ∷ finer) p =
    mod-cat-low (bit_at (get_or p d 0) (bit_count d finer)) (length finer) (length (drop h finer)) (z_address finer p) (omega (arith, length-drop h finer))
    ∙ z_address-drop h finer p

-- the point at the Z address 0 is the origin
pub coordinate_at-zero : (mask : List ℕ) (axis : ℕ) → coordinate_at mask axis 0 ≡ 0
coordinate_at-zero [] axis = refl
coordinate_at-zero (d ∷ finer) axis = ⊎_elim
    (λ same. coordinate_at-same d axis finer 0 same ∙ rw (bit_at-zero (length finer), coordinate_at-zero finer axis) (omega arith))
    (λ other. coordinate_at-other d axis finer 0 other ∙ coordinate_at-zero finer axis)
    (cases_eq d axis)

-- the points of level at most h are those whose coordinates are multiples of the strides
pub on_strides-from_level : (mask p : List ℕ) (h : ℕ) → level mask p ≤ h → LiesOnStrides mask h p
on_strides-from_level mask p h low axis within =
    let places : length (drop h mask) ≡ length mask - h = length-drop h mask in
    let none : z_address (drop h mask) p ≡ 0 =
    sym (z_address-drop h mask p) ∙ ap (λ n. z_address mask p % 2 ^ n) places ∙ multiple-from_level (length mask) (z_address mask p) h (z_address-lt mask p) low in
    sym (coordinate_at-z_address (drop h mask) axis p) ∙ ap (coordinate_at (drop h mask) axis) none ∙ coordinate_at-zero (drop h mask) axis

-- and each such point is one of them
pub level-from_on_strides : (mask p : List ℕ) (h : ℕ) → NamesAxes mask (length p) → LiesOnStrides mask h p → level mask p ≤ h
level-from_on_strides mask p h named on =
    let places : length (drop h mask) ≡ length mask - h = length-drop h mask in
    let none : z_address (drop h mask) p ≡ 0 =
    z_address-from_coordinates (drop h mask) p (length p) 0 (All-drop (λ d. d < length p) h mask named)
    (λ axis within. on axis within ∙ sym (coordinate_at-zero (drop h mask) axis))
    ∙ zero-mod (2 ^ length (drop h mask)) in
    level-from_multiple (length mask) (z_address mask p) h (z_address-lt mask p)
    (ap (λ n. z_address mask p % 2 ^ n) (sym places) ∙ z_address-drop h mask p ∙ none)

-- ---- one level

-- a digit more in the places behind h
drop-digit : (mask : List ℕ) (h : ℕ) → h < length mask → drop h mask ≡ get_or mask h 0 ∷ drop (suc h) mask
drop-digit mask h within = let next : h + 1 ≡ suc h = omega arith in rw next at (drop_more mask h 0 within)

-- a multiple of the stride that is an even one is a multiple of twice the stride
even-multiple : (x c : ℕ) → x % 2 ^ c ≡ 0 → bit_at x c ≡ 0 → x % 2 ^ suc c ≡ 0
even-multiple x c multiple even = rw (mod-pow-suc x c, multiple, even) (omega arith)

-- a multiple of twice the stride is an even multiple of it
bit-of_even_multiple : (x c : ℕ) → x % 2 ^ suc c ≡ 0 → bit_at x c ≡ 0
bit-of_even_multiple x c multiple =
    let next : 1 + c ≡ suc c = omega arith in
    sym (field_of x 1 c) ∙ ap (λ n. x % 2 ^ n / 2 ^ c) next ∙ ap (λ m. m / 2 ^ c) multiple ∙ zero-div (2 ^ c)

-- the stride of one level coarser is twice as long on the digit's axis
pub stride_of_digit : (mask : List ℕ) (h axis : ℕ) → h < length mask → get_or mask h 0 ≡ axis → bit_count axis (drop h mask) ≡ suc (bit_count axis (drop (suc h) mask))
stride_of_digit mask h axis within same = ap (bit_count axis) (drop-digit mask h within) ∙ bit_count-same (get_or mask h 0) axis (drop (suc h) mask) same

-- and as long on each other axis
pub stride_of_other : (mask : List ℕ) (h axis : ℕ) → h < length mask → get_or mask h 0 ≢ axis → bit_count axis (drop h mask) ≡ bit_count axis (drop (suc h) mask)
stride_of_other mask h axis within other = ap (bit_count axis) (drop-digit mask h within) ∙ bit_count-other (get_or mask h 0) axis (drop (suc h) mask) other

-- a point on the strides of a level, whose coordinate on the digit's axis is an even multiple, lies on the coarser ones
on_coarser_strides : (mask p : List ℕ) (h : ℕ) → h < length mask → LiesOnStrides mask (suc h) p → bit_at (get_or p (get_or mask h 0) 0) (bit_count (get_or mask h 0) (drop (suc h) mask)) ≡ 0 → LiesOnStrides mask h p
on_coarser_strides mask p h place on even axis within = ⊎_elim
    (λ (same : get_or mask h 0 ≡ axis). rw (stride_of_digit mask h axis place same)
    (even-multiple (get_or p axis 0) (bit_count axis (drop (suc h) mask)) (on axis within) (rw same at even)))
    (λ other. rw (stride_of_other mask h axis place other) (on axis within))
    (cases_eq (get_or mask h 0) axis)

-- a point on the coarser strides has an even multiple there
even-from_coarser_strides : (mask p : List ℕ) (h : ℕ) → h < length mask → get_or mask h 0 < length p → LiesOnStrides mask h p → bit_at (get_or p (get_or mask h 0) 0) (bit_count (get_or mask h 0) (drop (suc h) mask)) ≡ 0
even-from_coarser_strides mask p h place within on =
    bit-of_even_multiple (get_or p (get_or mask h 0) 0) (bit_count (get_or mask h 0) (drop (suc h) mask))
    (ap (λ n. get_or p (get_or mask h 0) 0 % 2 ^ n) (sym (stride_of_digit mask h (get_or mask h 0) place refl)) ∙ on (get_or mask h 0) within)

-- the points of level exactly h + 1 are those on its strides whose coordinate on the axis of the digit at that place is
-- an odd multiple
pub odd_multiple-from_level : (mask p : List ℕ) (h : ℕ) → NamesAxes mask (length p) → h < length mask → level mask p ≡ suc h → LiesOnStrides mask (suc h) p × (get_or p (get_or mask h 0) 0 / stride mask (suc h) (get_or mask h 0) % 2 ≡ 1)
odd_multiple-from_level mask p h named place here =
    let on : LiesOnStrides mask (suc h) p = on_strides-from_level mask p (suc h) (omega arith) in (
      on,
      ⊎_elim
          (λ (even : bit_at (get_or p (get_or mask h 0) 0) (bit_count (get_or mask h 0) (drop (suc h) mask)) ≡ 0).
          absurd (omega (arith, level-from_on_strides mask p h named (on_coarser_strides mask p h place on even))))
          (λ odd. omega (arith, bit_at-lt (get_or p (get_or mask h 0) 0) (bit_count (get_or mask h 0) (drop (suc h) mask))))
          (cases_eq (bit_at (get_or p (get_or mask h 0) 0) (bit_count (get_or mask h 0) (drop (suc h) mask))) 0),
    )

-- and each such point is one of them
pub level-from_odd_multiple : (mask p : List ℕ) (h : ℕ) → NamesAxes mask (length p) → h < length mask → LiesOnStrides mask (suc h) p → get_or p (get_or mask h 0) 0 / stride mask (suc h) (get_or mask h 0) % 2 ≡ 1 → level mask p ≡ suc h
level-from_odd_multiple mask p h named place on odd =
    let fine : level mask p ≤ suc h = level-from_on_strides mask p (suc h) named on in
    ⊎_elim
    (λ (coarse : level mask p < suc h).
    absurd (omega (arith, even-from_coarser_strides mask p h place (All-get_or (λ d. d < length p) mask h 0 place named) (on_strides-from_level mask p h (omega arith)))))
    (λ exact. omega arith)
    (cases_lt (level mask p) (suc h))

-- the points of level at most h are those on its strides
pub level_iff_on_strides : (mask p : List ℕ) (h : ℕ) → NamesAxes mask (length p) → (level mask p ≤ h) ↔ LiesOnStrides mask h p
level_iff_on_strides mask p h named = (on_strides-from_level mask p h, level-from_on_strides mask p h named)

-- the same of level exactly h
pub level_iff_odd_multiple : (mask p : List ℕ) (h : ℕ) → NamesAxes mask (length p) → 1 ≤ h → h ≤ length mask → (level mask p ≡ h) ↔ (LiesOnStrides mask h p × (get_or p (get_or mask (h - 1) 0) 0 / stride mask h (get_or mask (h - 1) 0) % 2 ≡ 1))
level_iff_odd_multiple mask p h named from to =
    let last : suc (h - 1) ≡ h = omega arith in
    let place : h - 1 < length mask = omega arith in
    subst (λ n. (level mask p ≡ n) ↔ (LiesOnStrides mask n p × (get_or p (get_or mask (h - 1) 0) 0 / stride mask n (get_or mask (h - 1) 0) % 2 ≡ 1))) last
    (odd_multiple-from_level mask p (h - 1) named place, λ both. level-from_odd_multiple mask p (h - 1) named place both.0 both.1)
