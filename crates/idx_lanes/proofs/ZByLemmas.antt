-- The Z address by a function from axes to coordinates: its first digits, its last ones, and as a sum over the axes.
use Rattle.std.proofs.Common.{◌≡◌, ◌≢◌, ℕ, zero, suc, ◌+◌, ◌-◌, ◌*◌, ◌/◌, ◌%◌, ◌^◌, ◌<◌, ◌≤◌, Bool, true, false, cond, eqb, List, [], ◌∷◌, length, take, drop, refl, sym, ap, ◌∙◌, ⊎_elim, inl, inr, arith, length-append, length-drop, length-take-le, take-append-drop}
use Rattle.std.specs.Prelude.{slice_index}
use Rattle.std.specs.Int.{bit_at}
use Rattle.std.proofs.Math.Nat.{mul_assoc, mul-add-div_right, mod-eq_of_lt, div-eq_of_lt, add_comm, mul-add-mod_self_right}
use Rattle.std.proofs.lemmas.Bool.{cases_eq, cases_lt, eq-eqb, ne_eqb}
use Rattle.std.proofs.lemmas.Nat.{pow_pos, pow-add, shr-shr, div-add-mod'}
use Rattle.std.proofs.lemmas.Nat.Bits.{bit_at-lt}
use Rattle.std.proofs.lemmas.List.Elements.{All-head, All-tail}
use Rattle.idx_hz.specs.Mask.{bit_count, NamesAxes}
use Rattle.idx_hz.specs.Address.{z_address, level_at, level, hz_address}
use Rattle.idx_hz.specs.Stride.{stride}
use Rattle.idx_hz.proofs.ZLemmas.{bit_count-append, digit-lt, z_address-lt}
use Rattle.idx_hz.proofs.HzLemmas.{HasLowestOne, cases_lowest_one, level_at-zero, level_at-lowest_one, hz_at-lowest_one, odd-shifted}
use Rattle.idx_lanes.specs.Spread.{spread}
use Rattle.idx_lanes.specs.Lanes.{block_digits, sum_to}

-- the Z address of the coordinates that a function gives the axes
abbrev pub z_by : List ℕ → (ℕ → ℕ) → ℕ
z_by [] f = 0
z_by (d ∷ finer) f = bit_at (f d) (bit_count d finer) * 2 ^ length finer + z_by finer f

pub z_address-z_by : (mask p : List ℕ) → z_address mask p ≡ z_by mask (λ a. slice_index p a)
z_address-z_by [] p = refl
z_address-z_by (d ∷ finer) p = ap (λ n. bit_at (slice_index p d) (bit_count d finer) * 2 ^ length finer + n) (z_address-z_by finer p)

pub z_by-lt : (mask : List ℕ) (f : ℕ → ℕ) → z_by mask f < 2 ^ length mask
z_by-lt [] f = omega arith
z_by-lt (d ∷ finer) f = digit-lt (bit_at (f d) (bit_count d finer)) (length finer) (z_by finer f) (bit_at-lt (f d) (bit_count d finer)) (z_by-lt finer f)

-- coordinates that are the same on the axes that the mask names
pub z_by-same : (mask : List ℕ) (f g : ℕ → ℕ) (n : ℕ) → NamesAxes mask n → ((a : ℕ) → a < n → f a ≡ g a) → z_by mask f ≡ z_by mask g
z_by-same [] f g n named same = refl
z_by-same (d ∷ finer) f g n named same =
    ap (λ x. bit_at x (bit_count d finer) * 2 ^ length finer + z_by finer f) (same d (All-head (λ x. x < n) d finer named))
    ∙ ap (λ t. bit_at (g d) (bit_count d finer) * 2 ^ length finer + t) (z_by-same finer f g n (All-tail (λ x. x < n) d finer named) same)

-- ---- the first digits, and the last ones

front-div : (b c t y : ℕ) → (b * 2 ^ (t + c) + y) / 2 ^ c ≡ b * 2 ^ t + y / 2 ^ c
front-div b c t y =
    let power : b * 2 ^ (t + c) ≡ b * 2 ^ t * 2 ^ c = ap (λ m. b * m) (pow-add 2 t c) ∙ sym (mul_assoc b (2 ^ t) (2 ^ c)) in
    rw power (mul-add-div_right (pow_pos c) (b * 2 ^ t) y)

-- the first digits are those of the coordinates without the bits that the others give
pub z_by-first : (h : ℕ) (mask : List ℕ) (f : ℕ → ℕ) → z_by mask f / 2 ^ length (drop h mask) ≡ z_by (take h mask) (λ a. f a / 2 ^ bit_count a (drop h mask))
z_by-first zero mask f = div-eq_of_lt (z_by-lt mask f)
z_by-first (suc h) [] f = refl
z_by-first (suc h) (d ∷ finer) f =
    let behind : List ℕ = drop h finer in
    let front : List ℕ = take h finer in
    let count : bit_count d finer ≡ bit_count d behind + bit_count d front =
    ap (bit_count d) (sym (take-append-drop h finer)) ∙ bit_count-append d front behind ∙ add_comm (bit_count d front) (bit_count d behind) in
    let size : length finer ≡ length front + length behind = ap length (sym (take-append-drop h finer)) ∙ length-append front behind in
    let bit : bit_at (f d) (bit_count d finer) ≡ bit_at (f d / 2 ^ bit_count d behind) (bit_count d front) =
    ap (bit_at (f d)) count ∙ ap (λ m. m % 2) (sym (shr-shr (f d) (bit_count d behind) (bit_count d front))) in
    ap (λ n. (bit_at (f d) (bit_count d finer) * 2 ^ n + z_by finer f) / 2 ^ length behind) size
    ∙ front-div (bit_at (f d) (bit_count d finer)) (length behind) (length front) (z_by finer f)
    ∙ ap (λ b. b * 2 ^ length front + z_by finer f / 2 ^ length behind) bit
    ∙ ap (λ n. bit_at (f d / 2 ^ bit_count d behind) (bit_count d front) * 2 ^ length front + n) (z_by-first h finer f)

mod-cat-low : (b n m z : ℕ) → m ≤ n → (b * 2 ^ n + z) % 2 ^ m ≡ z % 2 ^ m
mod-cat-low b n m z le =
    let split : n - m + m ≡ n = omega arith in
    let power : b * 2 ^ n ≡ b * 2 ^ (n - m) * 2 ^ m = ap (λ k. b * 2 ^ k) (sym split) ∙ ap (λ k. b * k) (pow-add 2 (n - m) m) ∙ sym (mul_assoc b (2 ^ (n - m)) (2 ^ m)) in
    rw power (mul-add-mod_self_right (b * 2 ^ (n - m)) (2 ^ m) z)

-- the last digits are those by the mask's last digits
pub z_by-last : (h : ℕ) (mask : List ℕ) (f : ℕ → ℕ) → z_by mask f % 2 ^ length (drop h mask) ≡ z_by (drop h mask) f
z_by-last zero mask f = mod-eq_of_lt (z_by-lt mask f)
z_by-last (suc h) [] f = refl
z_by-last (suc h) (d ∷ finer) f =
    mod-cat-low (bit_at (f d) (bit_count d finer)) (length finer) (length (drop h finer)) (z_by finer f) (omega (arith, length-drop h finer))
    ∙ z_by-last h finer f

-- ---- a sum over the axes

pub sum_to-same : (f g : ℕ → ℕ) (n : ℕ) → ((a : ℕ) → a < n → f a ≡ g a) → sum_to f n ≡ sum_to g n
sum_to-same f g zero same = refl
sum_to-same f g (suc n) same = omega (arith, sum_to-same f g n (λ a h. same a (omega arith)), same n (omega arith))

sum_to-none : (n : ℕ) → sum_to (λ a. 0) n ≡ 0
sum_to-none zero = refl
sum_to-none (suc n) = omega (arith, sum_to-none n)

-- one axis gives a digit's bit, and the sum gets it once
one_digit : (d : ℕ) (finer : List ℕ) (f : ℕ → ℕ) (n : ℕ) → n ≤ d → sum_to (λ a. spread a (d ∷ finer) (f a)) n ≡ sum_to (λ a. spread a finer (f a)) n
one_digit d finer f zero le = refl
one_digit d finer f (suc n) le =
    let off : eqb d n ≡ false = ne_eqb d n (λ e. omega (arith, e)) in
    omega (arith, one_digit d finer f n (omega arith), ap (λ (b : Bool). cond b (bit_at (f n) (bit_count n finer)) 0 * 2 ^ length finer) off)

with_digit : (d : ℕ) (finer : List ℕ) (f : ℕ → ℕ) (n : ℕ) → d < n →
    sum_to (λ a. spread a (d ∷ finer) (f a)) n ≡ bit_at (f d) (bit_count d finer) * 2 ^ length finer + sum_to (λ a. spread a finer (f a)) n
with_digit d finer f zero lt = absurd (omega arith)
with_digit d finer f (suc n) lt = ⊎_elim
    (λ (same : d ≡ n).
    let on : eqb d n ≡ true = eq-eqb d n same in
    omega (
      arith,
      one_digit d finer f n (omega arith),
      ap (λ (b : Bool). cond b (bit_at (f n) (bit_count n finer)) 0 * 2 ^ length finer) on,
      ap (λ a. bit_at (f a) (bit_count a finer) * 2 ^ length finer) same,
    ))
    (λ (other : d ≢ n).
    let less : d < n = elim (cases_lt d n) [ inl h ↦ h | inr ge ↦ absurd (other (omega arith)) ] in
    let off : eqb d n ≡ false = ne_eqb d n other in
    omega (arith, with_digit d finer f n less, ap (λ (b : Bool). cond b (bit_at (f n) (bit_count n finer)) 0 * 2 ^ length finer) off))
    (cases_eq d n)

-- the Z address is the sum of what the axes give
pub z_by-sum : (mask : List ℕ) (f : ℕ → ℕ) (n : ℕ) → NamesAxes mask n → z_by mask f ≡ sum_to (λ a. spread a mask (f a)) n
z_by-sum [] f n named = sym (sum_to-none n)
z_by-sum (d ∷ finer) f n named =
    omega (arith, with_digit d finer f n (All-head (λ x. x < n) d finer named), z_by-sum finer f n (All-tail (λ x. x < n) d finer named))

-- ---- addresses in a block

-- the hierarchical address of a point of level t + 1 is 2^t and the first t digits of its Z address
hz_address-level : (mask p : List ℕ) (t : ℕ) → t ≤ length mask → level mask p ≡ suc t → hz_address mask p ≡ 2 ^ t + z_by (take t mask) (λ a. slice_index p a / stride mask t a)
hz_address-level mask p t within is =
    let digits : ℕ = length mask in
    let z : ℕ = z_address mask p in
    ⊎_elim
    (λ (none : z ≡ 0). let origin : level_at digits z ≡ 0 = ap (level_at digits) none ∙ level_at-zero digits in absurd (omega (arith, is, origin)))
    (λ (one : HasLowestOne digits z).
    let above : one.above ≡ t = omega (arith, level_at-lowest_one digits z one, is) in
    let behind : suc one.zeros ≡ length (drop t mask) = omega (arith, one.places, length-drop t mask) in
    let rest : one.rest ≡ z / 2 ^ length (drop t mask) =
    sym (ap (λ m. m / 2 ^ length (drop t mask)) one.is ∙ ap (λ n. (2 * one.rest + 1) * 2 ^ one.zeros / 2 ^ n) (sym behind) ∙ odd-shifted one.zeros one.rest) in
    hz_at-lowest_one digits z one
    ∙ ap (λ n. 2 ^ n + one.rest) above
    ∙ ap (λ r. 2 ^ t + r) (rest ∙ ap (λ x. x / 2 ^ length (drop t mask)) (z_address-z_by mask p) ∙ z_by-first t mask (λ a. slice_index p a)))
    (cases_lowest_one digits z (z_address-lt mask p))

pub length-block_digits : (mask : List ℕ) (k bits : ℕ) → bits + k ≤ length mask → length (block_digits mask k bits) ≡ bits
length-block_digits mask k bits within = length-drop k (take (bits + k) mask) ∙ ap (λ n. n - k) (length-take-le (bits + k) mask within) ∙ omega arith

-- the address of a point of a block: the block's first address, and the Z address by the block's digits of the
-- coordinates in strides
pub hz_address-in_block : (mask p : List ℕ) (bits k block : ℕ) → bits + k ≤ length mask → level mask p ≡ suc (bits + k) → hz_address mask p / 2 ^ bits ≡ block →
    hz_address mask p ≡ block * 2 ^ bits + z_by (block_digits mask k bits) (λ a. slice_index p a / stride mask (bits + k) a)
hz_address-in_block mask p bits k block within is number =
    let g : ℕ → ℕ = λ a. slice_index p a / stride mask (bits + k) a in
    let y : ℕ = z_by (take (bits + k) mask) g in
    let size : length (block_digits mask k bits) ≡ bits = length-block_digits mask k bits within in
    let power : 2 ^ (bits + k) ≡ 2 ^ k * 2 ^ bits = ap (λ n. 2 ^ n) (add_comm bits k) ∙ pow-add 2 k bits in
    let low : hz_address mask p % 2 ^ bits ≡ z_by (block_digits mask k bits) g =
    ap (λ n. n % 2 ^ bits) (hz_address-level mask p (bits + k) within is ∙ ap (λ n. n + y) power)
    ∙ mul-add-mod_self_right (2 ^ k) (2 ^ bits) y
    ∙ ap (λ n. y % 2 ^ n) (sym size)
    ∙ z_by-last k (take (bits + k) mask) g in
    sym (div-add-mod' (hz_address mask p) (2 ^ bits)) ∙ ap (λ n. n * 2 ^ bits + hz_address mask p % 2 ^ bits) number ∙ ap (λ n. block * 2 ^ bits + n) low
