-- Levels and hierarchical addresses, over numbers: the address (2 r + 1) 2^q, with k digits before its lowest 1, has
-- level k + 1 and the hierarchical address 2^k + r.
use Rattle.std.proofs.Common.{◌≡◌, ℕ, zero, suc, ◌+◌, ◌-◌, ◌*◌, ◌/◌, ◌%◌, ◌^◌, ◌<◌, ◌≤◌, ◌⊎◌, length, refl, sym, ap, ◌∙◌, subst, ⊎_elim, inl, inr, arith}
use Rattle.std.proofs.Math.Nat.{pow-suc, mul-one, mul_assoc, mul-mod_left, mul-div_left, mul-add-mod_self_left, sub-zero}
use Rattle.std.proofs.lemmas.Bool.{cases_order, cases_eq, ne_eqb}
use Rattle.std.proofs.lemmas.Nat.{pow_pos, shl_below, pow-add, shr_high}
use Rattle.std.proofs.Math.Pow.{pow_mono}
use Rattle.idx_hz.specs.Address.{twos_in, level_at, hz_at}

-- an odd number is one more than an even one
pub odd-mod-two : (r : ℕ) → (2 * r + 1) % 2 ≡ 1
odd-mod-two r = mul-add-mod_self_left 2 r 1

-- a multiple of 2^(q+1) is even
pub even-mod-two : (m q : ℕ) → (m * 2 ^ suc q) % 2 ≡ 0
even-mod-two m q = rw (pow-suc, ← mul_assoc) (mul-mod_left (m * 2 ^ q) 2)

-- and half of it is that multiple of 2^q
pub even-div-two : (m q : ℕ) → (m * 2 ^ suc q) / 2 ≡ m * 2 ^ q
even-div-two m q = rw (pow-suc, ← mul_assoc) (mul-div_left (m * 2 ^ q) (omega arith))

-- no power of two above 1 divides an odd number
pub twos_in-odd : (q k r : ℕ) → twos_in (q + suc k) ((2 * r + 1) * 2 ^ q) ≡ q
twos_in-odd zero k r = let next : 0 + suc k ≡ suc k = omega arith in rw (next, mul-one, odd-mod-two r) refl
twos_in-odd (suc q) k r = let next : suc q + suc k ≡ suc (q + suc k) = omega arith in rw (next, even-mod-two (2 * r + 1) q, even-div-two (2 * r + 1) q) (ap suc (twos_in-odd q k r))

-- every power of two divides 0
pub twos_in-zero : (digits : ℕ) → twos_in digits 0 ≡ digits
twos_in-zero zero = refl
twos_in-zero (suc digits) = ap suc (twos_in-zero digits)

-- the address 0 has level 0
pub level_at-zero : (digits : ℕ) → level_at digits 0 ≡ 0
level_at-zero digits = rw (twos_in-zero digits) (omega arith)

-- with k digits before the lowest 1 the level is k + 1
pub level_at-odd : (q k r : ℕ) → level_at (q + suc k) ((2 * r + 1) * 2 ^ q) ≡ suc k
level_at-odd q k r = rw (twos_in-odd q k r) (omega arith)

-- the address 0 stays 0
pub hz_at-zero : (digits : ℕ) → hz_at digits 0 ≡ 0
hz_at-zero digits = rw (level_at-zero digits) refl

-- to shift out the lowest 1 and the zeros below it leaves the digits above it
pub odd-shifted : (q r : ℕ) → (2 * r + 1) * 2 ^ q / 2 ^ suc q ≡ r
odd-shifted q r =
    let split : (2 * r + 1) * 2 ^ q ≡ r * 2 ^ suc q + 2 ^ q = rw pow-suc (omega arith) in
    let small : 2 ^ q < 2 ^ suc q = rw pow-suc (omega (arith, pow_pos q)) in
    rw split (shr_high r (suc q) (2 ^ q) small)

-- the hierarchical address is 2^k and the digits before the lowest 1
pub hz_at-odd : (q k r : ℕ) → hz_at (q + suc k) ((2 * r + 1) * 2 ^ q) ≡ 2 ^ k + r
hz_at-odd q k r =
    let shift : q + suc k - suc k + 1 ≡ suc q = omega arith in
    let below : suc k - 1 ≡ k = omega arith in
    rw (level_at-odd q k r, ne_eqb (suc k) 0 (λ (e : suc k ≡ 0). omega arith), shift, below, odd-shifted q r) refl

-- ---- the lowest 1

-- a number of so many binary digits is not 0: where its lowest 1 stands
pub record HasLowestOne (digits z : ℕ) : Type 0 where
  -- the zeros below it, the places above it, and the digits there
  pub zeros : ℕ
  pub above : ℕ
  pub rest : ℕ
  pub places : zeros + suc above ≡ digits
  pub small : rest < 2 ^ above
  pub is : z ≡ (2 * rest + 1) * 2 ^ zeros

-- a number is 0 or has a lowest 1
pub cases_lowest_one : (digits z : ℕ) → z < 2 ^ digits → (z ≡ 0) ⊎ HasLowestOne digits z
cases_lowest_one zero z small = inl (omega arith)
cases_lowest_one (suc n) z small =
    let double : 2 ^ suc n ≡ 2 ^ n * 2 = pow-suc 2 n in
    let half : z / 2 < 2 ^ n = omega arith in
    ⊎_elim
    (λ (even : z % 2 ≡ 0). ⊎_elim
    (λ (none : z / 2 ≡ 0). inl (omega arith))
    (λ (one : HasLowestOne n (z / 2)). inr (record {
      zeros = suc one.zeros;
      above = one.above;
      rest = one.rest;
      places = omega (arith, one.places);
      small = one.small;
      is = let whole : z ≡ z / 2 * 2 = omega arith in whole ∙ ap (λ m. m * 2) one.is ∙ mul_assoc (2 * one.rest + 1) (2 ^ one.zeros) 2 ∙ ap (λ m. (2 * one.rest + 1) * m) (sym (pow-suc 2 one.zeros));
    }))
    (cases_lowest_one n (z / 2) half))
    (λ (odd : z % 2 ≡ 0 → ⊥). inr (record { zeros = 0; above = n; rest = z / 2; places = omega arith; small = half; is = omega arith }))
    (cases_eq (z % 2) 0)

-- ---- one to one

-- the powers of two between which a number lies are one
pub same_power : (a j k : ℕ) → 2 ^ j ≤ a → a < 2 ^ suc j → 2 ^ k ≤ a → a < 2 ^ suc k → j ≡ k
same_power a j k from_j to_j from_k to_k = ⊎_elim
    (λ same. same)
    (λ apart. absurd (⊎_elim
    (λ (less : j < k). omega (arith, pow_mono less))
    (λ (more : k < j). omega (arith, pow_mono more))
    apart))
    (cases_order j k)

-- the level is the place of the lowest 1, counted from the highest place as 1
pub level_at-lowest_one : (digits z : ℕ) (one : HasLowestOne digits z) → level_at digits z ≡ suc one.above
level_at-lowest_one digits z one = rw (one.is, ← one.places) (level_at-odd one.zeros one.above one.rest)

-- the hierarchical address is 2^(level - 1) and the digits above the lowest 1
pub hz_at-lowest_one : (digits z : ℕ) (one : HasLowestOne digits z) → hz_at digits z ≡ 2 ^ one.above + one.rest
hz_at-lowest_one digits z one = rw (one.is, ← one.places) (hz_at-odd one.zeros one.above one.rest)

-- a hierarchical address is below 2 to the number of digits
pub hz_at-lt : (digits z : ℕ) → z < 2 ^ digits → hz_at digits z < 2 ^ digits
hz_at-lt digits z small = ⊎_elim
    (λ (none : z ≡ 0). let origin : hz_at digits z ≡ 0 = ap (hz_at digits) none ∙ hz_at-zero digits in omega (arith, pow_pos digits))
    (λ (one : HasLowestOne digits z).
    let fits : 2 ^ suc one.above ≤ 2 ^ digits = pow_mono (omega (arith, one.places)) in
    rw (hz_at-lowest_one digits z one) (omega (arith, fits, one.small, pow-suc 2 one.above)))
    (cases_lowest_one digits z small)

-- a Z address other than 0 has a level from 1, whose range its hierarchical address lies in
pub hz_at-in_level : (digits z : ℕ) (one : HasLowestOne digits z) → (2 ^ one.above ≤ hz_at digits z) × (hz_at digits z < 2 ^ suc one.above)
hz_at-in_level digits z one = rw (hz_at-lowest_one digits z one) (omega arith, omega (arith, one.small, pow-suc 2 one.above))

-- level h from 1 fills the hierarchical addresses 2^(h-1) to 2^h - 1
pub level_at-from_range : (digits z h : ℕ) → z < 2 ^ digits → 2 ^ h ≤ hz_at digits z → hz_at digits z < 2 ^ suc h → level_at digits z ≡ suc h
level_at-from_range digits z h small from to = ⊎_elim
    (λ (none : z ≡ 0). let origin : hz_at digits z ≡ 0 = ap (hz_at digits) none ∙ hz_at-zero digits in absurd (omega (arith, pow_pos h)))
    (λ (one : HasLowestOne digits z).
    let range : (2 ^ one.above ≤ hz_at digits z) × (hz_at digits z < 2 ^ suc one.above) = hz_at-in_level digits z one in
    level_at-lowest_one digits z one ∙ ap suc (same_power (hz_at digits z) one.above h range.0 range.1 from to))
    (cases_lowest_one digits z small)

-- and no others
pub range-from_level_at : (digits z h : ℕ) → z < 2 ^ digits → level_at digits z ≡ suc h → (2 ^ h ≤ hz_at digits z) × (hz_at digits z < 2 ^ suc h)
range-from_level_at digits z h small level = ⊎_elim
    (λ (none : z ≡ 0). let origin : level_at digits z ≡ 0 = ap (level_at digits) none ∙ level_at-zero digits in absurd (omega arith))
    (λ (one : HasLowestOne digits z).
    let here : one.above ≡ h = omega (arith, level_at-lowest_one digits z one) in
    subst (λ k. (2 ^ k ≤ hz_at digits z) × (hz_at digits z < 2 ^ suc k)) here (hz_at-in_level digits z one))
    (cases_lowest_one digits z small)

-- the hierarchical address 0 is that of the Z address 0 alone
pub hz_at-eq-zero : (digits z : ℕ) → z < 2 ^ digits → hz_at digits z ≡ 0 → z ≡ 0
hz_at-eq-zero digits z small origin = ⊎_elim
    (λ none. none)
    (λ (one : HasLowestOne digits z). absurd (omega (arith, (hz_at-in_level digits z one).0, pow_pos one.above)))
    (cases_lowest_one digits z small)

-- so is level 0
pub level_at-eq-zero : (digits z : ℕ) → z < 2 ^ digits → level_at digits z ≡ 0 → z ≡ 0
level_at-eq-zero digits z small origin = ⊎_elim
    (λ none. none)
    (λ (one : HasLowestOne digits z). absurd (omega (arith, level_at-lowest_one digits z one)))
    (cases_lowest_one digits z small)

-- two numbers with their lowest 1 at one place and the same digits above it are one
lowest_one-injective : (digits y z : ℕ) (a : HasLowestOne digits y) (b : HasLowestOne digits z) → a.above ≡ b.above → a.rest ≡ b.rest → y ≡ z
lowest_one-injective digits y z a b above rest =
    let zeros : a.zeros ≡ b.zeros = omega (arith, a.places, b.places) in
    a.is ∙ ap (λ r. (2 * r + 1) * 2 ^ a.zeros) rest ∙ ap (λ q. (2 * b.rest + 1) * 2 ^ q) zeros ∙ sym b.is

-- two Z addresses with one hierarchical address are one
pub hz_at-injective : (digits y z : ℕ) → y < 2 ^ digits → z < 2 ^ digits → hz_at digits y ≡ hz_at digits z → y ≡ z
hz_at-injective digits y z small_y small_z same = ⊎_elim
    (λ (none : y ≡ 0).
    let origin : hz_at digits z ≡ 0 = sym same ∙ ap (hz_at digits) none ∙ hz_at-zero digits in
    none ∙ sym (hz_at-eq-zero digits z small_z origin))
    (λ (a : HasLowestOne digits y). ⊎_elim
    (λ (none : z ≡ 0).
    let origin : hz_at digits y ≡ 0 = same ∙ ap (hz_at digits) none ∙ hz_at-zero digits in
    hz_at-eq-zero digits y small_y origin ∙ sym none)
    (λ (b : HasLowestOne digits z).
    let range_y : (2 ^ a.above ≤ hz_at digits y) × (hz_at digits y < 2 ^ suc a.above) = hz_at-in_level digits y a in
    let range_z : (2 ^ b.above ≤ hz_at digits y) × (hz_at digits y < 2 ^ suc b.above) = rw same (hz_at-in_level digits z b) in
    let above : a.above ≡ b.above = same_power (hz_at digits y) a.above b.above range_y.0 range_y.1 range_z.0 range_z.1 in
    let power : 2 ^ a.above ≡ 2 ^ b.above = ap (λ k. 2 ^ k) above in
    let rest : a.rest ≡ b.rest = omega (arith, same, hz_at-lowest_one digits y a, hz_at-lowest_one digits z b) in
    lowest_one-injective digits y z a b above rest)
    (cases_lowest_one digits z small_z))
    (cases_lowest_one digits y small_y)

-- ---- the inverse

-- the Z address at a hierarchical address of so many binary digits: the address, a 1 and zeros fill the digits, and the
-- highest 1 goes
abbrev pub z_from : ℕ → ℕ → ℕ → ℕ
z_from digits length address = (2 * address + 1) * 2 ^ (digits - length) - 2 ^ digits

-- an address has so many binary digits, none of which is a 0 in front
pub record HasDigits (length address : ℕ) : Type 0 where
  pub enough : address < 2 ^ length
  pub needed : 2 ^ length ≤ 2 * address + 1

-- the address 0 has none
pub z_from-zero : (digits : ℕ) → z_from digits 0 0 ≡ 0
z_from-zero digits = rw sub-zero (omega arith)

-- one that has digits has a highest 1
pub cases_digits : (length address : ℕ) → HasDigits length address → ((length ≡ 0) × (address ≡ 0)) ⊎ ((k : ℕ) × (r : ℕ) × (length ≡ suc k) × (r < 2 ^ k) × (address ≡ 2 ^ k + r))
cases_digits zero address has = inl (refl, omega (arith, has.enough))
cases_digits (suc k) address has =
    let double : 2 ^ suc k ≡ 2 ^ k * 2 = pow-suc 2 k in
    inr (k, address - 2 ^ k, refl, omega (arith, has.enough, has.needed), omega (arith, has.enough, has.needed))

-- what fills the digits is 2 to their number and the Z address
pub z_from-odd : (q k r : ℕ) → z_from (q + suc k) (suc k) (2 ^ k + r) ≡ (2 * r + 1) * 2 ^ q
z_from-odd q k r =
    let shift : q + suc k - suc k ≡ q = omega arith in
    let whole : 2 ^ (q + suc k) ≡ 2 ^ q * (2 ^ k * 2) = pow-add 2 q (suc k) ∙ ap (λ m. 2 ^ q * m) (pow-suc 2 k) in
    rw (shift, whole) (omega arith)

-- z is the Z address whose hierarchical address is a
pub record IsInverse (digits a z : ℕ) : Type 0 where
  pub small : z < 2 ^ digits
  pub address : hz_at digits z ≡ a

-- a number with its lowest 1 above q zeros and k digits above it has k + 1 + q digits
pub odd-lt : (q k r : ℕ) → r < 2 ^ k → (2 * r + 1) * 2 ^ q < 2 ^ (q + suc k)
odd-lt q k r small =
    let digits : suc k + q ≡ q + suc k = omega arith in
    rw (← digits) (shl_below (2 * r + 1) (suc k) q (omega (arith, pow-suc 2 k)))

-- with k digits above the lowest 1
IsInverse-odd : (q k r : ℕ) → r < 2 ^ k → IsInverse (q + suc k) (2 ^ k + r) (z_from (q + suc k) (suc k) (2 ^ k + r))
IsInverse-odd q k r small = rw (z_from-odd q k r) (record { small = odd-lt q k r small; address = hz_at-odd q k r })

-- every hierarchical address below 2 to the number of digits is that of the Z address that its digits give
pub IsInverse-z_from : (digits length a : ℕ) → HasDigits length a → length ≤ digits → IsInverse digits a (z_from digits length a)
IsInverse-z_from digits length a has fits = ⊎_elim
    (λ (none : (length ≡ 0) × (a ≡ 0)).
    rw (none.0, none.1) (rw (z_from-zero digits) (record { small = pow_pos digits; address = hz_at-zero digits })))
    (λ (some : (k : ℕ) × (r : ℕ) × (length ≡ suc k) × (r < 2 ^ k) × (a ≡ 2 ^ k + r)).
    let places : digits - length + suc some.0 ≡ digits = omega (arith, some.2) in
    let at : IsInverse (digits - length + suc some.0) (2 ^ some.0 + some.1) (z_from (digits - length + suc some.0) (suc some.0) (2 ^ some.0 + some.1)) = IsInverse-odd (digits - length) some.0 some.1 some.3 in
    let here : IsInverse digits (2 ^ some.0 + some.1) (z_from digits (suc some.0) (2 ^ some.0 + some.1)) = rw places at at in
    rw (some.4) (rw (some.2) here))
    (cases_digits length a has)
