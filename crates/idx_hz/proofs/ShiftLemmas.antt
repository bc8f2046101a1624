-- How shifts and counts of zeros of a machine word give hierarchical addresses and back.
use Rattle.std.proofs.Common.{◌≡◌, ℕ, zero, suc, ◌+◌, ◌-◌, ◌*◌, ◌/◌, ◌%◌, ◌^◌, ◌<◌, ◌≤◌, refl, sym, ap, ◌∙◌, ⊎_elim, arith}
use Rattle.std.proofs.Math.Nat.{mul-le-mul_right, pow-suc, mul-one}
use Rattle.std.proofs.Math.Pow.{pow_mono}
use Rattle.std.proofs.lemmas.Bool.{cases_lt}
use Rattle.std.proofs.lemmas.Nat.{shl_whole, one_shl, pow-add, leading_length}
use Rattle.std.specs.Int.Count.{count_trailing_zeros, count_leading_zeros}
use Rattle.idx_hz.specs.Address.{hz_at}
use Rattle.idx_hz.proofs.HzLemmas.{IsInverse, IsInverse-z_from, HasLowestOne, HasDigits, cases_lowest_one, odd-mod-two, even-mod-two, even-div-two, odd-shifted, hz_at-zero, hz_at-lowest_one}

-- the zeros below an odd number's lowest 1, shifted left by q, are q
pub count_trailing_zeros-odd : (q k r : ℕ) → count_trailing_zeros (q + suc k) ((2 * r + 1) * 2 ^ q) ≡ q
unfolding count_trailing_zeros
count_trailing_zeros-odd zero k r = let next : 0 + suc k ≡ suc k = omega arith in rw (next, mul-one, odd-mod-two r) refl
count_trailing_zeros-odd (suc q) k r =
    let next : suc q + suc k ≡ suc (q + suc k) = omega arith in
    rw (next, even-mod-two (2 * r + 1) q, even-div-two (2 * r + 1) q) (ap suc (count_trailing_zeros-odd q k r))

-- the same, in a word of w bits
pub count_trailing_zeros-in_word : (w q r : ℕ) → q < w → count_trailing_zeros w ((2 * r + 1) * 2 ^ q) ≡ q
count_trailing_zeros-in_word w q r fits =
    let split : q + suc (w - q - 1) ≡ w = omega arith in
    rw split at (count_trailing_zeros-odd q (w - q - 1) r)

-- a Z address with a 1 set before its digits
pub record IsMarked (digits w z marked : ℕ) : Type 0 where
  pub few : count_trailing_zeros w marked ≤ digits
  pub shifted : marked / 2 ^ (count_trailing_zeros w marked + 1) ≡ hz_at digits z

IsMarked-odd : (digits w z marked q r : ℕ) → q ≤ digits → digits < w → marked ≡ (2 * r + 1) * 2 ^ q → r ≡ hz_at digits z → IsMarked digits w z marked
IsMarked-odd digits w z marked q r within fits is address =
    let count : count_trailing_zeros w marked ≡ q = rw is (count_trailing_zeros-in_word w q r (omega arith)) in
    let next : q + 1 ≡ suc q = omega arith in
    record { few = rw count within; shifted = rw (count, next, is) (odd-shifted q r ∙ address) }

-- to shift out its lowest 1 and the zeros below that leaves the hierarchical address
pub IsMarked-add : (digits w z : ℕ) → z < 2 ^ digits → digits < w → IsMarked digits w z (z + 2 ^ digits)
IsMarked-add digits w z small fits = ⊎_elim
    (λ (none : z ≡ 0). IsMarked-odd digits w z (z + 2 ^ digits) digits 0 (omega arith) fits (omega arith) (sym (ap (hz_at digits) none ∙ hz_at-zero digits)))
    (λ (one : HasLowestOne digits z).
    let power : 2 ^ digits ≡ 2 ^ one.zeros * (2 ^ one.above * 2) =
    ap (λ n. 2 ^ n) (sym one.places) ∙ pow-add 2 one.zeros (suc one.above) ∙ ap (λ m. 2 ^ one.zeros * m) (pow-suc 2 one.above) in
    let marked : z + 2 ^ digits ≡ (2 * (2 ^ one.above + one.rest) + 1) * 2 ^ one.zeros = omega (arith, power, one.is) in
    IsMarked-odd digits w z (z + 2 ^ digits) one.zeros (2 ^ one.above + one.rest) (omega (arith, one.places)) fits marked (sym (hz_at-lowest_one digits z one)))
    (cases_lowest_one digits z small)

-- the binary digits of a number are the bits of its word less its leading zeros
pub HasDigits-count_leading_zeros : (w a : ℕ) → a < 2 ^ w → HasDigits (w - count_leading_zeros w a) a
HasDigits-count_leading_zeros w a small =
    let found = leading_length w a small in
    let length : w - count_leading_zeros w a ≡ found.0 = omega (arith, found.1) in
    rw length (record { enough = found.2; needed = found.3 })

-- a number below 2^digits has at most so many digits
pub HasDigits-le : (digits length a : ℕ) → HasDigits length a → a < 2 ^ digits → length ≤ digits
HasDigits-le digits length a has small = ⊎_elim
    (λ (more : digits < length). absurd (omega (arith, has.needed, pow_mono more, pow-suc 2 digits)))
    (λ (fits : length ≤ digits). fits)
    (cases_lt digits length)

-- ---- the inverse in a word

-- the digits of an address in a word are at most the mask's
pub digits-le : (digits a : ℕ) → digits ≤ 40 → a < 2 ^ digits → 64 - count_leading_zeros 64 a ≤ digits
digits-le digits a few small =
    let power : 2 ^ digits ≤ 2 ^ 40 = pow_mono few in
    HasDigits-le digits (64 - count_leading_zeros 64 a) a (HasDigits-count_leading_zeros 64 a (omega arith)) small

-- how a word's shifts give the Z address of a hierarchical address
module _ (digits a : ℕ) (few : digits ≤ 40) (small : a < 2 ^ digits) where
  power : 2 ^ digits ≤ 2 ^ 40
  power = pow_mono few

  has : HasDigits (64 - count_leading_zeros 64 a) a
  has = HasDigits-count_leading_zeros 64 a (omega (arith, power))

  used : 64 - count_leading_zeros 64 a ≤ digits
  used = digits-le digits a few small

  filled : ((2 * a + 1) * 2 ^ (digits - (64 - count_leading_zeros 64 a))) % 2 ^ 64 ≡ (2 * a + 1) * 2 ^ (digits - (64 - count_leading_zeros 64 a))
  filled = shl_whole (2 * a + 1) (suc (64 - count_leading_zeros 64 a)) (digits - (64 - count_leading_zeros 64 a)) 64 (omega (arith, has.enough, pow-suc 2 (64 - count_leading_zeros 64 a))) (omega (arith, used))

  front : (1 * 2 ^ digits) % 2 ^ 64 ≡ 2 ^ digits
  front = one_shl digits 64 (omega arith)

  pub shifted-le : (1 * 2 ^ digits) % 2 ^ 64 ≤ ((2 * a + 1) * 2 ^ (digits - (64 - count_leading_zeros 64 a))) % 2 ^ 64
  shifted-le =
      let split : 64 - count_leading_zeros 64 a + (digits - (64 - count_leading_zeros 64 a)) ≡ digits = omega (arith, used) in
      let whole : 2 ^ (64 - count_leading_zeros 64 a) * 2 ^ (digits - (64 - count_leading_zeros 64 a)) ≡ 2 ^ digits = sym (pow-add 2 (64 - count_leading_zeros 64 a) (digits - (64 - count_leading_zeros 64 a))) ∙ ap (λ n. 2 ^ n) split in
      rw (filled, front, ← whole) (mul-le-mul_right (2 ^ (digits - (64 - count_leading_zeros 64 a))) (has.needed))

  pub IsInverse-shifted : IsInverse digits a (((2 * a + 1) * 2 ^ (digits - (64 - count_leading_zeros 64 a))) % 2 ^ 64 - (1 * 2 ^ digits) % 2 ^ 64)
  IsInverse-shifted = rw (filled, front) (IsInverse-z_from digits (64 - count_leading_zeros 64 a) a has used)
