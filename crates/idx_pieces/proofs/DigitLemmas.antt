-- The greatest number up to a bound that passes a test, and how many bytes so many points have.
use Rattle.std.proofs.Common.{◌≡◌, ℕ, zero, suc, ◌-◌, ◌*◌, ◌%◌, ◌^◌, ◌<◌, ◌≤◌, Bool, true, false, cond, sym, ap, ◌∙◌, arith, lit<}
use Rattle.std.proofs.Math.Nat.{mod-eq_of_lt, mul-le-mul_right, pow-le-pow_right}
use Rattle.std.specs.Prelude.{nat_le}
use Rattle.std.proofs.lemmas.Bool.Decides.{nat_tests}
use Rattle.idx_pieces.specs.Digits.{greatest}

pub greatest_within : (test : ℕ → Bool) (n : ℕ) → greatest test n ≤ n
greatest_within test zero = omega arith
greatest_within test (suc n) = by_test (test (suc n)) (greatest_within test n)
  where
    by_test : (b : Bool) → greatest test n ≤ n → cond b (suc n) (greatest test n) ≤ suc n
    by_test true less = omega arith
    by_test false less = omega (arith, less)

-- the bound itself passes
pub greatest_here : (test : ℕ → Bool) (n : ℕ) → 0 < n → test n ≡ true → greatest test n ≡ n
greatest_here test zero some passes = absurd (omega arith)
greatest_here test (suc n) some passes = ap (λ b. cond b (suc n) (greatest test n)) passes

-- it does not
pub greatest_below : (test : ℕ → Bool) (n : ℕ) → 0 < n → test n ≡ false → greatest test (n - 1) ≡ greatest test n
greatest_below test zero some fails = absurd (omega arith)
greatest_below test (suc n) some fails =
    let less : suc n - 1 ≡ n = omega arith in
    ap (greatest test) less ∙ sym (ap (λ b. cond b (suc n) (greatest test n)) fails)

-- ---- so many points

few_points : (e : ℕ) → e ≤ 34 → 2 ^ e ≤ 2 ^ 34
few_points e few = pow-le-pow_right (lit< tt) {i = e} {j = 34} few

-- their number is one of a word
pub word_points : (e : ℕ) → e ≤ 34 → 1 * 2 ^ e % 18446744073709551616 ≡ 2 ^ e
word_points e few = ap (λ n. n % 18446744073709551616) one ∙ mod-eq_of_lt (omega (arith, few_points e few))
  where
    one : 1 * 2 ^ e ≡ 2 ^ e
    one = omega arith

pub four_points : (e : ℕ) → e ≤ 34 → 4 * (1 * 2 ^ e % 18446744073709551616) ≤ 2 ^ 36
four_points e few = omega (arith, word_points e few, few_points e few)

-- four pieces of so many points have fewer bytes than a word counts
pub few_bytes : (e size : ℕ) → e ≤ 34 → size ≤ 4096 → 4 * (1 * 2 ^ e % 18446744073709551616) * size < 2 ^ 64
few_bytes e size few small =
    let product : 4 * (1 * 2 ^ e % 18446744073709551616) * size ≤ 2 ^ 36 * size = mul-le-mul_right size (four_points e few) in
    omega (arith, product, small)

-- ---- the test

pub fits : (bytes same room : ℕ) → bytes ≡ same → bytes ≤ room → nat_le same room ≡ true
fits bytes same room is few = let less : same ≤ room = omega (arith, is, few) in grind (arith, nat_tests, less)

pub fits_not : (bytes same room : ℕ) → bytes ≡ same → room < bytes → nat_le same room ≡ false
fits_not bytes same room is many = let more : room < same = omega (arith, is, many) in grind (arith, nat_tests, more)
