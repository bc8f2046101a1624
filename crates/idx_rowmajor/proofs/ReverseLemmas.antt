-- Reversed bits, and bits reversed below the highest 1.
use Rattle.std.proofs.Common.{◌≡◌, ℕ, zero, suc, ◌+◌, ◌-◌, ◌*◌, ◌/◌, ◌%◌, ◌^◌, ◌<◌, ◌≤◌, true, false, refl, sym, ap, ◌∙◌, ⊎_elim, arith}
use Rattle.std.specs.Prelude.{nat_le}
use Rattle.std.specs.Int.{bit_at}
use Rattle.std.proofs.Math.Nat.{pow-suc, mul-le-mul_left, mul-le-mul_right}
use Rattle.std.proofs.lemmas.Bool.{cases_lt}
use Rattle.std.proofs.lemmas.Bool.Decides.{leb_tells}
use Rattle.std.proofs.lemmas.Nat.{pow_pos, pow-add}
use Rattle.std.proofs.lemmas.Nat.Bits.{bit_at-suc, bit_at_lowest, bit_at_cat_low, bit_at_cat_high, same_from_bits_below}
use Rattle.idx_rowmajor.specs.Exchange.{IsPairing}
use Rattle.idx_rowmajor.specs.Reverse.{reversed, turned_behind, turned}

-- ---- all bits

pub reversed-lt : (n x : ℕ) → reversed n x < 2 ^ n
reversed-lt zero x = omega arith
reversed-lt (suc n) x = omega (arith, reversed-lt n (x / 2), pow-suc 2 n, mul-le-mul_left {m = x % 2} {n = 1} (2 ^ n) (omega arith))

-- bit i is bit n - 1 - i
pub bit_at-reversed : (n x i : ℕ) → i < n → bit_at (reversed n x) i ≡ bit_at x (n - 1 - i)
bit_at-reversed zero x i within = absurd (omega arith)
bit_at-reversed (suc n) x i within = ⊎_elim
    (λ (less : i < n).
    let place : suc n - 1 - i ≡ suc (n - 1 - i) = omega arith in
    bit_at_cat_low (x % 2) n (reversed n (x / 2)) i less ∙ bit_at-reversed n (x / 2) i less ∙ sym (bit_at-suc x (n - 1 - i)) ∙ ap (bit_at x) (sym place))
    (λ (most : n ≤ i).
    let none : i - n ≡ 0 = omega arith in
    let low : suc n - 1 - i ≡ 0 = omega arith in
    bit_at_cat_high (x % 2) n (reversed n (x / 2)) i (reversed-lt n (x / 2)) most ∙ ap (bit_at (x % 2)) none ∙ bit_at_lowest (x % 2) ∙ (let small : x % 2 % 2 ≡ x % 2 = omega arith in small) ∙ sym (bit_at_lowest x) ∙ ap (bit_at x) (sym low))
    (cases_lt i n)

pub reversed-twice : (n x : ℕ) → x < 2 ^ n → reversed n (reversed n x) ≡ x
reversed-twice n x small = same_from_bits_below n (reversed n (reversed n x)) x (reversed-lt n (reversed n x)) small (λ i within.
    let back : n - 1 - (n - 1 - i) ≡ i = omega arith in
    bit_at-reversed n (reversed n x) i within ∙ bit_at-reversed n x (n - 1 - i) (omega arith) ∙ ap (bit_at x) back)

pub reversed-zero : (n : ℕ) → reversed n 0 ≡ 0
reversed-zero zero = refl
reversed-zero (suc n) = omega (arith, reversed-zero n)

-- ---- the bits below the highest 1

pub turned-high : (n x front : ℕ) → 2 ^ n ≤ x → turned_behind (suc n) x front ≡ front * 2 ^ n + reversed n (x - 2 ^ n)
turned-high n x front high = ⊎_elim
    (λ (yes : (nat_le (2 ^ n) x ≡ true) × (2 ^ n ≤ x)). rw (yes.0) refl)
    (λ (no : (nat_le (2 ^ n) x ≡ false) × (x < 2 ^ n)). absurd (omega (arith, no.1)))
    (leb_tells (2 ^ n) x)

pub turned-low : (n x front : ℕ) → x < 2 ^ n → turned_behind (suc n) x front ≡ turned_behind n x front
turned-low n x front low = ⊎_elim
    (λ (yes : (nat_le (2 ^ n) x ≡ true) × (2 ^ n ≤ x)). absurd (omega (arith, yes.1)))
    (λ (no : (nat_le (2 ^ n) x ≡ false) × (x < 2 ^ n)). rw (no.0) refl)
    (leb_tells (2 ^ n) x)

-- more bits than are needed change nothing
pub turned-at : (k x front extra : ℕ) → 2 ^ k ≤ x → x < 2 ^ suc k → turned_behind (extra + suc k) x front ≡ front * 2 ^ k + reversed k (x - 2 ^ k)
turned-at k x front zero high low =
    let same : 0 + suc k ≡ suc k = omega arith in
    ap (λ n. turned_behind n x front) same ∙ turned-high k x front high
turned-at k x front (suc extra) high low =
    let next : suc extra + suc k ≡ suc (extra + suc k) = omega arith in
    let power : 2 ^ (extra + suc k) ≡ 2 ^ extra * 2 ^ suc k = pow-add 2 extra (suc k) in
    let some : 1 * 2 ^ suc k ≤ 2 ^ extra * 2 ^ suc k = omega (arith, mul-le-mul_left {m = 1} {n = 2 ^ extra} (2 ^ suc k) (pow_pos extra)) in
    ap (λ n. turned_behind n x front) next ∙ turned-low (extra + suc k) x front (omega arith) ∙ turned-at k x front extra high low

pub turned-zero : (n front : ℕ) → turned_behind n 0 front ≡ 0
turned-zero zero front = refl
turned-zero (suc n) front = turned-low n 0 front (pow_pos n) ∙ turned-zero n front

pub turned-lt : (n x : ℕ) → x < 2 ^ n → turned n x < 2 ^ n
turned-lt zero x small = omega arith
turned-lt (suc n) x small = ⊎_elim
    (λ (low : x < 2 ^ n). rw (turned-low n x 1 low) (omega (arith, turned-lt n x low, pow-suc 2 n)))
    (λ (high : 2 ^ n ≤ x). rw (turned-high n x 1 high) (omega (arith, reversed-lt n (x - 2 ^ n), pow-suc 2 n)))
    (cases_lt x (2 ^ n))

pub turned-twice : (n x : ℕ) → x < 2 ^ n → turned n (turned n x) ≡ x
turned-twice zero x small = omega arith
turned-twice (suc n) x small = ⊎_elim
    (λ (low : x < 2 ^ n).
    ap (turned (suc n)) (turned-low n x 1 low) ∙ turned-low n (turned n x) 1 (turned-lt n x low) ∙ turned-twice n x low)
    (λ (high : 2 ^ n ≤ x).
    let r : ℕ = x - 2 ^ n in
    let few : r < 2 ^ n = omega (arith, pow-suc 2 n) in
    let back : 1 * 2 ^ n + reversed n r - 2 ^ n ≡ reversed n r = omega arith in
    let up : 2 ^ n ≤ 1 * 2 ^ n + reversed n r = omega arith in
    ap (turned (suc n)) (turned-high n x 1 high) ∙ turned-high n (1 * 2 ^ n + reversed n r) 1 up
    ∙ ap (λ m. 1 * 2 ^ n + reversed n m) back ∙ ap (λ m. 1 * 2 ^ n + m) (reversed-twice n r few) ∙ omega arith)
    (cases_lt x (2 ^ n))

pub IsPairing-turned : (n : ℕ) → IsPairing (2 ^ n) (turned n)
IsPairing-turned n o within = (turned-lt n o within, turned-twice n o within)

-- ---- bit by bit

-- the lowest bit goes behind the front
pub turned-step : (n x front : ℕ) → 1 < x → x < 2 ^ n → turned_behind n x front ≡ turned_behind n (x / 2) (2 * front + x % 2)
turned-step zero x front some small = refl
turned-step (suc zero) x front some small = absurd (omega arith)
turned-step (suc (suc n)) x front some small =
    let double : 2 ^ suc n ≡ 2 ^ n * 2 = pow-suc 2 n in
    let whole : 2 ^ suc (suc n) ≡ 2 ^ suc n * 2 = pow-suc 2 (suc n) in
    ⊎_elim
    (λ (low : x < 2 ^ suc n).
    turned-low (suc n) x front low ∙ turned-step (suc n) x front some low
    ∙ sym (turned-low (suc n) (x / 2) (2 * front + x % 2) (omega arith)))
    (λ (high : 2 ^ suc n ≤ x).
    let rest : (x - 2 ^ suc n) / 2 ≡ x / 2 - 2 ^ n = omega arith in
    let bit : (x - 2 ^ suc n) % 2 ≡ x % 2 = omega arith in
    turned-high (suc n) x front high
    ∙ ap (λ m. front * 2 ^ suc n + (m * 2 ^ n + reversed n ((x - 2 ^ suc n) / 2))) bit
    ∙ ap (λ m. front * 2 ^ suc n + (x % 2 * 2 ^ n + reversed n m)) rest
    ∙ (let sum : front * 2 ^ suc n + (x % 2 * 2 ^ n + reversed n (x / 2 - 2 ^ n)) ≡ (2 * front + x % 2) * 2 ^ n + reversed n (x / 2 - 2 ^ n) = ap (λ m. front * m + (x % 2 * 2 ^ n + reversed n (x / 2 - 2 ^ n))) double ∙ omega arith in sum)
    ∙ sym (turned-low (suc n) (x / 2) (2 * front + x % 2) (omega arith) ∙ turned-high n (x / 2) (2 * front + x % 2) (omega arith)))
    (cases_lt x (2 ^ suc n))

-- the highest 1 alone is the end
pub turned-end : (n front : ℕ) → turned_behind (suc n) 1 front ≡ front
turned-end zero front = turned-high 0 1 front (omega arith) ∙ omega arith
turned-end (suc n) front = turned-low (suc n) 1 front (omega (arith, pow-suc 2 n, pow_pos n)) ∙ turned-end n front

-- ---- a highest 1 and bits behind it, reversed

pub reversed-highest : (q k y : ℕ) → y < 2 ^ k → reversed (q + suc k) (2 ^ k + y) ≡ (2 * reversed k y + 1) * 2 ^ q
reversed-highest q zero y small =
    let none : y ≡ 0 = omega arith in
    let next : q + 1 ≡ suc q = omega arith in
    ap (λ m. reversed (q + 1) (1 + m)) none ∙ ap (λ n. reversed n 1) next ∙ ap (λ m. 1 * 2 ^ q + m) (reversed-zero q) ∙ omega arith
reversed-highest q (suc k) y small =
    let next : q + suc (suc k) ≡ suc (q + suc k) = omega arith in
    let double : 2 ^ suc k ≡ 2 ^ k * 2 = pow-suc 2 k in
    let bit : (2 ^ suc k + y) % 2 ≡ y % 2 = omega arith in
    let half : (2 ^ suc k + y) / 2 ≡ 2 ^ k + y / 2 = omega arith in
    let power : 2 ^ (q + suc k) ≡ 2 ^ q * (2 ^ k * 2) = pow-add 2 q (suc k) ∙ ap (λ m. 2 ^ q * m) double in
    ap (λ n. reversed n (2 ^ suc k + y)) next
    ∙ ap (λ m. m * 2 ^ (q + suc k) + reversed (q + suc k) ((2 ^ suc k + y) / 2)) bit
    ∙ ap (λ m. y % 2 * 2 ^ (q + suc k) + reversed (q + suc k) m) half
    ∙ ap (λ m. y % 2 * 2 ^ (q + suc k) + m) (reversed-highest q k (y / 2) (omega arith))
    ∙ ap (λ m. y % 2 * m + (2 * reversed k (y / 2) + 1) * 2 ^ q) power
    ∙ omega arith

-- ---- the walk over the bits

-- what is left of a place, and what stands in front of it already
pub record IsTurning (n place left front : ℕ) : Type 0 where
  pub some : 1 ≤ left
  pub small : left < 2 ^ n
  pub few : (front + 1) * left ≤ 2 * place
  pub same : turned_behind n left front ≡ turned n place

pub IsTurning-none : (n place : ℕ) → 1 ≤ place → place < 2 ^ n → IsTurning n place place 1
IsTurning-none n place some small = record { some = some; small = small; few = omega arith; same = refl }

pub IsTurning-more : (n place left front : ℕ) → 1 < left → IsTurning n place left front → IsTurning n place (left / 2) (2 * front + left % 2)
IsTurning-more n place left front more turning =
    let half : left / 2 * 2 ≤ left = omega arith in
    let bound : (2 * front + left % 2 + 1) * (left / 2) ≤ (front + 1) * 2 * (left / 2) = mul-le-mul_right (left / 2) (let h : 2 * front + left % 2 + 1 ≤ (front + 1) * 2 = omega arith in h) in
    let product : (front + 1) * (left / 2 * 2) ≤ (front + 1) * left = mul-le-mul_left (front + 1) half in
    record {
      some = omega arith;
      small = omega (arith, turning.small);
      few = omega (arith, turning.few);
      same = sym (turned-step n left front more turning.small) ∙ turning.same;
    }

pub IsTurning-small : (n place left front : ℕ) → 1 < left → place < 2 ^ 32 → IsTurning n place left front → 2 * front + 1 < 2 ^ 64
IsTurning-small n place left front more small turning =
    let product : (front + 1) * 2 ≤ (front + 1) * left = mul-le-mul_left (front + 1) more in
    omega (arith, turning.few)

pub IsTurning-all : (n place left front : ℕ) → 1 ≤ n → left ≤ 1 → IsTurning n place left front → front ≡ turned n place
IsTurning-all n place left front some last turning =
    let one : left ≡ 1 = omega (arith, turning.some) in
    let next : suc (n - 1) ≡ n = omega arith in
    sym (ap (λ m. turned_behind m left front) (sym next) ∙ ap (λ x. turned_behind (suc (n - 1)) x front) one ∙ turned-end (n - 1) front) ∙ turning.same
