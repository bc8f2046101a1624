-- The guessed mask has as many digits of an axis as the axis's upper end has binary digits.
use Rattle.std.proofs.Common.{◌≡◌, ℕ, zero, suc, ◌+◌, ◌*◌, ◌/◌, ◌^◌, ◌<◌, ◌≤◌, min, List, [], ◌∷◌, length, get_or, refl, sym, ap, ◌∙◌, ⊎_elim, sum, arith, length-append}
use Rattle.std.specs.Prelude.{map, filter, All, nat_lt}
use Rattle.std.specs.List.{enumerate_from, sum_by}
use Rattle.std.proofs.Math.Nat.{pow-suc}
use Rattle.std.proofs.Math.Pow.{pow_mono}
use Rattle.std.proofs.lemmas.Bool.{cases_lt, cases_eq, lt-ltb, le-ltb, eq-eqb, ne_eqb}
use Rattle.std.proofs.lemmas.List.{length-map, get_or-map}
use Rattle.std.proofs.lemmas.List.Sums.{sum_by-cons}
use Rattle.std.proofs.lemmas.List.Elements.{All-weaker, All-nil, All-cons, All-append}
use Rattle.idx_geom.specs.Region.{IsRegion, LiesIn}
use Rattle.idx_geom.proofs.LiesInLemmas.{length_from_LiesIn, LiesIn-at_axis}
use Rattle.idx_hz.specs.Mask.{bit_count, NamesAxes, IsMask, HasAddress}
use Rattle.idx_hz.specs.Guess.{binary_digits_within, binary_digits, upper_bits, round_axes, rounds, guessed_mask}
use Rattle.idx_hz.proofs.ZLemmas.{bit_count-same, bit_count-other, bit_count-append}
use Rattle.idx_hz.proofs.HzLemmas.{HasDigits, cases_digits}

-- ---- binary digits

-- a number has one binary digit more than its half
HasDigits-double : (n half x : ℕ) → HasDigits n half → half ≡ x / 2 → (x ≡ 0 → ⊥) → HasDigits (suc n) x
HasDigits-double n half x has is some =
    let double : 2 ^ suc n ≡ 2 ^ n * 2 = pow-suc 2 n in
    record {
      enough = omega (arith, has.enough);
      needed = ⊎_elim
          (λ (none : (n ≡ 0) × (half ≡ 0)). rw (none.0) (omega arith))
          (λ (one : (k : ℕ) × (r : ℕ) × (n ≡ suc k) × (r < 2 ^ k) × (half ≡ 2 ^ k + r)).
          let power : 2 ^ n ≡ 2 ^ one.0 * 2 = ap (λ m. 2 ^ m) one.2 ∙ pow-suc 2 one.0 in
          omega (arith, one.4))
          (cases_digits n half has);
    }

-- a number below 2^most has its binary digits
pub HasDigits-binary_digits_within : (most x : ℕ) → x < 2 ^ most → HasDigits (binary_digits_within most x) x
HasDigits-binary_digits_within zero x small = record { enough = small; needed = omega arith }
HasDigits-binary_digits_within (suc most) x small =
    let double : 2 ^ suc most ≡ 2 ^ most * 2 = pow-suc 2 most in
    ⊎_elim
    (λ (none : x ≡ 0). rw (eq-eqb x 0 none, none) (record { enough = omega arith; needed = omega arith }))
    (λ (some : x ≡ 0 → ⊥). rw (ne_eqb x 0 some)
    (HasDigits-double (binary_digits_within most (x / 2)) (x / 2) x (HasDigits-binary_digits_within most (x / 2) (omega arith)) refl some))
    (cases_eq x 0)

-- the number of digits is one
pub HasDigits-unique : (j k x : ℕ) → HasDigits j x → HasDigits k x → j ≡ k
HasDigits-unique j k x one other = ⊎_elim
    (λ (less : j < k). absurd (omega (arith, one.enough, other.needed, pow_mono less, pow-suc 2 j)))
    (λ (fits : k ≤ j). ⊎_elim
    (λ (more : k < j). absurd (omega (arith, one.needed, other.enough, pow_mono more, pow-suc 2 k)))
    (λ same. omega arith)
    (cases_lt k j))
    (cases_lt j k)

-- each end of a region has its binary digits
pub HasDigits-binary_digits : (x : ℕ) → x ≤ 2 ^ 40 → HasDigits (binary_digits x) x
unfolding binary_digits
HasDigits-binary_digits x small = HasDigits-binary_digits_within 41 x (omega arith)

-- a number that has so many digits has so many binary digits
pub binary_digits-from_digits : (n x : ℕ) → x ≤ 2 ^ 40 → HasDigits n x → n ≡ binary_digits x
binary_digits-from_digits n x small has = HasDigits-unique n (binary_digits x) x has (HasDigits-binary_digits x small)

-- ---- one round

-- the axes of a round, where the first axis has the number k
abbrev pub axes_from : ℕ → List ℕ → ℕ → List ℕ
axes_from k bits round = map (λ axis. axis.0) (filter (λ axis. nat_lt round axis.1) (enumerate_from k bits))

-- an axis with bits left is in the round
pub axes_from-more : (k b round : ℕ) (bits : List ℕ) → round < b → axes_from k (b ∷ bits) round ≡ k ∷ axes_from (k + 1) bits round
axes_from-more k b round bits more = rw (lt-ltb round b more) refl

-- one that is used up is not
pub axes_from-done : (k b round : ℕ) (bits : List ℕ) → b ≤ round → axes_from k (b ∷ bits) round ≡ axes_from (k + 1) bits round
axes_from-done k b round bits done = rw (le-ltb round b done) refl

-- a round gives one digit to each axis that has bits left
length-axes_from : (k round : ℕ) (bits : List ℕ) → length (axes_from k bits round) + sum_by (min round) bits ≡ sum_by (min (suc round)) bits
length-axes_from k round [] = refl
length-axes_from k round (b ∷ bits) =
    let before : sum_by (min round) (b ∷ bits) ≡ min round b + sum_by (min round) bits = sum_by-cons (min round) b bits in
    let after : sum_by (min (suc round)) (b ∷ bits) ≡ min (suc round) b + sum_by (min (suc round)) bits = sum_by-cons (min (suc round)) b bits in
    rw (before, after) (⊎_elim
    (λ more. rw (axes_from-more k b round bits more) (omega (arith, length-axes_from (k + 1) round bits)))
    (λ done. rw (axes_from-done k b round bits done) (omega (arith, length-axes_from (k + 1) round bits)))
    (cases_lt round b))

-- each of its digits is one of the axes
All-axes_from : (k n round : ℕ) (bits : List ℕ) → k + length bits ≤ n → All (λ axis. axis < n) (axes_from k bits round)
All-axes_from k n round [] fits = All-nil (λ axis. axis < n)
All-axes_from k n round (b ∷ bits) fits = ⊎_elim
    (λ more. rw (axes_from-more k b round bits more) (All-cons (λ axis. axis < n) k (axes_from (k + 1) bits round) (omega arith) (All-axes_from (k + 1) n round bits (omega arith))))
    (λ done. rw (axes_from-done k b round bits done) (All-axes_from (k + 1) n round bits (omega arith)))
    (cases_lt round b)

-- an axis before the first has no digit in a round
bit_count-axes_from_before : (k axis round : ℕ) (bits : List ℕ) → axis < k → bit_count axis (axes_from k bits round) ≡ 0
bit_count-axes_from_before k axis round [] before = refl
bit_count-axes_from_before k axis round (b ∷ bits) before = ⊎_elim
    (λ more. rw (axes_from-more k b round bits more) (bit_count-other k axis (axes_from (k + 1) bits round) (λ (e : k ≡ axis). omega arith) ∙ bit_count-axes_from_before (k + 1) axis round bits (omega arith)))
    (λ done. rw (axes_from-done k b round bits done) (bit_count-axes_from_before (k + 1) axis round bits (omega arith)))
    (cases_lt round b)

-- each other axis has one digit in a round if it has bits left
bit_count-axes_from : (k i round : ℕ) (bits : List ℕ) → bit_count (k + i) (axes_from k bits round) + min round (get_or bits i 0) ≡ min (suc round) (get_or bits i 0)
bit_count-axes_from k i round [] = omega arith
bit_count-axes_from k zero round (b ∷ bits) =
    let rest : bit_count (k + 0) (axes_from (k + 1) bits round) ≡ 0 = bit_count-axes_from_before (k + 1) (k + 0) round bits (omega arith) in
    let one : bit_count (k + 0) (k ∷ axes_from (k + 1) bits round) ≡ suc (bit_count (k + 0) (axes_from (k + 1) bits round)) = bit_count-same k (k + 0) (axes_from (k + 1) bits round) (omega arith) in
    ⊎_elim
    (λ more. rw (axes_from-more k b round bits more) (omega arith))
    (λ done. rw (axes_from-done k b round bits done) (omega arith))
    (cases_lt round b)
bit_count-axes_from k (suc i) round (b ∷ bits) =
    let next : k + suc i ≡ k + 1 + i = omega arith in
    let rest : bit_count (k + suc i) (axes_from (k + 1) bits round) + min round (get_or bits i 0) ≡ min (suc round) (get_or bits i 0) = rw next (bit_count-axes_from (k + 1) i round bits) in
    let other : bit_count (k + suc i) (k ∷ axes_from (k + 1) bits round) ≡ bit_count (k + suc i) (axes_from (k + 1) bits round) = bit_count-other k (k + suc i) (axes_from (k + 1) bits round) (λ (e : k ≡ k + suc i). omega arith) in
    ⊎_elim
    (λ more. rw (axes_from-more k b round bits more) (ap (λ n. n + min round (get_or bits i 0)) other ∙ rest))
    (λ done. rw (axes_from-done k b round bits done) rest)
    (cases_lt round b)

-- ---- all rounds

-- no round gives no digit
sum_by-min_zero : (bits : List ℕ) → sum_by (min 0) bits ≡ 0
sum_by-min_zero [] = refl
sum_by-min_zero (b ∷ bits) = omega (arith, sum_by-cons (min 0) b bits, sum_by-min_zero bits)

-- so many rounds give each axis so many digits, or all its bits
pub length-rounds : (bits : List ℕ) (n : ℕ) → length (rounds bits n) ≡ sum_by (min n) bits
length-rounds bits zero = sym (sum_by-min_zero bits)
length-rounds bits (suc round) = length-append (round_axes bits round) (rounds bits round) ∙ ap (λ n. length (round_axes bits round) + n) (length-rounds bits round) ∙ length-axes_from 0 round bits

-- an axis gets a digit in each of them, until its bits are used up
pub bit_count-rounds : (axis : ℕ) (bits : List ℕ) (n : ℕ) → bit_count axis (rounds bits n) ≡ min n (get_or bits axis 0)
bit_count-rounds axis bits zero = omega arith
bit_count-rounds axis bits (suc round) =
    let first : 0 + axis ≡ axis = omega arith in
    bit_count-append axis (round_axes bits round) (rounds bits round) ∙ ap (λ n. bit_count axis (round_axes bits round) + n) (bit_count-rounds axis bits round)
    ∙ rw first at (bit_count-axes_from 0 axis round bits)

-- each digit is one of the axes
pub All-rounds : (bits : List ℕ) (n : ℕ) → All (λ axis. axis < length bits) (rounds bits n)
All-rounds bits zero = All-nil (λ axis. axis < length bits)
All-rounds bits (suc round) = All-append (λ axis. axis < length bits) (round_axes bits round) (rounds bits round) (All-axes_from 0 (length bits) round bits (omega arith)) (All-rounds bits round)

-- enough rounds give each axis all its bits
sum_by-min_all : (n : ℕ) (bits : List ℕ) → sum bits ≤ n → sum_by (min n) bits ≡ sum bits
sum_by-min_all n [] enough = refl
sum_by-min_all n (b ∷ bits) enough =
    let whole : sum (b ∷ bits) ≡ b + sum bits = sum_by-cons (λ x. x) b bits in
    let part : sum_by (min n) (b ∷ bits) ≡ min n b + sum_by (min n) bits = sum_by-cons (min n) b bits in
    let rest : sum_by (min n) bits ≡ sum bits = sum_by-min_all n bits (omega arith) in
    omega arith

-- no axis has more bits than all together
get_or-le-sum : (bits : List ℕ) (i : ℕ) → get_or bits i 0 ≤ sum bits
get_or-le-sum [] i = omega arith
get_or-le-sum (b ∷ bits) zero = let whole : sum (b ∷ bits) ≡ b + sum bits = sum_by-cons (λ x. x) b bits in omega arith
get_or-le-sum (b ∷ bits) (suc i) = let whole : sum (b ∷ bits) ≡ b + sum bits = sum_by-cons (λ x. x) b bits in omega (arith, get_or-le-sum bits i)

-- so they are as many digits as there are bits
pub length-all_rounds : (bits : List ℕ) → length (rounds bits (sum bits)) ≡ sum bits
length-all_rounds bits = length-rounds bits (sum bits) ∙ sum_by-min_all (sum bits) bits (omega arith)

-- and a mask, where they are one to forty digits of at most five axes
pub IsMask-all_rounds : (bits : List ℕ) → 1 ≤ sum bits → sum bits ≤ 40 → length bits ≤ 5 → IsMask (rounds bits (sum bits))
IsMask-all_rounds bits some few axes =
    let digits : length (rounds bits (sum bits)) ≡ sum bits = length-all_rounds bits in
    record {
      some = omega arith;
      few = omega arith;
      digits = All-weaker (λ d. d < length bits) (λ d. d < 5) (λ d below. omega arith) (rounds bits (sum bits)) (All-rounds bits (sum bits));
    }

-- ---- the guessed mask

-- it has as many digits as there are bits
pub length-guessed_mask : (box : List (ℕ × ℕ)) → length (guessed_mask box) ≡ sum (upper_bits box)
length-guessed_mask box = length-all_rounds (upper_bits box)

-- each axis has as many digits as its upper end has binary digits
pub bit_count-guessed_mask : (axis : ℕ) (box : List (ℕ × ℕ)) → axis < length box → bit_count axis (guessed_mask box) ≡ binary_digits (get_or box axis (0, 0)).1
bit_count-guessed_mask axis box within =
    let enough : get_or (upper_bits box) axis 0 ≤ sum (upper_bits box) = get_or-le-sum (upper_bits box) axis in
    let all : bit_count axis (guessed_mask box) ≡ get_or (upper_bits box) axis 0 = omega (arith, bit_count-rounds axis (upper_bits box) (sum (upper_bits box))) in
    all ∙ get_or-map (λ b. binary_digits b.1) box axis (0, 0) 0 within

-- each digit is one of the box's axes
pub NamesAxes-guessed_mask : (box : List (ℕ × ℕ)) → NamesAxes (guessed_mask box) (length box)
NamesAxes-guessed_mask box = let axes : length (upper_bits box) ≡ length box = length-map box (λ b. binary_digits b.1) in rw axes at (All-rounds (upper_bits box) (sum (upper_bits box)))

-- each point of the box lies below the mask's size
pub HasAddress-guessed_mask : (box : List (ℕ × ℕ)) (p : List ℕ) → IsRegion box → LiesIn box p → HasAddress (guessed_mask box) p
HasAddress-guessed_mask box p region inside =
    let axes : length p ≡ length box = length_from_LiesIn box p inside in
    record {
      named = rw axes (NamesAxes-guessed_mask box);
      below = λ axis within.
          let in_box : axis < length box = rw axes at within in
          let bits : bit_count axis (guessed_mask box) ≡ binary_digits (get_or box axis (0, 0)).1 = bit_count-guessed_mask axis box in_box in
          let end = HasDigits-binary_digits (get_or box axis (0, 0)).1 (region.small axis (0, 0) in_box) in
          rw bits (omega (arith, LiesIn-at_axis box p inside axis in_box, end.enough));
    }
