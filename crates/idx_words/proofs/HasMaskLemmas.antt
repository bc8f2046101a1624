-- Which boxes some mask covers: those whose upper ends have at most forty binary digits in all.
use Rattle.std.proofs.Common.{◌≡◌, ℕ, suc, ◌+◌, ◌^◌, ◌<◌, ◌≤◌, List, [], ◌∷◌, length, get_or, All, sym, ap, ◌∙◌, arith, sum, subst, ⊎_elim}
use Rattle.std.specs.Prelude.{nat_le, if◌then◌else◌}
use Rattle.std.proofs.Math.Nat.{pow-suc}
use Rattle.std.proofs.Math.Pow.{pow_mono}
use Rattle.std.proofs.lemmas.Bool.{cases_lt}
use Rattle.std.proofs.lemmas.Bool.Decides.{nat_tests}
use Rattle.std.proofs.lemmas.List.{length-map, get_or-map, get_or_default}
use Rattle.std.proofs.lemmas.List.Elements.{All-nil, All-cons}
use Rattle.std.proofs.lemmas.List.Sums.{sum_by-cons, get_or-le-sum_by}
use Rattle.idx_geom.specs.Region.{IsRegion, upper_ends}
use Rattle.idx_geom.proofs.LiesInLemmas.{LiesIn-upper_ends}
use Rattle.idx_hz.specs.Mask.{IsMask, HasAddress, bit_count}
use Rattle.idx_hz.specs.Guess.{CanGuess, binary_digits, guessed_mask, upper_bits}
use Rattle.idx_hz.proofs.GuessLemmas.{HasAddress-guessed_mask, HasDigits-binary_digits, IsMask-all_rounds}
use Rattle.idx_words.specs.CutSteps.{HasMask}

-- the mask V0, whose one digit names axis 0
abbrev pub v0 : List ℕ
v0 = 0 ∷ []

pub IsMask-v0 : IsMask v0
IsMask-v0 = record { some = omega arith; few = omega arith; digits = All-cons (λ d. d < 5) 0 [] (omega arith) (All-nil (λ d. d < 5)) }

-- it covers the origin
pub HasAddress-v0 : (p : List ℕ) → 2 ≤ length p → All (λ x. x ≡ 0) p → HasAddress v0 p
HasAddress-v0 p axes zeros = record {
  named = All-cons (λ d. d < length p) 0 [] (omega arith) (All-nil (λ d. d < length p));
  below = λ axis within.
      let here : get_or p axis 0 ≡ 0 = zeros axis 0 within in
      let power : 2 ^ 0 ≤ 2 ^ bit_count axis v0 = pow_mono {i = 0} {j = bit_count axis v0} (omega arith) in
      omega arith;
}

pub HasMask-origin : (box : List (ℕ × ℕ)) → IsRegion box → All (λ x. x ≡ 0) (upper_ends box) → HasMask box
HasMask-origin box region zeros =
    let axes : length (upper_ends box) ≡ length box = length-map box (λ b. b.1) in
    (v0, IsMask-v0, HasAddress-v0 (upper_ends box) (omega (arith, region.axes.0)) zeros)

pub HasMask-guessed : (box : List (ℕ × ℕ)) → IsRegion box → CanGuess box → HasMask box
HasMask-guessed box region can =
    let axes : length (upper_bits box) ≡ length box = length-map box (λ b. binary_digits b.1) in
    (guessed_mask box, IsMask-all_rounds (upper_bits box) can.0 can.1 (omega (arith, region.axes.1)), HasAddress-guessed_mask box (upper_ends box) region (LiesIn-upper_ends box region.ordered))

-- ---- a mask that covers a box has as many digits as its upper ends have binary digits

-- how many digits name the axis k or one behind it
count_from : ℕ → List ℕ → ℕ
count_from k [] = 0
count_from k (d ∷ ds) = (if nat_le k d then 1 else 0) + count_from k ds

count_from-more : (k : ℕ) (ds : List ℕ) → bit_count k ds + count_from (k + 1) ds ≤ count_from k ds
unfolding count_from
count_from-more k [] = omega arith
count_from-more k (d ∷ ds) = let rest : bit_count k ds + count_from (k + 1) ds ≤ count_from k ds = count_from-more k ds in grind (arith, nat_tests)

count_from-le : (k : ℕ) (ds : List ℕ) → count_from k ds ≤ length ds
unfolding count_from
count_from-le k [] = omega arith
count_from-le k (d ∷ ds) = let rest : count_from k ds ≤ length ds = count_from-le k ds in grind (arith, nat_tests)

sum-le-count_from : (k : ℕ) (bits mask : List ℕ) → ((i : ℕ) → i < length bits → get_or bits i 0 ≤ bit_count (k + i) mask) → sum bits ≤ count_from k mask
sum-le-count_from k [] mask each = omega arith
sum-le-count_from k (b ∷ bits) mask each =
    let whole : sum (b ∷ bits) ≡ b + sum bits = sum_by-cons (λ x. x) b bits in
    let first : k + 0 ≡ k = omega arith in
    let here : b ≤ bit_count k mask = subst (λ n. b ≤ bit_count n mask) first (each 0 (omega arith)) in
    let rest : sum bits ≤ count_from (k + 1) mask = sum-le-count_from (k + 1) bits mask (λ i within.
    let next : k + suc i ≡ k + 1 + i = omega arith in
    subst (λ n. get_or bits i 0 ≤ bit_count n mask) next (each (suc i) (omega arith))) in
    omega (arith, count_from-more k mask)

-- a number below a power of 2 has no more binary digits
few_digits : (n x : ℕ) → x ≤ 2 ^ 40 → x < 2 ^ n → binary_digits x ≤ n
few_digits n x small below = ⊎_elim
    (λ (more : n < binary_digits x). absurd (omega (arith, below, (HasDigits-binary_digits x small).needed, pow_mono more, pow-suc 2 n)))
    (λ (few : binary_digits x ≤ n). few)
    (cases_lt n (binary_digits x))

-- the binary digits of an axis
bits_at : (box : List (ℕ × ℕ)) (i : ℕ) → i < length box → get_or (upper_bits box) i 0 ≡ binary_digits (get_or (upper_ends box) i 0)
bits_at box i within = get_or-map (λ b. binary_digits b.1) box i (0, 0) 0 within ∙ ap binary_digits (sym (get_or-map (λ b. b.1) box i (0, 0) 0 within))

end_small : (box : List (ℕ × ℕ)) → IsRegion box → (i : ℕ) → i < length box → get_or (upper_ends box) i 0 ≤ 2 ^ 40
end_small box region i within = let same = get_or-map {X = ℕ × ℕ} (λ b. b.1) box i (0, 0) 0 within in omega (arith, same, region.small i (0, 0) within)

pub bits-few : (box : List (ℕ × ℕ)) → IsRegion box → HasMask box → sum (upper_bits box) ≤ 40
bits-few box region h =
    let axes : length (upper_bits box) ≡ length box = length-map box (λ b. binary_digits b.1) in
    let ends : length (upper_ends box) ≡ length box = length-map box (λ b. b.1) in
    let mask = h.0 in
    let all : sum (upper_bits box) ≤ count_from 0 h.0 = sum-le-count_from 0 (upper_bits box) h.0 (λ i within.
    let first : i ≡ 0 + i = omega arith in
    let fits : binary_digits (get_or (upper_ends box) i 0) ≤ bit_count i h.0 =
    few_digits (bit_count i h.0) (get_or (upper_ends box) i 0) (end_small box region i (omega arith)) (h.2.below i (omega arith)) in
    subst (λ n. get_or (upper_bits box) i 0 ≤ bit_count n h.0) first (omega (arith, bits_at box i (omega arith), fits))) in
    omega (arith, count_from-le 0 h.0, h.1.few)

-- an upper end that is not 0 has binary digits
pub bits-some : (box : List (ℕ × ℕ)) → IsRegion box → (All (λ x. x ≡ 0) (upper_ends box) → ⊥) → 1 ≤ sum (upper_bits box)
bits-some box region some = ⊎_elim
    (λ (none : sum (upper_bits box) < 1). absurd (some (λ i d within.
    let axes : length (upper_bits box) ≡ length box = length-map box (λ b. binary_digits b.1) in
    let ends : length (upper_ends box) ≡ length box = length-map box (λ b. b.1) in
    let in_box : i < length box = omega arith in
    let at : get_or (upper_ends box) i d ≡ get_or (upper_ends box) i 0 = get_or_default (upper_ends box) i d 0 within in
    let most : get_or (upper_bits box) i 0 ≤ sum (upper_bits box) = get_or-le-sum_by (λ x. x) (upper_bits box) i 0 (omega arith) in
    let digits : binary_digits (get_or (upper_ends box) i 0) ≡ 0 = omega (arith, bits_at box i in_box) in
    let power : 2 ^ binary_digits (get_or (upper_ends box) i 0) ≡ 2 ^ 0 = ap (λ n. 2 ^ n) digits in
    omega (arith, (HasDigits-binary_digits (get_or (upper_ends box) i 0) (end_small box region i in_box)).enough))))
    (λ (more : 1 ≤ sum (upper_bits box)). more)
    (cases_lt (sum (upper_bits box)) 1)

pub CanGuess-covered : (box : List (ℕ × ℕ)) → IsRegion box → (All (λ x. x ≡ 0) (upper_ends box) → ⊥) → HasMask box → CanGuess box
CanGuess-covered box region some h = (bits-some box region some, bits-few box region h)
