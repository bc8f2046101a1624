-- The first number of a range that passes a test.
use Rattle.std.proofs.Common.{◌≡◌, ℕ, zero, suc, ◌+◌, ◌-◌, ◌<◌, ◌≤◌, Bool, true, false, cond, Some, None, refl, sym, ap, ◌∙◌, arith}
use Rattle.std.specs.Prelude.{find, Option}
use Rattle.std.specs.List.{range_with_len}

-- numbers in front that do not pass change nothing
pub find-skip : (p : ℕ → Bool) (a m n : ℕ) → ((k : ℕ) → a ≤ k → k < a + m → p k ≡ false) → find p (range_with_len a (m + n)) ≡ find p (range_with_len (a + m) n)
find-skip p a zero n none =
    let left : a ≡ a + 0 = omega arith in
    let count : 0 + n ≡ n = omega arith in
    ap (λ k. find p (range_with_len a k)) count ∙ ap (λ b. find p (range_with_len b n)) left
find-skip p a (suc m) n none =
    let cut : suc m + n ≡ suc (m + n) = omega arith in
    let moved : a + 1 + m ≡ a + suc m = omega arith in
    ap (λ k. find p (range_with_len a k)) cut
    ∙ ap (λ (b : Bool). cond b (Some a) (find p (range_with_len (a + 1) (m + n)))) (none a (omega arith) (omega arith))
    ∙ find-skip p (a + 1) m n (λ k from to. none k (omega arith) (omega arith))
    ∙ ap (λ b. find p (range_with_len b n)) moved

-- where none passes nothing is found
pub find-none : (p : ℕ → Bool) (a n : ℕ) → ((k : ℕ) → a ≤ k → k < a + n → p k ≡ false) → find p (range_with_len a n) ≡ None
find-none p a n none =
    let count : n ≡ n + 0 = omega arith in
    ap (λ k. find p (range_with_len a k)) count ∙ find-skip p a n 0 none

-- one that passes is found where none before it does
pub find-at : (p : ℕ → Bool) (a n b : ℕ) → a ≤ b → b < a + n → ((k : ℕ) → a ≤ k → k < b → p k ≡ false) → p b ≡ true → find p (range_with_len a n) ≡ Some b
find-at p a n b from to none passes =
    let cut : n ≡ (b - a) + suc (n - (b - a) - 1) = omega arith in
    let here : a + (b - a) ≡ b = omega arith in
    ap (λ k. find p (range_with_len a k)) cut
    ∙ find-skip p a (b - a) (suc (n - (b - a) - 1)) (λ k low high. none k low (omega arith))
    ∙ ap (λ c. find p (range_with_len c (suc (n - (b - a) - 1)))) here
    ∙ ap (λ (t : Bool). cond t (Some b) (find p (range_with_len (b + 1) (n - (b - a) - 1)))) passes

-- what is found passes, and none before it does
pub record IsFirst (p : ℕ → Bool) (a n b : ℕ) : Type 0 where
  pub from : a ≤ b
  pub to : b < a + n
  pub passes : p b ≡ true
  pub least : (k : ℕ) → a ≤ k → k < b → p k ≡ false

-- a number that does not pass, and none behind it up to an end
pub none_from : (p : ℕ → Bool) (a b : ℕ) → p a ≡ false → ((k : ℕ) → a + 1 ≤ k → k < b → p k ≡ false) → (k : ℕ) → a ≤ k → k < b → p k ≡ false
none_from p a b here later k low high = by_distance (k - a) (omega arith)
  where
    by_distance : (d : ℕ) → k ≡ a + d → p k ≡ false
    by_distance zero same = ap p (omega arith) ∙ here
    by_distance (suc d) same = later k (omega arith) high

first_false : (p : ℕ → Bool) (a n : ℕ) → p a ≡ false → find p (range_with_len a (suc n)) ≡ find p (range_with_len (a + 1) n)
first_false p a n is = ap (λ (t : Bool). cond t (Some a) (find p (range_with_len (a + 1) n))) is

first_true : (p : ℕ → Bool) (a n : ℕ) → p a ≡ true → find p (range_with_len a (suc n)) ≡ Some a
first_true p a n is = ap (λ (t : Bool). cond t (Some a) (find p (range_with_len (a + 1) n))) is

pub found : (p : ℕ → Bool) (a n b : ℕ) → find p (range_with_len a n) ≡ Some b → IsFirst p a n b
found p a zero b e = let wrong : ◌≡◌ {A = Option ℕ} None (Some b) = e in cc
found p a (suc n) b e = by_test (λ rest. found p (a + 1) n b rest) (p a) refl
  where
    by_test : (find p (range_with_len (a + 1) n) ≡ Some b → IsFirst p (a + 1) n b) → (t : Bool) → p a ≡ t → IsFirst p a (suc n) b
    by_test more true is =
        let first : Some a ≡ Some b = sym (first_true p a n is) ∙ e in
        let same : a ≡ b = cc in
        record { from = omega (arith, same); to = omega (arith, same); passes = ap p (sym same) ∙ is; least = λ k low high. absurd (omega (arith, same)) }
    by_test more false is =
        let later = more (sym (first_false p a n is) ∙ e) in
        record {
          from = omega (arith, later.from);
          to = omega (arith, later.to);
          passes = later.passes;
          least = none_from p a b is later.least;
        }

-- where nothing is found none passes
pub not_found : (p : ℕ → Bool) (a n : ℕ) → find p (range_with_len a n) ≡ None → (k : ℕ) → a ≤ k → k < a + n → p k ≡ false
not_found p a zero e k low high = absurd (omega arith)
not_found p a (suc n) e k low high = by_test (not_found p (a + 1) n) (p a) refl
  where
    by_test : (find p (range_with_len (a + 1) n) ≡ None → (k : ℕ) → a + 1 ≤ k → k < a + 1 + n → p k ≡ false) → (t : Bool) → p a ≡ t → p k ≡ false
    by_test more true is =
        let wrong : Some a ≡ None = sym (first_true p a n is) ∙ e in cc
    by_test more false is =
        none_from p a (a + suc n) is (λ k low high. more (sym (first_false p a n is) ∙ e) k low (omega arith)) k low high
