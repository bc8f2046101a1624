-- Tests of the items of lists, and of the numbers of ranges.
use Rattle.std.proofs.Common.{◌≡◌, ℕ, zero, suc, ◌+◌, ◌-◌, ◌<◌, ◌≤◌, Bool, true, false, cond, ◌&&◌, ◌||◌, leb, ltb, List, [], ◌∷◌, ◌++◌, filter, refl, ap, ◌∙◌, append-nil, arith}
use Rattle.std.specs.List.{list_any, range_with_len}
use Rattle.std.proofs.lemmas.Bool.{le-leb, lt-ltb, leb-true, ltb-true, false_from_ne_true}
use Rattle.std.proofs.lemmas.List.Elements.{filter-append}
use Rattle.idx_layout.proofs.ListLemmas.{range-split, count-none}

-- tests that agree find the same
pub list_any-agree : {X : Type 0} (p q : X → Bool) → ((x : X) → p x ≡ q x) → (xs : List X) → list_any p xs ≡ list_any q xs
list_any-agree p q same [] = refl
list_any-agree p q same (x ∷ xs) = λ i. same x i || list_any-agree p q same xs i

-- a test that has one part for the whole list
pub list_any-and : {X : Type 0} (b : Bool) (q : X → Bool) (xs : List X) → list_any (λ x. b && q x) xs ≡ (b && list_any q xs)
list_any-and true q xs = refl
list_any-and false q [] = refl
list_any-and false q (x ∷ xs) = list_any-and false q xs

-- a test that fails everywhere
pub list_any-none : {X : Type 0} (p : X → Bool) → ((x : X) → p x ≡ false) → (xs : List X) → list_any p xs ≡ false
list_any-none p none [] = refl
list_any-none p none (x ∷ xs) = ap (λ b. b || list_any p xs) (none x) ∙ list_any-none p none xs

-- tests that agree on a range keep the same of it
pub filter-range-agree : (p q : ℕ → Bool) (a n : ℕ) → ((k : ℕ) → a ≤ k → k < a + n → p k ≡ q k) → filter p (range_with_len a n) ≡ filter q (range_with_len a n)
filter-range-agree p q a zero same = refl
filter-range-agree p q a (suc n) same =
    ap (λ b. cond b (a ∷ filter p (range_with_len (a + 1) n)) (filter p (range_with_len (a + 1) n))) (same a (omega arith) (omega arith))
    ∙ ap (λ t. cond (q a) (a ∷ t) t) (filter-range-agree p q (a + 1) n (λ k from to. same k (omega arith) (omega arith)))

-- a number lies from one on and before an end
abbrev pub within : ℕ → ℕ → ℕ → Bool
within first end k = leb first k && ltb k end

within-true : (first end k : ℕ) → first ≤ k → k < end → within first end k ≡ true
within-true first end k from to = ap (λ b. b && ltb k end) (le-leb first k from) ∙ lt-ltb k end to

within-before : (first end k : ℕ) → k < first → within first end k ≡ false
within-before first end k before =
    ap (λ b. b && ltb k end) (false_from_ne_true (leb first k) (λ e. omega (arith, leb-true first k e, before)))

within-past : (first end k : ℕ) → end ≤ k → within first end k ≡ false
within-past first end k past = by_test (leb first k)
  where
    none : ltb k end ≡ false
    none = false_from_ne_true (ltb k end) (λ e. omega (arith, ltb-true k end e, past))

    by_test : (b : Bool) → (b && ltb k end) ≡ false
    by_test true = none
    by_test false = refl

-- of a range the numbers of a part that pass a test
pub filter-part : (q : ℕ → Bool) (a n first end : ℕ) → a ≤ first → first ≤ end → end ≤ a + n → filter (λ k. within first end k && q k) (range_with_len a n) ≡ filter q (range_with_len first (end - first))
filter-part q a n first end from ordered to =
    let test : ℕ → Bool = λ k. within first end k && q k in
    let cut : n ≡ (first - a) + ((end - first) + (a + n - end)) = omega arith in
    let start : a + (first - a) ≡ first = omega arith in
    let stop : first + (end - first) ≡ end = omega arith in
    let front : filter test (range_with_len a (first - a)) ≡ [] =
    count-none test a (first - a) (λ k low high. ap (λ b. b && q k) (within-before first end k (omega arith))) in
    let middle : filter test (range_with_len first (end - first)) ≡ filter q (range_with_len first (end - first)) =
    filter-range-agree test q first (end - first) (λ k low high. ap (λ b. b && q k) (within-true first end k low (omega arith))) in
    let rest : filter test (range_with_len end (a + n - end)) ≡ [] =
    count-none test end (a + n - end) (λ k low high. ap (λ b. b && q k) (within-past first end k low)) in
    ap (λ m. filter test (range_with_len a m)) cut
    ∙ ap (filter test) (range-split a (first - a) ((end - first) + (a + n - end)))
    ∙ filter-append test (range_with_len a (first - a)) (range_with_len (a + (first - a)) ((end - first) + (a + n - end)))
    ∙ ap (λ t. t ++ filter test (range_with_len (a + (first - a)) ((end - first) + (a + n - end)))) front
    ∙ ap (λ s. filter test (range_with_len s ((end - first) + (a + n - end)))) start
    ∙ ap (filter test) (range-split first (end - first) (a + n - end))
    ∙ filter-append test (range_with_len first (end - first)) (range_with_len (first + (end - first)) (a + n - end))
    ∙ ap (λ t. t ++ filter test (range_with_len (first + (end - first)) (a + n - end))) middle
    ∙ ap (λ s. filter q (range_with_len first (end - first)) ++ filter test (range_with_len s (a + n - end))) stop
    ∙ ap (λ t. filter q (range_with_len first (end - first)) ++ t) rest
    ∙ append-nil (filter q (range_with_len first (end - first)))
