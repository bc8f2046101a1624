-- Which pairs stand in lists of pairs, and that none stands twice.
use Rattle.std.proofs.Common.{◌≡◌, ℕ, zero, suc, ◌+◌, ◌<◌, ◌≤◌, Bool, true, false, ◌&&◌, ◌||◌, cond, nat_eq, List, [], ◌∷◌, ◌++◌, map, filter, refl, sym, ap, ◌∙◌, subst, arith, ⊎_elim}
use Rattle.std.specs.List.{AllByRecursion, IsDistinct, list_any, range_with_len}
use Rattle.std.specs.Cmp.Derive.{both_true}
use Rattle.std.proofs.lemmas.Bool.{cases_eq, eqb-true, eq-eqb, false≢true}
use Rattle.std.proofs.lemmas.Bool.Decides.{nat_tests}
use Rattle.std.proofs.lemmas.List.Folds.{list_any-append}
use Rattle.std.proofs.lemmas.Map.Keys.{IsDistinct-head, IsDistinct-tail, IsDistinct-cons}
use Rattle.idx_events.specs.Lists.{has, has_pair, pair_eq}
use Rattle.idx_events.proofs.ListLemmas.{Each-weaker, Each-always, Each-both, Each-append, Each-filter, Each-map, Each-itself, pair_laws, has-filter, has_pair-snoc}
use Rattle.idx_drill_events.specs.Lists.{pairs_of}

-- ---- tests

pub neither : (a b : Bool) → a ≡ false → b ≡ false → (a || b) ≡ false
neither true b e f = e
neither false b e f = f

pub first-false : (a b : Bool) → (a || b) ≡ false → a ≡ false
first-false true b e = e
first-false false b e = refl

pub second-false : (a b : Bool) → (a || b) ≡ false → b ≡ false
second-false true b e = absurd (false≢true (sym e))
second-false false b e = e

pub or-right : (a b : Bool) → b ≡ true → (a || b) ≡ true
or-right true b e = refl
or-right false b e = e

and-false : (a b : Bool) → b ≡ false → (a && b) ≡ false
and-false true b e = e
and-false false b e = refl

-- ---- lists of which nothing passes a test, or none is as another

module _ {X : Type 0} where
  pub none-any : (test : X → Bool) (xs : List X) → AllByRecursion (λ x. test x ≡ false) xs → list_any test xs ≡ false
  none-any test [] each = refl
  none-any test (x ∷ xs) each = neither (test x) (list_any test xs) each.0 (none-any test xs each.1)

  pub each-none : (test : X → Bool) (xs : List X) → list_any test xs ≡ false → AllByRecursion (λ x. test x ≡ false) xs
  each-none test [] e = tt
  each-none test (x ∷ xs) e = (first-false (test x) (list_any test xs) e, each-none test xs (second-false (test x) (list_any test xs) e))

  pub distinct-none : (eq : X → X → Bool) → IsDistinct eq []
  unfolding IsDistinct
  distinct-none eq = tt

  pub distinct-append : (eq : X → X → Bool) (xs ys : List X) → IsDistinct eq xs → IsDistinct eq ys → AllByRecursion (λ x. list_any (eq x) ys ≡ false) xs → IsDistinct eq (xs ++ ys)
  distinct-append eq [] ys d e apart = e
  distinct-append eq (x ∷ xs) ys d e apart =
      IsDistinct-cons eq x (xs ++ ys)
      (Each-append (λ y. eq x y ≡ false) xs ys (IsDistinct-head eq x xs d) (each-none (eq x) ys apart.0))
      (distinct-append eq xs ys (IsDistinct-tail eq x xs d) e apart.1)

  pub distinct-filter : (eq : X → X → Bool) (test : X → Bool) (xs : List X) → IsDistinct eq xs → IsDistinct eq (filter test xs)
  distinct-filter eq test [] d = d
  distinct-filter eq test (x ∷ xs) d = elim (test x) as (λ b. IsDistinct eq (cond b (x ∷ filter test xs) (filter test xs))) [
    | true ↦ IsDistinct-cons eq x (filter test xs) (Each-filter (λ y. eq x y ≡ false) test xs (IsDistinct-head eq x xs d)) (distinct-filter eq test xs (IsDistinct-tail eq x xs d))
    | false ↦ distinct-filter eq test xs (IsDistinct-tail eq x xs d)
  ]

  pub each-passing : (P : X → Type 0) (test : X → Bool) (xs : List X) → AllByRecursion (λ x. test x ≡ true → P x) xs → AllByRecursion P (filter test xs)
  each-passing P test [] each = tt
  each-passing P test (x ∷ xs) each = (elim (test x) as (λ b. test x ≡ b → AllByRecursion P (cond b (x ∷ filter test xs) (filter test xs))) [
    | true ↦ λ e. (each.0 e, each-passing P test xs each.1)
    | false ↦ λ e. each-passing P test xs each.1
  ]) refl

-- what is given is not given yet, and the next ones are not either once it is
pub fresh-more : (given ps : List (ℕ × ℕ)) (p : ℕ × ℕ) → IsDistinct pair_eq (p ∷ ps) → AllByRecursion (λ q. has_pair q given ≡ false) ps → AllByRecursion (λ q. has_pair q (given ++ p ∷ []) ≡ false) ps
fresh-more given ps p d fresh = Each-both (λ q. has_pair q given ≡ false) (λ q. pair_eq p q ≡ false) (λ q. has_pair q (given ++ p ∷ []) ≡ false)
    (λ q old other. has_pair-snoc q p given ∙ neither (has_pair q given) (pair_eq q p) old (pair_laws.symm q p ∙ other)) ps fresh (IsDistinct-head pair_eq p ps d)

-- ---- ranges

pub has-range : (n a q : ℕ) → a ≤ q → q < a + n → has q (range_with_len a n) ≡ true
has-range zero a q low high = absurd (omega arith)
has-range (suc n) a q low high = ⊎_elim
    (λ e. let t : nat_eq q a ≡ true = eq-eqb q a e in rw t refl)
    (λ other. or-right (nat_eq q a) (has q (range_with_len (a + 1) n)) (has-range n (a + 1) q (omega arith) (omega arith)))
    (cases_eq q a)

range-behind : (n a b : ℕ) → b < a → AllByRecursion (λ y. nat_eq b y ≡ false) (range_with_len a n)
range-behind zero a b less = tt
range-behind (suc n) a b less = (grind (arith, nat_tests), range-behind n (a + 1) b (omega arith))

pub distinct-range : (n a : ℕ) → IsDistinct nat_eq (range_with_len a n)
distinct-range zero a = distinct-none nat_eq
distinct-range (suc n) a = IsDistinct-cons nat_eq a (range_with_len (a + 1) n) (range-behind n (a + 1) a (omega arith)) (distinct-range n (a + 1))

-- ---- pairs with one first number

abbrev row : ℕ → List ℕ → List (ℕ × ℕ)
row a bs = map (λ b. (a, b)) bs

row-has : (a b : ℕ) (bs : List ℕ) → has b bs ≡ true → has_pair (a, b) (row a bs) ≡ true
row-has a b [] e = e
row-has a b (c ∷ bs) e = (elim (nat_eq b c) as (λ k. nat_eq b c ≡ k → (k || has b bs) ≡ true → (pair_eq (a, b) (a, c) || has_pair (a, b) (row a bs)) ≡ true) [
  | true ↦ λ k h. ap (λ t. t || has_pair (a, b) (row a bs)) (both_true (eq-eqb a a refl) k)
  | false ↦ λ k h. or-right (pair_eq (a, b) (a, c)) (has_pair (a, b) (row a bs)) (row-has a b bs h)
]) refl e

row-none : (a b x : ℕ) (bs : List ℕ) → nat_eq a x ≡ false → has_pair (a, b) (row x bs) ≡ false
row-none a b x bs e = none-any (pair_eq (a, b)) (row x bs)
    (Each-map (λ c. (x, c)) (λ p. pair_eq (a, b) p ≡ false) bs (Each-always (λ c. pair_eq (a, b) (x, c) ≡ false) (λ c. ap (λ t. t && nat_eq b c) e) bs))

row-apart : (a : ℕ) (bs : List ℕ) → IsDistinct nat_eq bs → IsDistinct pair_eq (row a bs)
row-apart a [] d = distinct-none pair_eq
row-apart a (b ∷ bs) d = IsDistinct-cons pair_eq (a, b) (row a bs)
    (Each-map (λ c. (a, c)) (λ p. pair_eq (a, b) p ≡ false) bs
    (Each-weaker (λ c. nat_eq b c ≡ false) (λ c. pair_eq (a, b) (a, c) ≡ false) (λ c e. and-false (nat_eq a a) (nat_eq b c) e) bs (IsDistinct-head nat_eq b bs d)))
    (row-apart a bs (IsDistinct-tail nat_eq b bs d))

-- ---- pairs of two lists

module _ (test : ℕ → ℕ → Bool) (seconds : List ℕ) where
  pairs-none : (a b : ℕ) (firsts : List ℕ) → AllByRecursion (λ x. nat_eq a x ≡ false) firsts → has_pair (a, b) (pairs_of test firsts seconds) ≡ false
  pairs-none a b [] other = refl
  pairs-none a b (x ∷ firsts) other =
      list_any-append (pair_eq (a, b)) (row x (filter (test x) seconds)) (pairs_of test firsts seconds)
      ∙ neither (has_pair (a, b) (row x (filter (test x) seconds))) (has_pair (a, b) (pairs_of test firsts seconds))
      (row-none a b x (filter (test x) seconds) other.0) (pairs-none a b firsts other.1)

  -- no pair stands twice
  pub pairs-apart : (firsts : List ℕ) → IsDistinct nat_eq firsts → IsDistinct nat_eq seconds → IsDistinct pair_eq (pairs_of test firsts seconds)
  pairs-apart [] d e = distinct-none pair_eq
  pairs-apart (a ∷ firsts) d e = distinct-append pair_eq (row a (filter (test a) seconds)) (pairs_of test firsts seconds)
      (row-apart a (filter (test a) seconds) (distinct-filter nat_eq (test a) seconds e))
      (pairs-apart firsts (IsDistinct-tail nat_eq a firsts d) e)
      (Each-map (λ b. (a, b)) (λ p. has_pair p (pairs_of test firsts seconds) ≡ false) (filter (test a) seconds)
      (Each-always (λ b. has_pair (a, b) (pairs_of test firsts seconds) ≡ false) (λ b. pairs-none a b firsts (IsDistinct-head nat_eq a firsts d)) (filter (test a) seconds)))

  -- what holds of each pair that passes
  pub pairs-each : (P : ℕ × ℕ → Type 0) (Q : ℕ → Type 0) → ((a b : ℕ) → Q a → has b seconds ≡ true → test a b ≡ true → P (a, b)) → (firsts : List ℕ) → AllByRecursion Q firsts →
      AllByRecursion P (pairs_of test firsts seconds)
  pairs-each P Q f [] each = tt
  pairs-each P Q f (a ∷ firsts) each = Each-append P (row a (filter (test a) seconds)) (pairs_of test firsts seconds)
      (Each-map (λ b. (a, b)) P (filter (test a) seconds)
      (each-passing (λ b. P (a, b)) (test a) seconds
      (Each-weaker (λ b. has b seconds ≡ true) (λ b. test a b ≡ true → P (a, b)) (λ b there. f a b each.0 there) seconds (Each-itself seconds))))
      (pairs-each P Q f firsts each.1)

  -- each pair that passes is there
  pub pairs-has : (a b : ℕ) (firsts : List ℕ) → has a firsts ≡ true → has b seconds ≡ true → test a b ≡ true → has_pair (a, b) (pairs_of test firsts seconds) ≡ true
  pairs-has a b [] first second passes = first
  pairs-has a b (x ∷ firsts) first second passes =
      list_any-append (pair_eq (a, b)) (row x (filter (test x) seconds)) (pairs_of test firsts seconds)
      ∙ (elim (nat_eq a x) as (λ k. nat_eq a x ≡ k → (k || has a firsts) ≡ true → (has_pair (a, b) (row x (filter (test x) seconds)) || has_pair (a, b) (pairs_of test firsts seconds)) ≡ true) [
        | true ↦ λ e h. ap (λ t. t || has_pair (a, b) (pairs_of test firsts seconds))
            (subst (λ n. has_pair (a, b) (row n (filter (test n) seconds)) ≡ true) (eqb-true a x e)
            (row-has a b (filter (test a) seconds) (has-filter b (test a) seconds ∙ both_true second passes)))
        | false ↦ λ e h. or-right (has_pair (a, b) (row x (filter (test x) seconds))) (has_pair (a, b) (pairs_of test firsts seconds)) (pairs-has a b firsts h second passes)
      ]) refl first
