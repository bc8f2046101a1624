-- A change at the place of what is found.
use Rattle.std.proofs.Common.{◌≡◌, ℕ, zero, suc, ◌+◌, ◌<◌, ◌≤◌, Bool, true, false, not, cond, ◌||◌, nat_eq, nat_lt, List, [], ◌∷◌, length, map, set, get_or, find, Some, None, refl, sym, ap, ◌∙◌, subst, arith}
use Rattle.std.specs.List.{AllByRecursion, IsDistinct, list_any, position, position_or_len}
use Rattle.std.proofs.lemmas.Bool.{eqb-true, eq-eqb}
use Rattle.std.proofs.lemmas.Bool.Decides.{nat_tests}
use Rattle.std.proofs.lemmas.List.{length-map}
use Rattle.std.proofs.lemmas.Option.{slice_get_past}
use Rattle.std.proofs.lemmas.List.Folds.{find_at}
use Rattle.std.proofs.lemmas.List.Quantifiers.{position-Some}
use Rattle.std.proofs.lemmas.Map.Keys.{IsDistinct-head, IsDistinct-tail}
use Rattle.idx_events.specs.Lists.{change_first}
use Rattle.idx_events.proofs.ListLemmas.{clash}

module _ {X : Type 0} where
  -- a test of what a function makes
  pub any-map : {Y : Type 0} (f : Y → X) (test : X → Bool) (ys : List Y) → list_any test (map f ys) ≡ list_any (λ y. test (f y)) ys
  any-map f test [] = refl
  any-map f test (y ∷ ys) = ap (λ b. test (f y) || b) (any-map f test ys)

  place-map : {Y : Type 0} (f : Y → X) (test : X → Bool) (ys : List Y) → position_or_len test (map f ys) ≡ position_or_len (λ y. test (f y)) ys
  place-map f test [] = refl
  place-map f test (y ∷ ys) = ap (λ n. cond (not (test (f y))) (1 + n) 0) (place-map f test ys)

  pub position-map : {Y : Type 0} (f : Y → X) (test : X → Bool) (ys : List Y) → position test (map f ys) ≡ position (λ y. test (f y)) ys
  position-map f test ys =
      ap (λ n. cond (nat_lt n (length (map f ys))) (Some n) None) (place-map f test ys)
      ∙ ap (λ n. cond (nat_lt (position_or_len (λ y. test (f y)) ys) n) (Some (position_or_len (λ y. test (f y)) ys)) None) (length-map ys f)

  -- none passes where there is no place
  pub no-place : (test : X → Bool) (xs : List X) → position test xs ≡ None → find test xs ≡ None
  no-place test xs h = find_at test xs ∙ slice_get_past xs (position_or_len test xs) (past (nat_lt (position_or_len test xs) (length xs)) refl h)
    where
      past : (b : Bool) → nat_lt (position_or_len test xs) (length xs) ≡ b → cond b (Some (position_or_len test xs)) None ≡ None → length xs ≤ position_or_len test xs
      past true e k = cc
      past false e k = grind (arith, nat_tests)

  others-same : (number : X → ℕ) (n : ℕ) (f : X → X) (xs : List X) → AllByRecursion (λ m. nat_eq n m ≡ false) (map number xs) → map (λ x. cond (nat_eq (number x) n) (f x) x) xs ≡ xs
  others-same number n f [] a = refl
  others-same number n f (x ∷ xs) a =
      ap (λ b. cond b (f x) x ∷ map (λ y. cond (nat_eq (number y) n) (f y) y) xs) (other (nat_eq (number x) n) refl) ∙ ap (λ l. x ∷ l) (others-same number n f xs a.1)
    where
      other : (b : Bool) → nat_eq (number x) n ≡ b → nat_eq (number x) n ≡ false
      other true e = absurd (clash (eq-eqb n (number x) (sym (eqb-true (number x) n e))) a.0)
      other false e = e

  apart-at : (number : X → ℕ) (k : ℕ) (xs : List X) (i : ℕ) (d : X) → AllByRecursion (λ m. nat_eq k m ≡ false) (map number xs) → i < length xs → nat_eq k (number (get_or xs i d)) ≡ false
  apart-at number k [] i d a l = absurd (omega arith)
  apart-at number k (x ∷ xs) zero d a l = a.0
  apart-at number k (x ∷ xs) (suc i) d a l = apart-at number k xs i d a.1 (omega arith)

  -- of elements with distinct numbers one alone is changed
  change-at : (number : X → ℕ) (n : ℕ) (f : X → X) (xs : List X) (i : ℕ) (d : X) → IsDistinct nat_eq (map number xs) → i < length xs → number (get_or xs i d) ≡ n → map (λ x. cond (nat_eq (number x) n) (f x) x) xs ≡ set xs i (f (get_or xs i d))
  change-at number n f [] i d a l e = absurd (omega arith)
  change-at number n f (x ∷ xs) zero d a l e =
      ap (λ b. cond b (f x) x ∷ map (λ y. cond (nat_eq (number y) n) (f y) y) xs) (eq-eqb (number x) n e)
      ∙ ap (λ l. f x ∷ l) (others-same number n f xs (subst (λ m. AllByRecursion (λ k. nat_eq m k ≡ false) (map number xs)) e (IsDistinct-head nat_eq (number x) (map number xs) a)))
  change-at number n f (x ∷ xs) (suc i) d a l e =
      ap (λ b. cond b (f x) x ∷ map (λ y. cond (nat_eq (number y) n) (f y) y) xs) (subst (λ m. nat_eq (number x) m ≡ false) e (apart-at number (number x) xs i d (IsDistinct-head nat_eq (number x) (map number xs) a) (omega arith)))
      ∙ ap (λ l. x ∷ l) (change-at number n f xs i d (IsDistinct-tail nat_eq (number x) (map number xs) a) (omega arith) e)

  pub one-change : (number : X → ℕ) (n : ℕ) (f : X → X) (xs : List X) (i : ℕ) (d : X) → IsDistinct nat_eq (map number xs) → position (λ x. nat_eq (number x) n) xs ≡ Some i → map (λ x. cond (nat_eq (number x) n) (f x) x) xs ≡ set xs i (f (get_or xs i d))
  one-change number n f xs i d a h = let at = position-Some (λ x. nat_eq (number x) n) xs i d h in change-at number n f xs i d a at.0 (eqb-true (number (get_or xs i d)) n at.1)

  -- the first that passes is at its place
  pub found-at : (test : X → Bool) (xs : List X) (i : ℕ) (d : X) → position test xs ≡ Some i → find test xs ≡ Some (get_or xs i d)
  found-at test xs i d h = let at = position-Some test xs i d h in first xs i at.0 at.1 at.2
    where
      first : (xs : List X) (i : ℕ) → i < length xs → test (get_or xs i d) ≡ true → ((k : ℕ) → k < i → test (get_or xs k d) ≡ false) → find test xs ≡ Some (get_or xs i d)
      first [] i l t b = absurd (omega arith)
      first (x ∷ xs) zero l t b = ap (λ c. cond c (Some x) (find test xs)) t
      first (x ∷ xs) (suc i) l t b = ap (λ c. cond c (Some x) (find test xs)) (b 0 (omega arith)) ∙ first xs i (omega arith) t (λ k h. b (suc k) (omega arith))

  pub first-change : (test : X → Bool) (f : X → X) (xs : List X) (i : ℕ) (d : X) → position test xs ≡ Some i → change_first test f xs ≡ set xs i (f (get_or xs i d))
  first-change test f xs i d h = let at = position-Some test xs i d h in first xs i at.0 at.1 at.2
    where
      first : (xs : List X) (i : ℕ) → i < length xs → test (get_or xs i d) ≡ true → ((k : ℕ) → k < i → test (get_or xs k d) ≡ false) → change_first test f xs ≡ set xs i (f (get_or xs i d))
      first [] i l t b = absurd (omega arith)
      first (x ∷ xs) zero l t b = ap (λ c. cond c (f x ∷ xs) (x ∷ change_first test f xs)) t
      first (x ∷ xs) (suc i) l t b = ap (λ c. cond c (f x ∷ xs) (x ∷ change_first test f xs)) (b 0 (omega arith)) ∙ ap (λ l. x ∷ l) (first xs i (omega arith) t (λ k h. b (suc k) (omega arith)))

  pub same-at : (xs : List X) (i : ℕ) (d e : X) → i < length xs → get_or xs i d ≡ get_or xs i e
  same-at [] i d e l = absurd (omega arith)
  same-at (x ∷ xs) zero d e l = refl
  same-at (x ∷ xs) (suc i) d e l = same-at xs i d e (omega arith)

  -- at a place that was found something stands
  pub item-at : (test : X → Bool) (xs : List X) (i : ℕ) → position test xs ≡ Some i → (x : X) × (x ≡ get_or xs i x)
  item-at test [] i h = absurd (cc)
  item-at test (x ∷ xs) i h = (get_or (x ∷ xs) i x, same-at (x ∷ xs) i x (get_or (x ∷ xs) i x) (position-Some test (x ∷ xs) i x h).0)
