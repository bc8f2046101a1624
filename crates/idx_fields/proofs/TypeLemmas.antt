-- The forms of a type, and how it is written.
use Rattle.std.proofs.Common.{◌≡◌, true, false, ℕ, ◌+◌, ◌-◌, ◌≤◌, List, [], ◌∷◌, ◌++◌, length, take, get_or, Some, None, option_and_then, refl, ap, ◌∙◌, arith, append_assoc, eqb-true, ◌==◌, ◌||◌, Bool, not, nat_lt, cond}
use Rattle.std.proofs.lemmas.Option.{same_Some}
use Rattle.std.proofs.lemmas.Bool.{false_from_ne_true}
use Rattle.std.specs.Fmt.{decimal}
use Rattle.std.specs.List.{list_any, before_first, after_first}
use Rattle.idx_fields.specs.declared.base.Base.{Base}
use Rattle.idx_fields.specs.Base.{base_of, base_text}
use Rattle.idx_fields.specs.FieldType.{is_star, is_opening, is_closing, count_of, type_with, type_of, before_closing, canonical_type}
use Rattle.std.specs.List.{position, position_or_len}
use Rattle.std.proofs.lemmas.Bool.Decides.{nat_tests}
use Rattle.idx_text.proofs.TrimLemmas.{split_last}

pub type_of-star : (word : List ℕ) → list_any is_star word ≡ true →
    type_of word ≡ type_with (base_of (after_first is_star word)) (count_of (before_first is_star word))
unfolding type_of
type_of-star word here = rw here refl

pub type_of-opening : (word : List ℕ) → list_any is_star word ≡ false → list_any is_opening word ≡ true →
    type_of word ≡ type_with (base_of (before_first is_opening word)) (option_and_then count_of (before_closing (after_first is_opening word)))
unfolding type_of
type_of-opening word star here = rw (star, here) refl

pub type_of-plain : (word : List ℕ) → list_any is_star word ≡ false → list_any is_opening word ≡ false →
    type_of word ≡ type_with (base_of word) (Some 1)
unfolding type_of
type_of-plain word star opening = rw (star, opening) refl

pub canonical-one : (base : Base) (count : ℕ) → count ≡ 1 → canonical_type base count ≡ base_text base
unfolding canonical_type
canonical-one base count one = rw one refl

pub canonical-more : (base : Base) (count : ℕ) → (count ≡ 1 → ⊥) → canonical_type base count ≡ base_text base ++ 91 ∷ decimal count ++ 93 ∷ []
unfolding canonical_type
canonical-more base count more =
    let test : (count == 1) ≡ false = false_from_ne_true (count == 1) (λ e. more (eqb-true count 1 e)) in
    rw test refl

-- the pieces of a type, one after another
pub canonical-pieces : (base : Base) (count : ℕ) (a b c d e : List ℕ) → (count ≡ 1 → ⊥) → b ≡ a ++ base_text base → c ≡ b ++ 91 ∷ [] → d ≡ c ++ decimal count →
    e ≡ d ++ 93 ∷ [] → e ≡ a ++ canonical_type base count
canonical-pieces base count a b c d e more is-b is-c is-d is-e =
    rw (is-e, is-d, is-c, is-b, canonical-more base count more) (simp append_assoc)

-- a `]` behind others
pub closing-push : (xs : List ℕ) (b : ℕ) → is_closing b ≡ true → before_closing (xs ++ b ∷ []) ≡ Some xs
closing-push [] b here = rw here refl
closing-push (x ∷ []) b here = rw here refl
closing-push (x ∷ y ∷ ys) b here = rw (closing-push (y ∷ ys) b here) refl

closing-other : (xs : List ℕ) (b : ℕ) → is_closing b ≡ false → before_closing (xs ++ b ∷ []) ≡ None
closing-other [] b here = rw here refl
closing-other (x ∷ []) b here = rw here refl
closing-other (x ∷ y ∷ ys) b here = rw (closing-other (y ∷ ys) b here) refl

-- what stands before the last byte
pub closing-yes : (word : List ℕ) → 1 ≤ length word → is_closing (get_or word (length word - 1) 0) ≡ true →
    before_closing word ≡ Some (take (length word - 1) word)
closing-yes word some here = ap before_closing (split_last word some) ∙ closing-push (take (length word - 1) word) _ here

pub closing-no : (word : List ℕ) → 1 ≤ length word → is_closing (get_or word (length word - 1) 0) ≡ false → before_closing word ≡ None
closing-no word some here = ap before_closing (split_last word some) ∙ closing-other (take (length word - 1) word) _ here

-- an element passes exactly where the first place is inside
any_at_place : (p : ℕ → Bool) (xs : List ℕ) → list_any p xs ≡ nat_lt (position_or_len p xs) (length xs)
any_at_place p [] = refl
any_at_place p (x ∷ xs) =
    elim (p x) as (λ v. (v || list_any p xs) ≡ nat_lt (cond (not v) (1 + position_or_len p xs) 0) (length (x ∷ xs))) [
      | true ↦ grind (arith, nat_tests)
      | false ↦ any_at_place p xs ∙ grind (arith, nat_tests)
    ]

-- the place that is found
pub place_none : (p : ℕ → Bool) (xs : List ℕ) → position p xs ≡ None → list_any p xs ≡ false
place_none p xs none = any_at_place p xs ∙ of_test (nat_lt (position_or_len p xs) (length xs)) none
  where
    of_test : (t : Bool) → cond t (Some (position_or_len p xs)) None ≡ None → t ≡ false
    of_test true e = cc
    of_test false e = refl

pub place_some : (p : ℕ → Bool) (xs : List ℕ) (i : ℕ) → position p xs ≡ Some i → (list_any p xs ≡ true) × (position_or_len p xs ≡ i)
place_some p xs i found = of_test (nat_lt (position_or_len p xs) (length xs)) (any_at_place p xs) found
  where
    of_test : (t : Bool) → list_any p xs ≡ t → cond t (Some (position_or_len p xs)) None ≡ Some i → (list_any p xs ≡ true) × (position_or_len p xs ≡ i)
    of_test true any e = (any, same_Some _ _ e)
    of_test false any e = cc
