-- The parts of a text between separators, and the words of a part: what they have and what they lack.
use Rattle.std.proofs.Common.{◌≡◌, false, Bool, ℕ, List, [], ◌∷◌, filter, sym, arith, subst, inl, inr}
use Rattle.std.specs.List.{All, slice_split, onto_first}
use Rattle.std.proofs.lemmas.Bool.{cases_Bool}
use Rattle.std.proofs.lemmas.List.Splits.{slice_split-cons_yes, slice_split-cons_no}
use Rattle.std.proofs.lemmas.List.Elements.{All-nil, All-cons, All-head, All-tail}
use Rattle.idx_text.specs.Numbers.{is_blank, has_bytes, runs}
use Rattle.idx_fields.specs.Field.{IsWord, is_plus}

-- a byte put before the first part
onto-all : (P : ℕ → Type 0) (x : ℕ) (parts : List (List ℕ)) → P x → All (All P) parts → All (All P) (onto_first x parts)
onto-all P x [] here all = All-cons (All P) (x ∷ []) [] (All-cons P x [] here (All-nil P)) all
onto-all P x (part ∷ parts) here all =
    All-cons (All P) (x ∷ part) parts (All-cons P x part here (All-head (All P) part parts all)) (All-tail (All P) part parts all)

-- each part has what the text has
pub parts_keep : (P : ℕ → Type 0) (p : ℕ → Bool) (xs : List ℕ) → All P xs → All (All P) (slice_split p xs)
parts_keep P p [] all = All-cons (All P) [] [] (All-nil P) (All-nil (All P))
parts_keep P p (x ∷ xs) all =
    let rest = parts_keep P p xs (All-tail P x xs all) in
    elim (cases_Bool (p x)) [
      | inl is ↦ subst (All (All P)) (sym (slice_split-cons_yes p x xs is)) (All-cons (All P) [] (slice_split p xs) (All-nil P) rest)
      | inr isnt ↦ subst (All (All P)) (sym (slice_split-cons_no p x xs isnt)) (onto-all P x (slice_split p xs) (All-head P x xs all) rest)
    ]

-- no part has a separator
pub parts_lack : (p : ℕ → Bool) (xs : List ℕ) → All (All (λ x. p x ≡ false)) (slice_split p xs)
parts_lack p [] = All-cons (All (λ x. p x ≡ false)) [] [] (All-nil (λ x. p x ≡ false)) (All-nil (All (λ x. p x ≡ false)))
parts_lack p (x ∷ xs) =
    let P : ℕ → Type 0 = λ x. p x ≡ false in
    let rest = parts_lack p xs in
    elim (cases_Bool (p x)) [
      | inl is ↦ subst (All (All P)) (sym (slice_split-cons_yes p x xs is)) (All-cons (All P) [] (slice_split p xs) (All-nil P) rest)
      | inr isnt ↦ subst (All (All P)) (sym (slice_split-cons_no p x xs isnt)) (onto-all P x (slice_split p xs) isnt rest)
    ]

-- the parts that are not empty are words
filtered : (parts : List (List ℕ)) → All (All (λ b. is_blank b ≡ false)) parts → All (All (λ b. is_plus b ≡ false)) parts →
    All IsWord (filter has_bytes parts)
filtered [] blank plus = All-nil IsWord
filtered ([] ∷ parts) blank plus =
    filtered parts (All-tail (All (λ b. is_blank b ≡ false)) [] parts blank) (All-tail (All (λ b. is_plus b ≡ false)) [] parts plus)
filtered ((b ∷ bs) ∷ parts) blank plus =
    let rest = filtered parts (All-tail (All (λ b. is_blank b ≡ false)) (b ∷ bs) parts blank) (All-tail (All (λ b. is_plus b ≡ false)) (b ∷ bs) parts plus) in
    let word : IsWord (b ∷ bs) = record {
      some = omega arith;
      no_blank = All-head (All (λ b. is_blank b ≡ false)) (b ∷ bs) parts blank;
      no_plus = All-head (All (λ b. is_plus b ≡ false)) (b ∷ bs) parts plus;
    } in
    All-cons IsWord (b ∷ bs) (filter has_bytes parts) word rest

-- the runs of a part without `+` are words
pub runs_are_words : (part : List ℕ) → All (λ b. is_plus b ≡ false) part → All IsWord (runs part)
runs_are_words part lacks = filtered (slice_split is_blank part) (parts_lack is_blank part) (parts_keep (λ b. is_plus b ≡ false) is_blank part lacks)
