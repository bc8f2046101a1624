-- Places of words, over any grammar.
use Rattle.std.proofs.Common.{◌≡◌, ℕ, zero, suc, ◌+◌, ◌<◌, ◌≤◌, List, ◌∷◌, ◌++◌, length, take, drop, sym, ap, ◌∙◌, subst, arith, append_assoc, ⊎_elim}
use Rattle.std.proofs.lemmas.Bool.{cases_lt}
use Rattle.std.proofs.lemmas.List.{take-append-drop, take-take, take_all}
use Rattle.idx_words.specs.Place.{SomeListBegins, IsPlace}

-- the list is not of the grammar, and its first word that is wrong or missing is at this place
pub record Fault (G : List (List ℕ) → Type 0) (ws : List (List ℕ)) (at : ℕ) : Type 0 where
  pub place : IsPlace G ws at
  pub none : ¬ G ws

-- the place of a fault is one
pub IsPlace-once : (G : List (List ℕ) → Type 0) (words : List (List ℕ)) (a b : ℕ) → IsPlace G words a → IsPlace G words b → a ≡ b
IsPlace-once G words a b here there = ⊎_elim
    (λ (less : a < b). absurd (here.wrong (omega (arith, there.within)) (there.before a less)))
    (λ (most : b ≤ a). ⊎_elim
    (λ (more : b < a). absurd (there.wrong (omega (arith, here.within)) (here.before b more)))
    (λ (same : a ≤ b). omega arith)
    (cases_lt b a))
    (cases_lt a b)

-- a list that begins with some words begins with the first of them
pub SomeListBegins-less : (G : List (List ℕ) → Type 0) (words : List (List ℕ)) (m n : ℕ) → m ≤ n → SomeListBegins G words n → SomeListBegins G words m
SomeListBegins-less G words m n less h =
    let parts : take m words ++ drop m (take n words) ≡ take n words = ap (λ t. t ++ drop m (take n words)) (sym (take-take m n words less)) ∙ take-append-drop m (take n words) in
    (drop m (take n words) ++ h.0, subst G (ap (λ t. t ++ h.0) (sym parts) ∙ append_assoc (take m words) (drop m (take n words)) h.0) h.1)

-- the first word behind those that begin some list, if none begins with it too
pub IsPlace-at : (G : List (List ℕ) → Type 0) (words : List (List ℕ)) (at : ℕ) → at ≤ length words →
    SomeListBegins G words at → (at < length words → ¬ SomeListBegins G words (at + 1)) → IsPlace G words at
IsPlace-at G words at within begun wrong = record {
  within = within;
  before = λ k less. SomeListBegins-less G words (k + 1) at (omega arith) begun;
  wrong = wrong;
}

-- the first word
pub IsPlace-first : (G : List (List ℕ) → Type 0) (words : List (List ℕ)) → (0 < length words → ¬ SomeListBegins G words 1) → IsPlace G words 0
IsPlace-first G words wrong = record {
  within = omega arith;
  before = λ k less. absurd (omega arith);
  wrong = wrong;
}

-- One word more stands in front: H has behind it the lists of G, and there is one.
pub IsPlace-behind : (G H : List (List ℕ) → Type 0) (word : List ℕ) (words : List (List ℕ)) (at : ℕ) →
    ((list : List (List ℕ)) → G list → H (word ∷ list)) → ((list : List (List ℕ)) → H (word ∷ list) → G list) →
    SomeListBegins G words 0 → IsPlace G words at → IsPlace H (word ∷ words) (at + 1)
IsPlace-behind G H word words at longer shorter some h = record {
  within = omega (arith, h.within);
  before = begun;
  wrong = λ within begins.
      let next : at + 1 + 1 ≡ suc (at + 1) = omega arith in
      h.wrong (omega arith) (behind (at + 1) (subst (SomeListBegins H (word ∷ words)) next begins));
}
  where
    -- the first words of the longer list are the word and the first of those behind it
    behind : (k : ℕ) → SomeListBegins H (word ∷ words) (suc k) → SomeListBegins G words k
    behind k begins = (begins.0, shorter (take k words ++ begins.0) begins.1)

    before : (k : ℕ) → SomeListBegins G words k → SomeListBegins H (word ∷ words) (suc k)
    before k begins = (begins.0, longer (take k words ++ begins.0) begins.1)

    begun : (k : ℕ) → k < at + 1 → SomeListBegins H (word ∷ words) (k + 1)
    begun zero less = before zero some
    begun (suc k) less =
        let next : suc (k + 1) ≡ suc k + 1 = omega arith in
        subst (SomeListBegins H (word ∷ words)) next (before (k + 1) (h.before k (omega arith)))

-- grammars with the same lists have the same places
pub IsPlace-same : (G H : List (List ℕ) → Type 0) (words : List (List ℕ)) (at : ℕ) →
    ((list : List (List ℕ)) → G list → H list) → ((list : List (List ℕ)) → H list → G list) → IsPlace G words at → IsPlace H words at
IsPlace-same G H words at to from h = record {
  within = h.within;
  before = λ k less. let begins = h.before k less in (begins.0, to (take (k + 1) words ++ begins.0) begins.1);
  wrong = λ less begins. h.wrong less (begins.0, from (take (at + 1) words ++ begins.0) begins.1);
}

-- a narrower grammar, of which some list begins with each list of the wider one
pub IsPlace-narrower : (G H : List (List ℕ) → Type 0) (words : List (List ℕ)) (at : ℕ) → ((list : List (List ℕ)) → H list → G list) →
    ((list : List (List ℕ)) → G list → (rest : List (List ℕ)) × H (list ++ rest)) → IsPlace G words at → IsPlace H words at
IsPlace-narrower G H words at wider longer h = record {
  within = h.within;
  before = λ k less.
      let begins = h.before k less in
      let more = longer (take (k + 1) words ++ begins.0) begins.1 in
      (begins.0 ++ more.0, subst H (append_assoc (take (k + 1) words) begins.0 more.0) more.1);
  wrong = λ less begins. h.wrong less (begins.0, wider (take (at + 1) words ++ begins.0) begins.1);
}

-- and the end of a list of the wider one that is not of the narrower
pub IsPlace-end : (G H : List (List ℕ) → Type 0) (words : List (List ℕ)) → ((list : List (List ℕ)) → G list → (rest : List (List ℕ)) × H (list ++ rest)) → G words →
    IsPlace H words (length words)
IsPlace-end G H words longer are =
    let more = longer words are in
    IsPlace-at H words (length words) (omega arith) (more.0, subst (λ list. H (list ++ more.0)) (sym (take_all (length words) words (omega arith))) more.1)
    (λ less. absurd (omega arith))
