-- The numbers of the runs between blanks, one run after another.
use Rattle.std.proofs.Common.{◌≡◌, ℕ, ◌+◌, ◌<◌, ◌≤◌, List, [], ◌∷◌, ◌++◌, length, get_or, drop, map, filter, Option, Some, None, option_and_then, refl, sym, ap, ◌∙◌, arith, append_assoc, length-append, append-nil}
use Rattle.std.proofs.lemmas.List.{drop_more, drop_all}
use Rattle.idx_text.specs.Number.{number_of}
use Rattle.idx_text.specs.Numbers.{all_of, has_bytes}
use Rattle.std.proofs.lemmas.Option.{same_Some}

-- the numbers of these parts
abbrev pub numbers_in : List (List ℕ) → Option (List ℕ)
numbers_in parts = all_of (map number_of (filter has_bytes parts))

-- a number before others
abbrev before : Option ℕ → Option (List ℕ) → Option (List ℕ)
before n rest = option_and_then (λ first. option_and_then (λ ns. Some (first ∷ ns)) rest) n

-- the numbers so far, and those that are left
abbrev pub behind : List ℕ → Option (List ℕ) → Option (List ℕ)
behind front rest = option_and_then (λ ns. Some (front ++ ns)) rest

-- the numbers so far, and those of the parts from this place on
abbrev pub with_rest : List ℕ → List (List ℕ) → ℕ → Option (List ℕ)
with_rest front parts at = behind front (numbers_in (drop at parts))

numbers_in-skip : (run : List ℕ) (parts : List (List ℕ)) → length run ≡ 0 → numbers_in (run ∷ parts) ≡ numbers_in parts
numbers_in-skip [] parts e = refl
numbers_in-skip (b ∷ bs) parts e = absurd (omega arith)

numbers_in-run : (run : List ℕ) (parts : List (List ℕ)) → 0 < length run → numbers_in (run ∷ parts) ≡ before (number_of run) (numbers_in parts)
numbers_in-run [] parts e = absurd (omega arith)
numbers_in-run (b ∷ bs) parts e = refl

behind-push : (front : List ℕ) (n : ℕ) (rest : Option (List ℕ)) → behind front (before (Some n) rest) ≡ behind (front ++ n ∷ []) rest
behind-push front n None = refl
behind-push front n (Some ns) = ap Some (sym (append_assoc front (n ∷ []) ns))

-- a number behind ten others is the eleventh
behind-ten : (front : List ℕ) (n : Option ℕ) (rest : Option (List ℕ)) (ns : List ℕ) → length front ≡ 10 → behind front (before n rest) ≡ Some ns → 10 < length ns
behind-ten front None rest ns ten e = cc
behind-ten front (Some n) None ns ten e = cc
behind-ten front (Some n) (Some more) ns ten e =
    let all : front ++ n ∷ more ≡ ns = same_Some _ _ e in
    let count : length (front ++ n ∷ more) ≡ length ns = ap length all in
    omega (arith, simp length-append at count)

module _ (front : List ℕ) (parts : List (List ℕ)) (at : ℕ) (run : List ℕ) (inside : at < length parts) (here : run ≡ get_or parts at run) where
  next : drop at parts ≡ run ∷ drop (at + 1) parts
  next = drop_more parts at run inside ∙ ap (λ r. r ∷ drop (at + 1) parts) (sym here)

  -- an empty run is passed over
  pub with_rest-skip : length run ≡ 0 → with_rest front parts (at + 1) ≡ with_rest front parts at
  with_rest-skip none = ap (behind front) (sym (ap numbers_in next ∙ numbers_in-skip run (drop (at + 1) parts) none))

  parted : 0 < length run → numbers_in (drop at parts) ≡ before (number_of run) (numbers_in (drop (at + 1) parts))
  parted some = ap numbers_in next ∙ numbers_in-run run (drop (at + 1) parts) some

  -- a number goes to the front
  pub with_rest-push : (n : ℕ) → 0 < length run → number_of run ≡ Some n → with_rest (front ++ n ∷ []) parts (at + 1) ≡ with_rest front parts at
  with_rest-push n some reads =
      let rest : Option (List ℕ) = numbers_in (drop (at + 1) parts) in
      sym (ap (behind front) (parted some ∙ ap (λ m. before m rest) reads) ∙ behind-push front n rest)

  -- where a run is no number, nothing is read
  pub with_rest-none : 0 < length run → number_of run ≡ None → with_rest front parts at ≡ None
  with_rest-none some reads =
      let rest : Option (List ℕ) = numbers_in (drop (at + 1) parts) in
      ap (behind front) (parted some ∙ ap (λ m. before m rest) reads)

  -- a number behind ten others is one too many
  pub with_rest-full : (ns : List ℕ) → 0 < length run → length front ≡ 10 → with_rest front parts at ≡ Some ns → 10 < length ns
  with_rest-full ns some ten e =
      let rest : Option (List ℕ) = numbers_in (drop (at + 1) parts) in
      behind-ten front (number_of run) rest ns ten (sym (ap (behind front) (parted some)) ∙ e)

-- at the end the numbers so far are all
pub with_rest-end : (front : List ℕ) (parts : List (List ℕ)) (at : ℕ) → length parts ≤ at → with_rest front parts at ≡ Some front
with_rest-end front parts at all =
    ap (λ left. behind front (numbers_in left)) (drop_all at parts all) ∙ ap Some (append-nil front)

-- at the start all are left
pub with_rest-start : (parts : List (List ℕ)) → with_rest [] parts 0 ≡ numbers_in parts
with_rest-start parts = behind-nil (numbers_in parts)
  where
    behind-nil : (rest : Option (List ℕ)) → behind [] rest ≡ rest
    behind-nil None = refl
    behind-nil (Some ns) = refl
