-- How the keys of a text grow as its lines are read: what the lines still to come add to the keys so far.
use Rattle.std.proofs.Common.{◌≡◌, ◌⊎◌, ℕ, ◌+◌, Bool, true, false, cond, List, [], ◌∷◌, ◌++◌, fold, refl, sym, ap, ◌∙◌, append_assoc, append-nil, inl, inr}
use Rattle.std.specs.List.{join_with_byte}
use Rattle.idx_text.specs.Numbers.{has_bytes}
use Rattle.idx_text.specs.declared.section.Section.{Section}
use Rattle.idx_text.specs.Growing.{continued, IsExtended, WithLine}
use Rattle.idx_text.specs.Sections.{is_key_line, key_in, value_lines, value_in, sections_from}

-- a value with more lines
abbrev pub with_lines : List ℕ → List (List ℕ) → List ℕ
with_lines value more = fold continued value more

-- the last key with more lines
abbrev pub grown : Section → List (List ℕ) → Section
grown s more = record { line = s.line; key = s.key; value = with_lines s.value more }

-- the keys, of which the last has more lines
pub closed : List Section → List (List ℕ) → List Section
closed [] more = []
closed (s ∷ []) more = grown s more ∷ []
closed (s ∷ t ∷ ss) more = s ∷ closed (t ∷ ss) more

closed-snoc : (front : List Section) (last : Section) (more : List (List ℕ)) → closed (front ++ last ∷ []) more ≡ front ++ grown last more ∷ []
unfolding closed
closed-snoc [] last more = refl
closed-snoc (s ∷ []) last more = refl
closed-snoc (s ∷ t ∷ ss) last more = ap (λ r. s ∷ r) (closed-snoc (t ∷ ss) last more)

-- a list is empty, or has a last element
pub snoc : (xs : List Section) → (xs ≡ []) ⊎ ((front : List Section) × ((last : Section) × (xs ≡ front ++ last ∷ [])))
snoc [] = inl refl
snoc (x ∷ xs) = elim (snoc xs) [ inl e ↦ inr ([], (x, ap (λ t. x ∷ t) e)) | inr h ↦ inr (x ∷ h.0, (h.1.0, ap (λ t. x ∷ t) h.1.1)) ]

pub closed-none : (ss : List Section) → closed ss [] ≡ ss
unfolding closed
closed-none [] = refl
closed-none (s ∷ []) = refl
closed-none (s ∷ t ∷ ss) = ap (λ r. s ∷ r) (closed-none (t ∷ ss))

pub closed-nil : (more : List (List ℕ)) → closed [] more ≡ []
unfolding closed
closed-nil more = refl

join-more : (b : ℕ) (bs line : List ℕ) (more : List (List ℕ)) →
    join_with_byte 32 (((b ∷ bs) ++ 32 ∷ line) ∷ more) ≡ (b ∷ bs) ++ 32 ∷ join_with_byte 32 (line ∷ more)
join-more b bs line [] = refl
join-more b bs line (m ∷ ms) = append_assoc (b ∷ bs) (32 ∷ line) (32 ∷ join_with_byte 32 (m ∷ ms))

with_lines-some : (b : ℕ) (bs : List ℕ) (more : List (List ℕ)) → with_lines (b ∷ bs) more ≡ join_with_byte 32 ((b ∷ bs) ∷ more)
with_lines-some b bs [] = refl
with_lines-some b bs (line ∷ more) = with_lines-some b (bs ++ 32 ∷ line) more ∙ join-more b bs line more

-- lines with no empty one among them
AllSome : List (List ℕ) → Type 0
AllSome [] = Unit {0}
AllSome (line ∷ more) = (has_bytes line ≡ true) × AllSome more

with_lines-none : (more : List (List ℕ)) → AllSome more → with_lines [] more ≡ join_with_byte 32 more
unfolding AllSome
with_lines-none [] h = refl
with_lines-none ([] ∷ more) h = cc
with_lines-none ((b ∷ bs) ∷ more) h = with_lines-some b bs more

some-line : (key some : Bool) (line : List ℕ) (more : List (List ℕ)) → some ≡ has_bytes line → AllSome more →
    AllSome (cond key [] (cond some (line ∷ more) more))
unfolding AllSome
some-line true some line more e h = tt
some-line false true line more e h = (sym e, h)
some-line false false line more e h = h

value_lines-some : (lines : List (List ℕ)) → AllSome (value_lines lines)
unfolding AllSome
value_lines-some [] = tt
value_lines-some (line ∷ lines) = some-line (is_key_line line) (has_bytes line) line (value_lines lines) refl (value_lines-some lines)

-- the value of a key that has just been read
fresh : (lines : List (List ℕ)) → with_lines [] (value_lines lines) ≡ value_in lines
fresh lines = with_lines-none (value_lines lines) (value_lines-some lines)

-- what the lines to come make of the keys so far
abbrev pub in_all : List Section → ℕ → List (List ℕ) → List Section
in_all sections number lines = closed sections (value_lines lines) ++ sections_from number lines

module _ (old new : List Section) (number : ℕ) (line : List ℕ) (lines : List (List ℕ)) where
  abbrev before : Bool → Bool → List Section
  before key some = closed old (cond key [] (cond some (line ∷ value_lines lines) (value_lines lines)))
      ++ cond key (record { line = number; key = key_in line; value = value_in lines } ∷ sections_from (number + 1) lines) (sections_from (number + 1) lines)

  extended : IsExtended old new line → closed old (line ∷ value_lines lines) ≡ closed new (value_lines lines)
  extended h = elim (snoc old) [
    | inl none ↦ ap (λ ss. closed ss (line ∷ value_lines lines)) none ∙ closed-nil (line ∷ value_lines lines)
        ∙ sym (ap (λ ss. closed ss (value_lines lines)) (h.none none) ∙ closed-nil (value_lines lines))
    | inr s ↦
        let last : Section = s.1.0 in
        let next : Section = record { line = last.line; key = last.key; value = continued last.value line } in
        ap (λ ss. closed ss (line ∷ value_lines lines)) s.1.1 ∙ closed-snoc s.0 last (line ∷ value_lines lines)
        ∙ sym (ap (λ ss. closed ss (value_lines lines)) (h.some s.0 last s.1.1) ∙ closed-snoc s.0 next (value_lines lines))
  ]

  keyed : new ≡ old ++ record { line = number; key = key_in line; value = [] } ∷ [] → before true true ≡ in_all new (number + 1) lines
  keyed e =
      let rest : List Section = sections_from (number + 1) lines in
      let made : Section = record { line = number; key = key_in line; value = value_in lines } in
      let opened : Section = record { line = number; key = key_in line; value = [] } in
      let is : grown opened (value_lines lines) ≡ made = ap (λ v. record { line = number; key = key_in line; value = v }) (fresh lines) in
      ap (λ ss. ss ++ made ∷ rest) (closed-none old)
      ∙ sym (append_assoc old (made ∷ []) rest)
      ∙ sym (ap (λ ss. closed ss (value_lines lines) ++ rest) e ∙ ap (λ ss. ss ++ rest) (closed-snoc old opened (value_lines lines))
      ∙ ap (λ s. (old ++ s ∷ []) ++ rest) is)

  cases : (key some : Bool) → key ≡ is_key_line line → some ≡ has_bytes line →
      cond key (new ≡ old ++ record { line = number; key = key_in line; value = [] } ∷ []) (cond some (IsExtended old new line) (new ≡ old)) →
      before key some ≡ in_all new (number + 1) lines
  cases true some k s h = keyed h
  cases false true k s h = ap (λ ss. ss ++ sections_from (number + 1) lines) (extended h)
  cases false false k s h = ap (λ ss. closed ss (value_lines lines) ++ sections_from (number + 1) lines) (sym h)

  -- one line more
  pub with_line : WithLine old new number line → in_all old number (line ∷ lines) ≡ in_all new (number + 1) lines
  with_line h = cases (is_key_line line) (has_bytes line) refl refl h

-- at the end nothing is added
pub in_all-end : (ss : List Section) (number : ℕ) → in_all ss number [] ≡ ss
in_all-end ss number = append-nil (closed ss []) ∙ closed-none ss
