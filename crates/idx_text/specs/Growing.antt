-- How the keys of a text grow as its lines are read.
use Rattle.std.specs.Prelude.{◌≡◌, ℕ, cond, List, [], ◌∷◌, ◌++◌}
use Rattle.idx_text.specs.Numbers.{has_bytes}
use Rattle.idx_text.specs.declared.section.Section.{Section}
use Rattle.idx_text.specs.Sections.{is_key_line, key_in}

-- a value with one more line
abbrev pub continued : List ℕ → List ℕ → List ℕ
continued [] line = line
continued (b ∷ bs) line = (b ∷ bs) ++ 32 ∷ line

-- the value of the last key has one more line, if there is a key
pub record IsExtended (old new : List Section) (line : List ℕ) : Type 0 where
  pub none : old ≡ [] → new ≡ []
  pub some : (front : List Section) (last : Section) → old ≡ front ++ last ∷ [] →
      new ≡ front ++ record { line = last.line; key = last.key; value = continued last.value line } ∷ []

-- the keys with one more line
abbrev pub WithLine : List Section → List Section → ℕ → List ℕ → Type 0
WithLine old new number line =
    cond (is_key_line line) (new ≡ old ++ record { line = number; key = key_in line; value = [] } ∷ [])
    (cond (has_bytes line) (IsExtended old new line) (new ≡ old))
