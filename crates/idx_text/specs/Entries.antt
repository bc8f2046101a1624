-- Keys with the lines of their values, as they are written: a key line, and behind it the lines. A line feed ends each.
use Rattle.std.specs.Prelude.{◌≡◌, ℕ, ◌+◌, true, false, List, [], ◌∷◌, ◌++◌, length, flat_map, All}
use Rattle.std.specs.List.{join_with_byte}
use Rattle.idx_text.specs.Numbers.{has_bytes}
use Rattle.idx_text.specs.Trim.{trimmed}
use Rattle.idx_text.specs.Lines.{is_text_line}
use Rattle.idx_text.specs.Sections.{is_key_line}
use Rattle.idx_text.specs.declared.section.Section.{Section}

-- a key with the lines of its value
pub record Entry : Type 0 where
  pub key : List ℕ
  pub lines : List (List ℕ)

-- the line of a key
abbrev pub key_line : List ℕ → List ℕ
key_line key = 40 ∷ key ++ 41 ∷ []

-- lines, each ended by a line feed
abbrev pub lines_text : List (List ℕ) → List ℕ
lines_text lines = flat_map (λ line. line ++ 10 ∷ []) lines

-- the text of a key with its value
abbrev pub entry_text : Entry → List ℕ
entry_text e = lines_text (key_line e.key ∷ e.lines)

-- the text of these keys
abbrev pub entries_text : List Entry → List ℕ
entries_text entries = flat_map entry_text entries

-- a line of a value that is read back as it stands
pub record IsValueLine (line : List ℕ) : Type 0 where
  pub some : has_bytes line ≡ true
  pub text : is_text_line line ≡ true
  pub trimmed : trimmed line ≡ line
  pub value : is_key_line line ≡ false

-- a key that is read back as it stands
pub record IsEntry (e : Entry) : Type 0 where
  pub key : is_text_line e.key ≡ true
  pub lines : All IsValueLine e.lines

-- the sections of these keys, of which the first stands on this line
abbrev pub numbered : ℕ → List Entry → List Section
numbered line [] = []
numbered line (e ∷ entries) =
    record { line = line; key = e.key; value = join_with_byte 32 e.lines } ∷ numbered (line + 1 + length e.lines) entries
