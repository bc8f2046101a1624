-- What the lines of a header hold: keys, each with its value. A key line begins with `(` and ends with `)`, and the key is
-- what stands between. Its value is the lines behind it up to the next key line or the end, blank lines left out, joined
-- by one space. Lines in front of the first key line are passed over. Lines are counted from 1, and blank lines count.
use Rattle.std.specs.Prelude.{◌≡◌, true, ℕ, Bool, ◌+◌, ◌-◌, ◌==◌, ◌&&◌, cond, List, [], ◌∷◌, length, take, drop, slice_index}
use Rattle.std.specs.List.{join_with_byte}
use Rattle.idx_text.specs.Numbers.{has_bytes}
use Rattle.idx_text.specs.Trim.{trimmed}
use Rattle.idx_text.specs.Lines.{trimmed_lines, is_text_line}
use Rattle.idx_text.specs.declared.section.Section.{Section}

-- a trimmed line that is a key line; 40 and 41 are the parentheses
abbrev pub is_key_line : List ℕ → Bool
is_key_line line = (slice_index line 0 == 40) && (slice_index line (length line - 1) == 41)

-- what stands between the parentheses
abbrev pub key_in : List ℕ → List ℕ
key_in line = take (length line - 2) (drop 1 line)

-- the lines up to the next key line, blank lines left out
abbrev pub value_lines : List (List ℕ) → List (List ℕ)
value_lines [] = []
value_lines (line ∷ lines) = cond (is_key_line line) [] (cond (has_bytes line) (line ∷ value_lines lines) (value_lines lines))

-- these lines as one value; 32 is the space
abbrev pub value_in : List (List ℕ) → List ℕ
value_in lines = join_with_byte 32 (value_lines lines)

-- the keys of these lines, of which the first has this number
abbrev pub sections_from : ℕ → List (List ℕ) → List Section
sections_from number [] = []
sections_from number (line ∷ lines) =
    cond (is_key_line line)
    (record { line = number; key = key_in line; value = value_in lines } ∷ sections_from (number + 1) lines)
    (sections_from (number + 1) lines)

-- the keys of a text
unfoldable pub sections : List ℕ → List Section
sections text = sections_from 1 (trimmed_lines text)

-- no byte of a key or its value may not stand in a text, and no blank stands at an end of the value
pub record IsTextSection (s : Section) : Type 0 where
  pub key : is_text_line s.key ≡ true
  pub value : is_text_line s.value ≡ true
  pub trimmed : trimmed s.value ≡ s.value
