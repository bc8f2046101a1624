-- The lines of a text. A line feed (10) ends a line, so that a final one begins no further line, and an empty text has no
-- lines. One carriage return (13) at the end of a line belongs to the line's end.
use Rattle.std.specs.Prelude.{ℕ, Bool, ◌+◌, ◌==◌, ◌&&◌, ◌||◌, nat_le, not, cond, List, [], ◌∷◌, map, Option, Some, None}
use Rattle.std.specs.List.{onto_first, list_all}
use Rattle.std.specs.Str.Lines.{strip_carriage_return}
use Rattle.idx_text.specs.Trim.{trimmed}

-- what stands in front of each line feed, and behind the last one where that is something
abbrev pub parts : List ℕ → List (List ℕ)
parts [] = []
parts (b ∷ bs) = cond (b == 10) ([] ∷ parts bs) (onto_first b (parts bs))

-- the lines, without their ends
unfoldable pub lines : List ℕ → List (List ℕ)
lines text = map strip_carriage_return (parts text)

-- A byte that may stand in a line: a tab (9), and each from the space on but the byte 7f. Bytes from 80 on are right.
abbrev pub is_text : ℕ → Bool
is_text b = (nat_le 0x20 b && not (b == 0x7f)) || (b == 9)

-- each byte of the line may stand there
abbrev pub is_text_line : List ℕ → Bool
is_text_line line = list_all is_text line

-- of these lines, the first of which has this number, the number of the first with a byte that may not stand there
abbrev pub wrong_line_from : ℕ → List (List ℕ) → Option ℕ
wrong_line_from number [] = None
wrong_line_from number (line ∷ lines) = cond (is_text_line line) (wrong_line_from (number + 1) lines) (Some number)

-- the number of the first line of a text with a byte that may not stand there
abbrev pub wrong_line : List ℕ → Option ℕ
wrong_line text = wrong_line_from 1 (lines text)

-- the lines without the blanks at their ends
abbrev pub trimmed_lines : List ℕ → List (List ℕ)
trimmed_lines text = map trimmed (lines text)
