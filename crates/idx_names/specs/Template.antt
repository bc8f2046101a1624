-- The template of the names of files: parts separated by `/`, in which marks stand for the digits of a file's number.
use Rattle.std.specs.Prelude.{◌≡◌, ℕ, ◌^◌, ◌<◌, ◌==◌, ◌&&◌, not, nat_le, if◌then◌else◌, List, [], ◌∷◌, ◌++◌, map, filter, Option, Some, None, option_and_then}
use Rattle.std.specs.List.{slice_split}
use Rattle.idx_names.specs.declared.mark_kind.MarkKind.TheVariants.{File}
use Rattle.idx_names.specs.declared.piece.Piece.{Piece}
use Rattle.idx_names.specs.declared.piece.Piece.TheVariants.{Byte}
use Rattle.idx_names.specs.Pieces.{part_of, is_dots, pieces_text, mark_count, has_mark, bits_of, with_first}

-- A template by where a step's folder goes: the text of the parts before the first part with a mark, each with the `/`
-- behind it, and the pieces of the other parts, with a `/` between two parts.
pub record TemplateValue : Type 0 where
  pub above : List ℕ
  pub pieces : List Piece

-- all of the parts, or none where one of them is missing
abbrev pub all_parts : List (Option (List Piece)) → Option (List (List Piece))
all_parts [] = Some []
all_parts (part ∷ parts) = option_and_then (λ pieces. with_first pieces (all_parts parts)) part

-- the parts that a text spells: parts that are a single dot are dropped
unfoldable pub parts_of : List ℕ → Option (List (List Piece))
parts_of text = all_parts (map (part_of File) (filter (λ part. not (is_dots 1 part)) (slice_split (λ b. b == 47) text)))

-- the text of the parts before the first part with a mark, each with the `/` behind it
abbrev pub above_marks : List (List Piece) → List ℕ
above_marks [] = []
above_marks (part ∷ parts) = if has_mark part then [] else pieces_text File part ++ 47 ∷ above_marks parts

-- the pieces of parts with a `/` between two of them
abbrev pub joined_behind : List Piece → List (List Piece) → List Piece
joined_behind part [] = part
joined_behind part (next ∷ parts) = part ++ Byte 47 ∷ joined_behind next parts

-- the pieces from the first part with a mark on
abbrev pub from_marks : List (List Piece) → List Piece
from_marks [] = []
from_marks (part ∷ parts) = if has_mark part then joined_behind part parts else from_marks parts

-- a template has 1 to 5 marks in all
abbrev pub with_marks : TemplateValue → Option TemplateValue
with_marks t = if nat_le 1 (mark_count t.pieces) && nat_le (mark_count t.pieces) 5 then Some t else None

-- the template of these parts
unfoldable pub of_parts : List (List Piece) → Option TemplateValue
of_parts parts = with_marks (record { above = above_marks parts; pieces = from_marks parts })

-- the template that a text spells, if it spells one
unfoldable pub template_of : List ℕ → Option TemplateValue
template_of text = option_and_then of_parts (parts_of text)

-- the text of a template: its parts joined by `/`
unfoldable pub template_text : TemplateValue → List ℕ
template_text t = t.above ++ pieces_text File t.pieces

-- what is true of each template: its text spells it
unfoldable pub IsTemplate : TemplateValue → Type 0
IsTemplate t = template_of (template_text t) ≡ Some t

-- how many bits a file's number may have
unfoldable pub room : TemplateValue → ℕ
room t = bits_of t.pieces

-- the file's number fits
abbrev pub Fits : TemplateValue → ℕ → Type 0
Fits t file = file < 2 ^ room t
