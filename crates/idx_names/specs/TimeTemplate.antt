-- The template of the names of steps' folders: one part ended by `/`, in which one mark stands for the step's number.
use Rattle.std.specs.Prelude.{◌≡◌, ℕ, ◌-◌, ◌==◌, if◌then◌else◌, List, [], ◌∷◌, ◌++◌, length, slice_index, take, Option, Some, None, option_and_then}
use Rattle.std.specs.List.{flat_map}
use Rattle.idx_names.specs.declared.mark_kind.MarkKind.TheVariants.{Step}
use Rattle.idx_names.specs.declared.piece.Piece.{Piece}
use Rattle.idx_names.specs.declared.piece.Piece.TheVariants.{Byte, Mark}
use Rattle.idx_names.specs.Pieces.{pieces_of, pieces_text, mark_count}
use Rattle.idx_names.specs.Numeral.{decimal}

-- a time template: the pieces of a folder's name
pub record TimeTemplateValue : Type 0 where
  pub pieces : List Piece

-- the time template of these pieces, of which one is a mark
abbrev pub of_step_pieces : List Piece → Option TimeTemplateValue
of_step_pieces pieces = if mark_count pieces == 1 then Some (record { pieces = pieces }) else None

-- the time template that a text spells, if it spells one
unfoldable pub time_template_of : List ℕ → Option TimeTemplateValue
time_template_of text =
    if slice_index text (length text - 1) == 47
    then option_and_then of_step_pieces (pieces_of Step (take (length text - 1) text)) else None

-- the text of a time template
unfoldable pub time_template_text : TimeTemplateValue → List ℕ
time_template_text t = pieces_text Step t.pieces ++ 47 ∷ []

-- what is true of each time template: its text spells it
unfoldable pub IsTimeTemplate : TimeTemplateValue → Type 0
IsTimeTemplate t = time_template_of (time_template_text t) ≡ Some t

-- a piece of the name of a step's folder: the mark is the step's number in decimal
abbrev pub step_piece : ℕ → Piece → List ℕ
step_piece step (Byte b) = b ∷ []
step_piece step (Mark digits) = decimal digits step

-- these pieces of the name of a step's folder
unfoldable pub folder_text : ℕ → List Piece → List ℕ
folder_text step pieces = flat_map (step_piece step) pieces

-- the name of a step's folder
unfoldable pub folder_name : TimeTemplateValue → ℕ → List ℕ
folder_name t step = folder_text step t.pieces
