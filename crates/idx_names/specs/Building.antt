-- A template as its parts come one after another.
use Rattle.std.specs.Prelude.{◌≡◌, ℕ, if◌then◌else◌, List, [], ◌∷◌, ◌++◌, Some}
use Rattle.idx_names.specs.declared.mark_kind.MarkKind.TheVariants.{File}
use Rattle.idx_names.specs.declared.piece.Piece.{Piece}
use Rattle.idx_names.specs.declared.piece.Piece.TheVariants.{Byte}
use Rattle.idx_names.specs.Pieces.{pieces_text, has_mark}
use Rattle.idx_names.specs.Template.{parts_of, above_marks, from_marks}

-- the pieces from the first part with a mark on, with one more part
abbrev pub more_pieces : List Piece → List Piece → List Piece
more_pieces [] part = if has_mark part then part else []
more_pieces (piece ∷ pieces) part = (piece ∷ pieces) ++ Byte 47 ∷ part

-- the text that one more part adds above the first part with a mark
abbrev pub more_above : List Piece → List Piece → List ℕ
more_above [] part = if has_mark part then [] else pieces_text File part ++ 47 ∷ []
more_above (piece ∷ pieces) part = []

-- these are of the parts that some text spells
pub record AreOfParts (above : List ℕ) (pieces : List Piece) : Type 0 where
  pub text : List ℕ
  pub parts : List (List Piece)
  pub spelled : parts_of text ≡ Some parts
  pub above_is : above ≡ above_marks parts
  pub pieces_is : pieces ≡ from_marks parts
