-- The paths of files and of steps' folders.
use Rattle.std.specs.Prelude.{ℕ, zero, suc, ◌/◌, ◌%◌, ◌^◌, List, [], ◌∷◌, ◌++◌, Option, Some, None}
use Rattle.idx_names.specs.declared.piece.Piece.{Piece}
use Rattle.idx_names.specs.declared.piece.Piece.TheVariants.{Byte, Mark}
use Rattle.idx_names.specs.Numeral.{hexadecimal, decimal}
use Rattle.idx_names.specs.Pieces.{bits_of}
use Rattle.idx_names.specs.Template.{TemplateValue}
use Rattle.idx_names.specs.TimeTemplate.{TimeTemplateValue, folder_name}

-- a piece of a file's path, with a number in the place of a mark: hexadecimal, with at least the mark's digits
abbrev pub file_piece : Piece → ℕ → List ℕ
file_piece (Byte b) number = b ∷ []
file_piece (Mark digits) number = hexadecimal digits number

-- what is left of a number behind a piece: so many of its lowest bits behind a mark
abbrev pub bits_left : Piece → ℕ → ℕ → ℕ
bits_left (Byte b) number bits = number
bits_left (Mark digits) number bits = number % 2 ^ bits

-- The pieces with the digits of a file's number: the marks behind a mark take the lower bits, each four for a digit, and
-- the mark takes all bits above them.
unfoldable pub numbered : List Piece → ℕ → List ℕ
numbered [] file = []
numbered (piece ∷ pieces) file =
    file_piece piece (file / 2 ^ bits_of pieces) ++ numbered pieces (bits_left piece file (bits_of pieces))

-- what stands behind the name of a step's folder: nothing at revision 0, else `.r` and the revision in decimal
abbrev pub revision_mark : ℕ → List ℕ
revision_mark zero = []
revision_mark (suc r) = 46 ∷ 114 ∷ decimal 1 (suc r)

-- the path of the folder of a step at a revision: the parts before the first part with a mark, the folder's name, and
-- what the revision puts behind it
unfoldable pub step_folder : TemplateValue → TimeTemplateValue → ℕ → ℕ → List ℕ
step_folder t time step revision = t.above ++ (folder_name time step ++ revision_mark revision)

-- the path of a file, in the folder of a step at a revision where there is one
unfoldable pub file_path : TemplateValue → Option (TimeTemplateValue × ℕ × ℕ) → ℕ → List ℕ
file_path t None file = t.above ++ numbered t.pieces file
file_path t (Some (time, step, revision)) file = step_folder t time step revision ++ 47 ∷ numbered t.pieces file
