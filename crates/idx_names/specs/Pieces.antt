-- A part of a template, cut into pieces: bytes that stand for themselves, and marks, in whose place a number is written.
use Rattle.std.specs.Prelude.{ℕ, zero, suc, ◌≤◌, Bool, true, false, IsTrue, ◌+◌, ◌-◌, ◌*◌, ◌==◌, ◌&&◌, ◌||◌, nat_le, if◌then◌else◌, List, [], ◌∷◌, length, filter, slice_index, Option, Some, None, option_and_then}
use Rattle.std.specs.List.{flat_map, list_all}
use Rattle.idx_names.specs.declared.mark_kind.MarkKind.{MarkKind}
use Rattle.idx_names.specs.declared.mark_kind.MarkKind.TheVariants.{File, Step}
use Rattle.idx_names.specs.declared.piece.Piece.{Piece}
use Rattle.idx_names.specs.declared.piece.Piece.TheVariants.{Byte, Mark}

-- the base in which a mark's number is written: a file's in hexadecimal, a step's in decimal
abbrev pub mark_base : MarkKind → ℕ
mark_base File = 16
mark_base Step = 10

-- the letter of a mark: `%0Nx` for a file's number, `%0Nd` for a step's
abbrev pub mark_letter : MarkKind → ℕ
mark_letter File = 120
mark_letter Step = 100

-- the most digits that a mark may ask for, which its one digit N says: 1 to 8 for a file's, 1 to 9 for a step's
abbrev pub most_digits : MarkKind → ℕ
most_digits File = 8
most_digits Step = 9

-- a letter, a digit, `_`, `-` or `.`
abbrev pub is_plain : ℕ → Bool
is_plain b =
    (nat_le 97 b && nat_le b 122) || (nat_le 65 b && nat_le b 90) || (nat_le 48 b && nat_le b 57)
    || (b == 95) || (b == 45) || (b == 46)

-- the text begins with a mark: `%`, `0`, its digit and its letter
abbrev pub begins_mark : MarkKind → List ℕ → Bool
begins_mark kind text =
    (slice_index text 0 == 37) && (slice_index text 1 == 48)
    && (nat_le 49 (slice_index text 2) && nat_le (slice_index text 2) (48 + most_digits kind)) && (slice_index text 3 == mark_letter kind)

-- the piece that the text begins with
unfoldable pub first_piece : MarkKind → List ℕ → Option Piece
first_piece kind text =
    if is_plain (slice_index text 0) then Some (Byte (slice_index text 0))
    else if begins_mark kind text then Some (Mark (slice_index text 2 - 48)) else None

-- how many bytes a piece has behind its first one
abbrev pub bytes_behind : Piece → ℕ
bytes_behind (Byte b) = 0
bytes_behind (Mark digits) = 3

abbrev pub with_first : {A : Type 0} → A → Option (List A) → Option (List A)
with_first a rest = option_and_then (λ as'. Some (a ∷ as')) rest

-- the pieces of a text, of which the first so many bytes belong to a piece before it
unfoldable pub pieces_behind : MarkKind → List ℕ → ℕ → Option (List Piece)
pieces_behind kind [] skip = Some []
pieces_behind kind (b ∷ text) (suc skip) = pieces_behind kind text skip
pieces_behind kind (b ∷ text) zero =
    option_and_then (λ piece. with_first piece (pieces_behind kind text (bytes_behind piece))) (first_piece kind (b ∷ text))

-- the pieces of a text, if each byte stands for itself or belongs to a mark
abbrev pub pieces_of : MarkKind → List ℕ → Option (List Piece)
pieces_of kind text = pieces_behind kind text 0

-- the text is so many dots
abbrev pub is_dots : ℕ → List ℕ → Bool
is_dots count text = (length text == count) && list_all (λ b. b == 46) text

-- the pieces of a part, which is neither empty nor two dots
unfoldable pub part_of : MarkKind → List ℕ → Option (List Piece)
part_of kind part = if is_dots 0 part || is_dots 2 part then None else pieces_of kind part

-- the text of a piece
abbrev pub piece_text : MarkKind → Piece → List ℕ
piece_text kind (Byte b) = b ∷ []
piece_text kind (Mark digits) = 37 ∷ 48 ∷ (digits + 48) ∷ mark_letter kind ∷ []

-- the text of some pieces
unfoldable pub pieces_text : MarkKind → List Piece → List ℕ
pieces_text kind pieces = flat_map (piece_text kind) pieces

-- how many bits of a number the piece takes: four for each digit of a mark
abbrev pub piece_bits : Piece → ℕ
piece_bits (Byte b) = 0
piece_bits (Mark digits) = 4 * digits

-- how many bits of a number the pieces take
abbrev pub bits_of : List Piece → ℕ
bits_of [] = 0
bits_of (piece ∷ pieces) = piece_bits piece + bits_of pieces

abbrev pub is_mark : Piece → Bool
is_mark (Byte b) = false
is_mark (Mark digits) = true

-- how many of the pieces are marks
abbrev pub mark_count : List Piece → ℕ
mark_count pieces = length (filter is_mark pieces)

-- some piece is a mark
abbrev pub has_mark : List Piece → Bool
has_mark pieces = nat_le 1 (mark_count pieces)

-- what is true of each piece of a template, in which `/` stands between two parts
abbrev pub IsPiece : MarkKind → Piece → Type 0
IsPiece kind (Byte b) = IsTrue (is_plain b || (b == 47))
IsPiece kind (Mark digits) = (1 ≤ digits) × (digits ≤ most_digits kind)

-- a byte of a word: it prints, and is no blank
abbrev pub IsWordByte : ℕ → Type 0
IsWordByte b = (33 ≤ b) × (b ≤ 126)
