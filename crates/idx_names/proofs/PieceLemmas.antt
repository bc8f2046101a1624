-- Pieces: equal ones, and the bits that they take.
use Rattle.std.proofs.Common.{◌≡◌, ℕ, ◌+◌, ◌*◌, ◌/◌, ◌^◌, ◌<◌, ◌≤◌, eqb, List, [], ◌∷◌, ◌++◌, length, take, drop, take-append-drop, append-nil, get_or, refl, sym, ap, ◌∙◌, arith}
use Rattle.std.proofs.lemmas.List.{take_more}
use Rattle.std.proofs.lemmas.Nat.{shr-shr, pow_pos}
use Rattle.std.proofs.Math.Nat.{div-eq_of_lt, div-lt_iff_lt-mul}
use Rattle.std.specs.Bool.{Decides}
use Rattle.std.proofs.lemmas.Bool.{eqb-true, eq-eqb}
use Rattle.idx_names.specs.contracts.piece.PiecePartialEq.TheImpl.{ghosts}
use Rattle.std.proofs.lemmas.Grind.{flat_map-append}
use Rattle.idx_names.specs.declared.mark_kind.MarkKind.{MarkKind}
use Rattle.idx_names.specs.declared.piece.Piece.{Piece}
use Rattle.idx_names.specs.declared.piece.Piece.TheVariants.{Byte, Mark}
use Rattle.idx_names.specs.Pieces.{piece_text, pieces_text, piece_bits, bits_of}

pub equal_pieces : (a b : Piece) → Decides (ghosts.eq a b) (a ≡ b)
equal_pieces (Byte m) (Byte n) = (
  λ t. ap Byte (eqb-true m n t),
  λ e. let same : m ≡ n = cc e in eq-eqb m n same,
)
equal_pieces (Mark m) (Mark n) = (
  λ t. ap Mark (eqb-true m n t),
  λ e. let same : m ≡ n = cc e in eq-eqb m n same,
)
equal_pieces _ _ = (λ t. absurd (cc t), λ e. absurd (cc e))

pub bits_of-append : (xs ys : List Piece) → bits_of (xs ++ ys) ≡ bits_of xs + bits_of ys
bits_of-append [] ys = omega arith
bits_of-append (x ∷ xs) ys = let rest = bits_of-append xs ys in omega (arith, rest)

pub bits_more : (xs : List Piece) (i : ℕ) (d : Piece) → i < length xs →
    bits_of (take (i + 1) xs) ≡ bits_of (take i xs) + piece_bits (get_or xs i d)
bits_more xs i d inside =
    ap bits_of (take_more xs i d inside) ∙ bits_of-append (take i xs) (get_or xs i d ∷ []) ∙ omega arith

-- the bits of a piece are among those of all
pub bits_within : (xs : List Piece) (i : ℕ) → bits_of (take i xs) ≤ bits_of xs
bits_within xs i =
    let parts : bits_of xs ≡ bits_of (take i xs) + bits_of (drop i xs) =
    ap bits_of (sym (take-append-drop i xs)) ∙ bits_of-append (take i xs) (drop i xs) in
    omega (arith, parts)

-- one more piece, and its text
pub text_more : (kind : MarkKind) (xs : List Piece) (i : ℕ) (d : Piece) → i < length xs →
    pieces_text kind (take (i + 1) xs) ≡ pieces_text kind (take i xs) ++ piece_text kind (get_or xs i d)
unfolding pieces_text
text_more kind xs i d inside =
    ap (pieces_text kind) (take_more xs i d inside)
    ∙ flat_map-append (piece_text kind) (take i xs) (get_or xs i d ∷ [])
    ∙ ap (λ t. pieces_text kind (take i xs) ++ t) (append-nil (piece_text kind (get_or xs i d)))

pub text_none : (kind : MarkKind) → pieces_text kind [] ≡ []
unfolding pieces_text
text_none kind = refl

-- one more piece shifts out its bits
pub shifted_more : (xs : List Piece) (i : ℕ) (d : Piece) (file left : ℕ) → i < length xs → left ≡ file / 2 ^ bits_of (take i xs) →
    left / 2 ^ piece_bits (get_or xs i d) ≡ file / 2 ^ bits_of (take (i + 1) xs)
shifted_more xs i d file left inside is =
    let parts = bits_more xs i d inside in
    ap (λ n. n / 2 ^ piece_bits (get_or xs i d)) is ∙ shr-shr file (bits_of (take i xs)) (piece_bits (get_or xs i d)) ∙ ap (λ n. file / 2 ^ n) (sym parts)

-- nothing is left exactly where the number fits
pub nothing_left : (left file bits : ℕ) → left ≡ file / 2 ^ bits → Decides (eqb left 0) (file < 2 ^ bits)
nothing_left left file bits is =
    let some : 0 < 2 ^ bits = pow_pos bits in
    let law = div-lt_iff_lt-mul {x = file} {y = 1} some in (
      λ t. let e : left ≡ 0 = eqb-true left 0 t in let f : file < 1 * 2 ^ bits = law.0 (omega arith) in omega arith,
      λ below. let e : file / 2 ^ bits ≡ 0 = div-eq_of_lt below in eq-eqb left 0 (is ∙ e),
    )
