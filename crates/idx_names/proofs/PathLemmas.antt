-- Paths, one piece after another.
use Rattle.std.proofs.Common.{◌≡◌, ℕ, ◌+◌, ◌/◌, ◌^◌, ◌<◌, ◌≤◌, List, [], ◌∷◌, ◌++◌, length, get_or, take, drop, refl, sym, ap, ◌∙◌, append-nil}
use Rattle.std.proofs.lemmas.Grind.{flat_map-append}
use Rattle.std.proofs.lemmas.List.{take_more, drop_more, drop_all}
use Rattle.idx_names.specs.declared.piece.Piece.{Piece}
use Rattle.idx_names.specs.Pieces.{piece_bits, bits_of}
use Rattle.idx_names.specs.TimeTemplate.{step_piece, folder_text}
use Rattle.idx_names.specs.Path.{file_piece, bits_left, numbered}

pub folder_none : (step : ℕ) → folder_text step [] ≡ []
unfolding folder_text
folder_none step = refl

pub folder_more : (step : ℕ) (xs : List Piece) (i : ℕ) (d : Piece) → i < length xs →
    folder_text step (take (i + 1) xs) ≡ folder_text step (take i xs) ++ step_piece step (get_or xs i d)
unfolding folder_text
folder_more step xs i d inside =
    ap (folder_text step) (take_more xs i d inside)
    ∙ flat_map-append (step_piece step) (take i xs) (get_or xs i d ∷ [])
    ∙ ap (λ t. folder_text step (take i xs) ++ t) (append-nil (step_piece step (get_or xs i d)))

pub numbered_none : (n : ℕ) → numbered [] n ≡ []
unfolding numbered
numbered_none n = refl

numbered_cons : (p : Piece) (ps : List Piece) (n : ℕ) →
    numbered (p ∷ ps) n ≡ file_piece p (n / 2 ^ bits_of ps) ++ numbered ps (bits_left p n (bits_of ps))
unfolding numbered
numbered_cons p ps n = refl

-- at the end nothing is left to write
pub numbered_end : (xs : List Piece) (i n : ℕ) → length xs ≤ i → numbered (drop i xs) n ≡ []
numbered_end xs i n all = ap (λ ps. numbered ps n) (drop_all i xs all) ∙ numbered_none n

module _ (xs : List Piece) (i : ℕ) (d : Piece) (inside : i < length xs) where
  pub bits_at : bits_of (drop i xs) ≡ piece_bits (get_or xs i d) + bits_of (drop (i + 1) xs)
  bits_at = ap bits_of (drop_more xs i d inside)

  -- the piece here, and those behind it
  pub numbered_at : (n bits high left : ℕ) → bits ≡ bits_of (drop (i + 1) xs) → high ≡ n / 2 ^ bits →
      left ≡ bits_left (get_or xs i d) n bits →
      file_piece (get_or xs i d) high ++ numbered (drop (i + 1) xs) left ≡ numbered (drop i xs) n
  numbered_at n bits high left is high_is left_is =
      let p : Piece = get_or xs i d in
      let ps : List Piece = drop (i + 1) xs in
      ap (λ h. file_piece p h ++ numbered ps left) (high_is ∙ ap (λ b. n / 2 ^ b) is)
      ∙ ap (λ l. file_piece p (n / 2 ^ bits_of ps) ++ numbered ps l) (left_is ∙ ap (bits_left p n) is)
      ∙ sym (ap (λ rest. numbered rest n) (drop_more xs i d inside) ∙ numbered_cons p ps n)
