-- The header text that the words of `convert` ask for: the canonical layout with the texts as they were given as values.
use Rattle.std.specs.Prelude.{◌≡◌, ◌⊎◌, ℕ, List, [], ◌∷◌, codes}
use Rattle.idx_text.specs.BoxText.{SpellsRegion}
use Rattle.idx_text.specs.Entries.{entries_text}
use Rattle.idx_hz.specs.Guess.{CanGuess, guessed_mask}
use Rattle.idx_hz.specs.MaskText.{mask_text}
use Rattle.idx_header.specs.declared.key.Key.TheVariants as keys
use Rattle.idx_header.specs.Written.{entry}
use Rattle.idx_words.specs.ConvertValue.{ConvertValue}

-- the text with these bits
unfoldable pub built_with : ConvertValue → List ℕ → List ℕ
built_with c bits =
    entries_text (
    entry keys.Version (codes "6" ∷ [])
    ∷ entry keys.Box (c.extent ∷ [])
    ∷ entry keys.Fields (c.fields ∷ [])
    ∷ entry keys.Bits (bits ∷ [])
    ∷ entry keys.BitsPerBlock (c.bits ∷ [])
    ∷ entry keys.BlocksPerFile (c.per_file ∷ [])
    ∷ entry keys.FilenameTemplate (c.template ∷ [])
    ∷ entry keys.Time (c.time ∷ [])
    ∷ [])

-- the words leave the mask to be guessed
abbrev pub IsAuto : ConvertValue → Type 0
IsAuto c = c.mask ≡ codes "auto"

-- a mask can be guessed of the box that the words give
pub record Guesses (c : ConvertValue) (box : List (ℕ × ℕ)) : Type 0 where
  pub spelled : SpellsRegion c.extent box
  pub can : CanGuess box

-- The bits are those that the words give; or those that are guessed of the box; or V alone, where there are none to guess.
abbrev pub IsBits : ConvertValue → List ℕ → Type 0
IsBits c bits =
    ((¬ IsAuto c) × (bits ≡ c.mask))
    ⊎ ((IsAuto c × ((box : List (ℕ × ℕ)) × (Guesses c box × (bits ≡ mask_text (guessed_mask box)))))
    ⊎ (IsAuto c × ((box : List (ℕ × ℕ)) → ¬ Guesses c box) × (bits ≡ codes "V")))

-- the header text that the words ask for
pub record IsBuilt (c : ConvertValue) (text : List ℕ) : Type 0 where
  pub bits : List ℕ
  pub are : IsBits c bits
  pub with_bits : text ≡ built_with c bits
