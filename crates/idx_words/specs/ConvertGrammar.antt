-- The words of the command `convert`: DATASET RAW BOX FIELDS MASK BITS PERFILE TEMPLATE TIME STEP, and options.
use Rattle.std.specs.Prelude.{◌≡◌, ℕ, Bool, ◌==◌, ◌&&◌, not, List, ◌∷◌, slice_index, Some, IsTrue}
use Rattle.idx_text.specs.Number.{number_of}
use Rattle.idx_words.specs.ConvertValue.{ConvertValue}
use Rattle.idx_words.specs.Options.{AreOptions, convert_options, layout_of, ranks_of}
use Rattle.idx_words.specs.PathWord.{is_path}

-- the word is a text: like a path, and it does not begin with `(`, which is 40
unfoldable pub is_text : List ℕ → Bool
is_text word = is_path word && not (slice_index word 0 == 40)

-- the word is a text, and stands for itself
pub record IsText (word value : List ℕ) : Type 0 where
  pub text : IsTrue (is_text word)
  pub same : value ≡ word

-- the words are the options, which give how many ranks convert and the order of the samples of a block
pub record SpellsOptions (words : List (List ℕ)) (c : ConvertValue) : Type 0 where
  pub pairs : AreOptions convert_options words
  pub ranks : c.ranks ≡ ranks_of words
  pub layout : c.layout ≡ layout_of words

-- the eight words behind the paths spell these values, one by one, and the options the last two
pub record SpellConvert (extent fields mask bits per_file template time step : List ℕ) (options : List (List ℕ)) (c : ConvertValue) : Type 0 where
  pub extent_word : IsText extent c.extent
  pub fields_word : IsText fields c.fields
  pub mask_word : IsText mask c.mask
  pub bits_word : IsText bits c.bits
  pub per_file_word : IsText per_file c.per_file
  pub template_word : IsText template c.template
  pub time_word : IsText time c.time
  pub step_word : number_of step ≡ Some c.step
  pub option_words : SpellsOptions options c

-- the words behind the command are those of `convert`, which stand for these values
abbrev pub AreConvertWords : List (List ℕ) → ConvertValue → Type 0
AreConvertWords (dataset ∷ raw ∷ extent ∷ fields ∷ mask ∷ bits ∷ per_file ∷ template ∷ time ∷ step ∷ options) c =
    IsTrue (is_path dataset) × IsTrue (is_path raw) × SpellConvert extent fields mask bits per_file template time step options c
AreConvertWords _ c = ⊥
