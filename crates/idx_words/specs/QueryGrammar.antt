-- The words of the command `query`: DATASET TIME FIELD REGION LO HI, and an option.
use Rattle.std.specs.Prelude.{◌≡◌, ℕ, ◌<◌, ◌^◌, List, ◌∷◌, Some, IsTrue}
use Rattle.idx_text.specs.Number.{number_of}
use Rattle.idx_text.specs.BoxText.{SpellsRegion}
use Rattle.idx_words.specs.Options.{AreOptions, cache_of, query_options}
use Rattle.idx_words.specs.PathWord.{is_path}
use Rattle.idx_words.specs.QueryValue.{QueryValue}

-- the word is a name, which is spelled as a path is, and stands for itself
pub record IsName (word value : List ℕ) : Type 0 where
  pub name : IsTrue (is_path word)
  pub same : value ≡ word

-- the word is the number of a level, which has at most 32 binary digits
pub record SpellsLevel (word : List ℕ) (level : ℕ) : Type 0 where
  pub number : number_of word ≡ Some level
  pub small : level < 2 ^ 32

-- the words are the options, which give how many blocks the cache keeps at most
pub record SpellsCache (words : List (List ℕ)) (blocks : ℕ) : Type 0 where
  pub pairs : AreOptions query_options words
  pub same : blocks ≡ cache_of words

-- the five words behind the path spell these values, one by one, and the options the last
pub record SpellQuery (time field region lo hi : List ℕ) (options : List (List ℕ)) (c : QueryValue) : Type 0 where
  pub time_word : number_of time ≡ Some c.time
  pub field_word : IsName field c.field
  pub region_word : SpellsRegion region c.region
  pub lo_word : SpellsLevel lo c.lo
  pub hi_word : SpellsLevel hi c.hi
  pub cache_word : SpellsCache options c.cache

-- the words behind the command are those of `query`, which stand for these values
abbrev pub AreQueryWords : List (List ℕ) → QueryValue → Type 0
AreQueryWords (dataset ∷ time ∷ field ∷ region ∷ lo ∷ hi ∷ options) c = IsTrue (is_path dataset) × SpellQuery time field region lo hi options c
AreQueryWords _ c = ⊥
