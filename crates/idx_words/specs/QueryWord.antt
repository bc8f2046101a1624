-- The places of the words behind the command `query`, counted from 0, and which words are right there.
use Rattle.std.specs.Prelude.{ℕ, List, IsTrue}
use Rattle.std.specs.Option.{is_some}
use Rattle.idx_text.specs.Number.{number_of}
use Rattle.idx_text.specs.BoxText.{SpellsRegion}
use Rattle.idx_words.specs.declared.query_word.QueryWord.{QueryWord}
use Rattle.idx_words.specs.declared.query_word.QueryWord.TheVariants as words
use Rattle.idx_words.specs.PathWord.{is_path}
use Rattle.idx_words.specs.QueryGrammar.{SpellsLevel}

abbrev pub place_of : QueryWord → ℕ
place_of words.Dataset = 0
place_of words.Time = 1
place_of words.Field = 2
place_of words.Region = 3
place_of words.Lo = 4
place_of words.Hi = 5

-- the word is right at this place
abbrev pub IsRightAt : QueryWord → List ℕ → Type 0
IsRightAt words.Dataset word = IsTrue (is_path word)
IsRightAt words.Time word = IsTrue (is_some (number_of word))
IsRightAt words.Field word = IsTrue (is_path word)
IsRightAt words.Region word = (region : List (ℕ × ℕ)) × SpellsRegion word region
IsRightAt words.Lo word = (level : ℕ) × SpellsLevel word level
IsRightAt words.Hi word = (level : ℕ) × SpellsLevel word level
