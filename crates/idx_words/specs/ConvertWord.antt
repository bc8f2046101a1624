-- The places of the words behind the command `convert`, counted from 0, and which words are right there.
use Rattle.std.specs.Prelude.{ℕ, Bool, List}
use Rattle.std.specs.Option.{is_some}
use Rattle.idx_text.specs.Number.{number_of}
use Rattle.idx_words.specs.declared.convert_word.ConvertWord.{ConvertWord}
use Rattle.idx_words.specs.declared.convert_word.ConvertWord.TheVariants as words
use Rattle.idx_words.specs.ConvertGrammar.{is_text}
use Rattle.idx_words.specs.PathWord.{is_path}

abbrev pub place_of : ConvertWord → ℕ
place_of words.Dataset = 0
place_of words.Raw = 1
place_of words.Extent = 2
place_of words.Fields = 3
place_of words.Mask = 4
place_of words.Bits = 5
place_of words.PerFile = 6
place_of words.Template = 7
place_of words.Time = 8
place_of words.Step = 9

-- the word is right at this place
abbrev pub is_right_at : ConvertWord → List ℕ → Bool
is_right_at words.Dataset word = is_path word
is_right_at words.Raw word = is_path word
is_right_at words.Extent word = is_text word
is_right_at words.Fields word = is_text word
is_right_at words.Mask word = is_text word
is_right_at words.Bits word = is_text word
is_right_at words.PerFile word = is_text word
is_right_at words.Template word = is_text word
is_right_at words.Time word = is_text word
is_right_at words.Step word = is_some (number_of word)
