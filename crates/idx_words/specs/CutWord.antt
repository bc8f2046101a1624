-- The places of the words behind the command `cut`, counted from 0, and of the end behind them.
use Rattle.std.specs.Prelude.{ℕ, List}
use Rattle.idx_words.specs.declared.cut_word.CutWord.{CutWord}
use Rattle.idx_words.specs.declared.cut_word.CutWord.TheVariants as words
use Rattle.idx_words.specs.WordAt.{word_at}

abbrev pub place_of : CutWord → ℕ
place_of words.Raw = 0
place_of words.Size = 1
place_of words.Extent = 2
place_of words.Mask = 3
place_of words.Region = 4
place_of words.Lo = 5
place_of words.Hi = 6
place_of words.End = 7

-- the word of a list
abbrev pub word_of : List (List ℕ) → CutWord → List ℕ
word_of words word = word_at words (place_of word)
