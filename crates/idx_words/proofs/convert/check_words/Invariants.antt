use Rattle.std.proofs.Common.{map, string_bytes}
use Rattle.idx_words.specs.declared.convert_word.ConvertWord.TheVariants as words
use Rattle.idx_words.proofs.RightLemmas.{AreRightBelow}
use Rattle.idx_words.proofs.ConvertLemmas.{order, IsRightAt}
use Rattle.idx_words.proofs.convert.check_words.Given as goal

abbrev pub invariant-loop-word : goal.invariant-loop-word
invariant-loop-word l = AreRightBelow IsRightAt words.Dataset l.word-index order (map string_bytes l.words)
