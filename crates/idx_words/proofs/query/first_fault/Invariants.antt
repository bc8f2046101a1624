use Rattle.std.proofs.Common.{map, string_bytes}
use Rattle.idx_words.specs.declared.query_word.QueryWord.TheVariants as words
use Rattle.idx_words.specs.QueryWord.{IsRightAt}
use Rattle.idx_words.proofs.RightLemmas.{AreRightBelow}
use Rattle.idx_words.proofs.QueryLemmas.{order}
use Rattle.idx_words.proofs.query.first_fault.Given as goal

abbrev pub invariant-loop-word : goal.invariant-loop-word
invariant-loop-word l = AreRightBelow IsRightAt words.Dataset l.word-index order (map string_bytes l.words)
