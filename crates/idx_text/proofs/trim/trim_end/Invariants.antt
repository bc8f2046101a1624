use Rattle.std.proofs.Common.{◌≡◌, length}
use Rattle.idx_text.specs.Trim.{to_last_word}
use Rattle.idx_text.proofs.trim.trim_end.Given as goal

abbrev pub invariant-loop-rest : goal.invariant-loop-rest
invariant-loop-rest l = to_last_word l.rest ≡ to_last_word l.text

abbrev pub decreases-loop-rest : goal.decreases-loop-rest
decreases-loop-rest l = length l.rest
