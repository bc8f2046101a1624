use Rattle.std.proofs.Common.{◌≡◌, length}
use Rattle.idx_text.specs.Trim.{from_first_word}
use Rattle.idx_text.proofs.trim.trim_start.Given as goal

abbrev pub invariant-loop-rest : goal.invariant-loop-rest
invariant-loop-rest l = from_first_word l.rest ≡ from_first_word l.text

abbrev pub decreases-loop-rest : goal.decreases-loop-rest
decreases-loop-rest l = length l.rest
