use Rattle.std.proofs.Common.{◌≡◌, ◌++◌, length}
use Rattle.idx_text.specs.Numbers.{runs}
use Rattle.idx_fields.proofs.stored_field.words.Given as goal

abbrev pub invariant-loop-word : goal.invariant-loop-word
invariant-loop-word l = l.words.items ++ runs l.left ≡ runs l.text

abbrev pub decreases-loop-word : goal.decreases-loop-word
decreases-loop-word l = length l.left
