use Rattle.std.proofs.Common.{◌≡◌, ◌++◌, take}
use Rattle.idx_fields.specs.Field.{spaced}
use Rattle.idx_fields.proofs.stored_field.append_spaced.Given as goal

abbrev pub invariant-loop-word : goal.invariant-loop-word
invariant-loop-word l = l.out ≡ l.initial.out ++ spaced (take l.word-index l.words)
