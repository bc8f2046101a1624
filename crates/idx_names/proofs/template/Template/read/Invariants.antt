use Rattle.std.proofs.Common.{length}
use Rattle.idx_names.proofs.BuildLemmas.{ReadSoFar}
use Rattle.idx_names.proofs.template.Template.read.Given as goal

abbrev pub invariant-loop-part : goal.invariant-loop-part
invariant-loop-part l = ReadSoFar l.text (length l.yielded) l.parts.above l.parts.pieces.items
