use Rattle.std.proofs.Common.{◌≡◌, take}
use Rattle.idx_header.specs.Written.{box_text}
use Rattle.idx_header.proofs.write.box_text.Given as goal

abbrev pub invariant-loop-axis : goal.invariant-loop-axis
invariant-loop-axis l = l.text ≡ box_text (take l.axis l.region)
