use Rattle.std.proofs.Common.{◌≡◌, take}
use Rattle.idx_hz.specs.MaskText.{mask_text}
use Rattle.idx_header.proofs.write.mask_text.Given as goal

abbrev pub invariant-loop-i : goal.invariant-loop-i
invariant-loop-i l = l.text ≡ mask_text (take l.i l.mask)
