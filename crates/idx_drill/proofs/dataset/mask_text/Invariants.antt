use Rattle.std.proofs.Common.{◌≡◌}
use Rattle.idx_hz.specs.MaskText.{mask_text}
use Rattle.idx_drill_model.specs.Drill.{drill_mask}
use Rattle.idx_drill.proofs.dataset.mask_text.Given as goal

abbrev pub invariant-loop : goal.invariant-loop
invariant-loop l = l.text ≡ mask_text (drill_mask l.counter)
