use Rattle.std.proofs.Common.{sym, ap, ◌∙◌, ◌++◌}
use Rattle.std.specs.Prelude.{codes}
use Rattle.idx_drill.proofs.DatasetLemmas.{mask_more}
use Rattle.idx_drill.proofs.dataset.mask_text.Goals as goal

pub loop-preserved : goal.loop-preserved
loop-preserved c = c.in_ok-append.ensures.ok ∙ ap (λ l. l ++ codes "012") c.loop.invariant ∙ sym (mask_more c.loop.counter)
