use Rattle.std.proofs.Common.{ap, ◌∙◌, ◌++◌, ◌∷◌, [], ◌≤◌, arith}
use Rattle.idx_events.specs.declared.event.Event.TheVariants.{Read}
use Rattle.idx_drill.proofs.EventLemmas.{blocks-more}
use Rattle.idx_drill.proofs.events.load_blocks.Goals as goal

pub loop-block-preserved : goal.loop-block-preserved
loop-block-preserved c =
    let low : c.args.first ≤ c.loop-block.block = omega arith in
    c.in_ok-push.ensures.items ∙ ap (λ l. l ++ Read c.args.query c.loop-block.block ∷ []) c.loop-block.invariant
    ∙ blocks-more c.args.query c.args.first c.loop-block.block c.args.events.now.items low
