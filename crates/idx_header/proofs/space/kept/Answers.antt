use Rattle.std.proofs.Common.{sym, ◌∙◌, arith}
use Rattle.idx_header.proofs.BoxLemmas.{kept_front}
use Rattle.idx_header.proofs.space.kept.Goals as goal

pub returns-else-is_spare-clause-value : goal.returns-else-is_spare-clause-value
returns-else-is_spare-clause-value c =
    kept_front c.loop-kept.kept c.args.pairs.now c.args.mask.now c.loop-kept.invariant.few c.loop-kept.invariant.spare
    (λ some. sym c.is_spare.ensures ∙ c.if-is_spare.false)

pub returns-after-loop-kept-clause-value : goal.returns-after-loop-kept-clause-value
returns-after-loop-kept-clause-value c =
    kept_front c.loop-kept.kept c.args.pairs.now c.args.mask.now c.loop-kept.invariant.few c.loop-kept.invariant.spare
    (λ some. absurd (omega arith))
