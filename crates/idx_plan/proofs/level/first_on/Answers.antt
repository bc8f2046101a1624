use Rattle.std.proofs.Common.{sym, ◌∙◌}
use Rattle.idx_plan.proofs.RootLemmas.{first_digit}
use Rattle.idx_plan.proofs.level.first_on.Goals as goal

pub overflow_shl-result : goal.overflow_shl-result
overflow_shl-result c =
    (first_digit c.args.mask.now c.args.level c.args.axis c.args.behind c.requires.coarsest c.requires.deepest c.axis.ensures.valid.few (sym c.axis.ensures.value ∙ c.if-axis.true) c.requires.behind).0

pub returns-then-axis : goal.returns-then-axis
returns-then-axis c =
    (first_digit c.args.mask.now c.args.level c.args.axis c.args.behind c.requires.coarsest c.requires.deepest c.axis.ensures.valid.few (sym c.axis.ensures.value ∙ c.if-axis.true) c.requires.behind).1
