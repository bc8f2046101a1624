use Rattle.std.proofs.Common.{◌+◌, sym, ap, ◌∙◌}
use Rattle.idx_scatter.proofs.SideLemmas.{count-with, count-without}
use Rattle.idx_scatter.proofs.side.up_to.Goals as goal

pub returns-then-earlier-clause-value : goal.returns-then-earlier-clause-value
returns-then-earlier-clause-value c = λ s k bs are within.
    let near = c.before-earlier.ensures.value s k bs are within in
    ap (λ n. n + 1) near.count ∙ sym (count-with s k bs c.args.place within (sym near.lies ∙ c.if-earlier.true))

pub returns-else-earlier-clause-value : goal.returns-else-earlier-clause-value
returns-else-earlier-clause-value c = λ s k bs are within.
    let near = c.before-earlier.ensures.value s k bs are within in
    near.count ∙ sym (count-without s k bs c.args.place within (sym near.lies ∙ c.if-earlier.false))
