use Rattle.std.proofs.Common.{eqb, ◌||◌, sym, ap, ◌∙◌}
use Rattle.std.specs.Cmp.Lexicographic.{pointwise}
use Rattle.idx_names.specs.Pieces.{is_dots}
use Rattle.idx_names.proofs.BuildLemmas.{two_dots_by, empty_by}
use Rattle.idx_names.proofs.parts.is_refused.Goals as goal

pub returns-else-is_empty : goal.returns-else-is_empty
returns-else-is_empty c =
    c.eq.ensures ∙ ap (pointwise eqb c.args.text.now) c.as_slice.ensures ∙ two_dots_by c.args.text.now
    ∙ ap (λ b. b || is_dots 2 c.args.text.now) (sym c.if-is_empty.false ∙ c.is_empty.ensures ∙ empty_by c.args.text.now)
