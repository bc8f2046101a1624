use Rattle.std.proofs.Common.{eqb, ap, ◌∙◌}
use Rattle.std.specs.Cmp.Lexicographic.{pointwise}
use Rattle.idx_names.proofs.BuildLemmas.{is_dot_by}
use Rattle.idx_names.proofs.parts.is_dot.Goals as goal

pub returns : goal.returns
returns c = c.eq.ensures ∙ ap (pointwise eqb c.args.text.now) c.as_slice.ensures ∙ is_dot_by c.args.text.now
