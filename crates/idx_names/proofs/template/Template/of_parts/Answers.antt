use Rattle.std.proofs.Common.{◌≡◌, ◌≤◌, ap, ◌∙◌, arith}
use Rattle.std.proofs.lemmas.Bool.Decides.{nat_tests}
use Rattle.idx_names.specs.Pieces.{mark_count}
use Rattle.idx_names.proofs.BuildLemmas.{is_template}
use Rattle.idx_names.proofs.template.Template.of_parts.Goals as goal

pub invariant_of-result : goal.invariant_of-result
invariant_of-result c =
    let count : c.mark_count.result ≡ mark_count c.args.parts.pieces.items = c.mark_count.ensures ∙ ap mark_count c.deref.ensures.value in
    let some : 1 ≤ mark_count c.args.parts.pieces.items = grind (arith, nat_tests) in
    let few : mark_count c.args.parts.pieces.items ≤ 5 = grind (arith, nat_tests) in
    is_template c.args.parts.above c.args.parts.pieces.items c.requires some few
