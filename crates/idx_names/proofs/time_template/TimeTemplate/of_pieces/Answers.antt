use Rattle.std.proofs.Common.{◌≡◌, ap, ◌∙◌, sym}
use Rattle.idx_names.specs.Pieces.{mark_count}
use Rattle.idx_names.proofs.TimeLemmas.{made_one}
use Rattle.idx_names.proofs.time_template.TimeTemplate.of_pieces.Goals as goal

pub invariant_of-result : goal.invariant_of-result
invariant_of-result c =
    let one : mark_count c.args.pieces.items ≡ 1 = ap mark_count (sym c.deref.ensures.value) ∙ sym c.mark_count.ensures ∙ c.if-mark_count-eq1.true in
    (made_one c.args.pieces.items c.requires one).1
