use Rattle.std.proofs.Common.{◌∙◌, sym, ap, eq-eqb, eqb-true}
use Rattle.std.proofs.lemmas.Bool.{false_from_ne_true}
use Rattle.std.specs.Option.{option_and_then}
use Rattle.idx_fields.specs.FieldType.{count_of}
use Rattle.idx_fields.proofs.TypeLemmas.{closing-no, closing-yes}
use Rattle.idx_fields.proofs.field_type.read_closed.Goals as goal

pub returns-then-last-ne93 : goal.returns-then-last-ne93
returns-then-last-ne93 c =
    let other = false_from_ne_true _ (λ e. c.if-last-ne93.true (eqb-true _ 93 e)) in
    sym (ap (option_and_then count_of) (closing-no c.args.word.now c.in-len1-up.len_at_least other))

pub returns : goal.returns
returns c =
    let here = eq-eqb _ 93 c.if-last-ne93.false in
    c.read_count.ensures ∙ sym (ap (option_and_then count_of) (closing-yes c.args.word.now c.in-len1-up.len_at_least here))
