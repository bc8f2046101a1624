use Rattle.std.proofs.Common.{◌∙◌, sym, ap, Some}
use Rattle.std.specs.List.{before_first, after_first}
use Rattle.std.specs.Option.{option_and_then}
use Rattle.idx_fields.specs.Base.{base_of}
use Rattle.idx_fields.specs.FieldType.{is_star, is_opening, before_closing, count_of, type_with}
use Rattle.idx_fields.proofs.TypeLemmas.{type_of-star, type_of-opening, type_of-plain}
use Rattle.idx_fields.proofs.field_type.read_type.Goals as goal

pub returns-in-Some : goal.returns-in-Some
returns-in-Some c =
    let word = c.args.word.now in
    let parts = c.in-Some.ensures in
    let base = c.read_base.ensures ∙ ap base_of parts.2 in
    let count = c.read_count.ensures ∙ ap count_of parts.1 in
    c.type_with.ensures ∙ ap (λ b. type_with b c.read_count.result) base ∙ ap (type_with (base_of (after_first is_star word))) count
    ∙ sym (type_of-star word parts.0)

pub returns-in-Some-split_at : goal.returns-in-Some-split_at
returns-in-Some-split_at c =
    let word = c.args.word.now in
    let parts = c.in-Some-split_at.ensures in
    let base = c.read_base-in-Some-split_at.ensures ∙ ap base_of parts.1 in
    let count = c.read_closed.ensures ∙ ap (λ t. option_and_then count_of (before_closing t)) parts.2 in
    c.type_with-in-Some-split_at.ensures ∙ ap (λ b. type_with b c.read_closed.result) base
    ∙ ap (type_with (base_of (before_first is_opening word))) count ∙ sym (type_of-opening word c.in_default.ensures parts.0)

pub returns : goal.returns
returns c =
    let word = c.args.word.now in
    c.type_with-2.ensures ∙ ap (λ b. type_with b (Some 1)) c.read_base-2.ensures
    ∙ sym (type_of-plain word c.in_default.ensures c.in_default-split_at.ensures)
