use Rattle.std.proofs.Common.{◌≡◌, ◌++◌, ◌∙◌, ap, subst}
use Rattle.idx_fields.specs.Field.{Field, field_text, spaced}
use Rattle.idx_fields.proofs.FieldLemmas.{field_text-pieces}
use Rattle.idx_fields.proofs.stored_field.StoredField.text.Goals as goal

pub returns : goal.returns
returns c =
    let kept = c.self.inside in
    let field : Field = record { name = kept.name; base = kept.base; count = kept.count; attributes = kept.attributes.items } in
    let text = c.append_spaced.new.out in
    let pieces : text ≡ field_text field =
    field_text-pieces field _ _ _ text (c.in_ok-text.ensures ∙ c.as_slice.ensures) c.in_ok-push.ensures.ok c.in_ok-append_type.ensures
    (c.in_ok-append_spaced.ensures ∙ ap (λ t. c.append_type.new.out ++ spaced t) c.deref.ensures.value) in
    subst (λ (f : Field). text ≡ field_text f) c.self.view_is pieces
