use Rattle.std.proofs.Common.{ap, ◌∙◌}
use Rattle.idx_text.specs.declared.section.Section.{Section}
use Rattle.idx_text.specs.Lines.{is_text_line}
use Rattle.idx_header.specs.declared.key.Key.TheVariants as keys
use Rattle.idx_header.proofs.FieldTexts.{fields-of-text, section-text}
use Rattle.idx_header.proofs.field_list.read_fields.Goals as goal

pub returns-in-Ok-clause-texts : goal.returns-in-Ok-clause-texts
returns-in-Ok-clause-texts c =
    let same = c.as_slice.ensures ∙ ap (λ (s : Section). s.value) c.standing-fields.ensures in
    fields-of-text c.as_slice.result.now c.in-Ok.list
    (ap is_text_line same ∙ section-text keys.Fields c.args.sections.now c.requires.texts) c.in-Ok.ensures.ok
