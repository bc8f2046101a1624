use Rattle.std.proofs.Common.{◌≡◌, [], ◌∷◌, ◌++◌, List, ℕ, OnOk, ap, ◌∙◌, subst}
use Rattle.idx_text.specs.Entries.{entry_text}
use Rattle.idx_names.specs.Template.{template_text}
use Rattle.idx_header.specs.declared.key.Key.TheVariants as keys
use Rattle.idx_header.specs.Written.{entry, template_line}
use Rattle.idx_header.proofs.write.write_template.Goals as goal

pub returns : goal.returns
returns c =
    let written : c.as_slice.result.now ≡ template_line c.args.template.now =
    c.as_slice.ensures ∙ c.in_ok-write.ensures.ok ∙ ap (λ text. text ++ template_text c.args.template.now) c.in_ok-line.ensures in
    subst
    (λ (line : List ℕ). OnOk c.write_entry.result
    (c.write_entry.new.out ≡ c.args.out.now ++ entry_text (entry keys.FilenameTemplate (line ∷ []))))
    written c.write_entry.ensures
