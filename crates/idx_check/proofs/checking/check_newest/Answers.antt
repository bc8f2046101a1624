use Rattle.std.proofs.Common.{◌≡◌, ap, ◌∙◌}
use Rattle.std.specs.Prelude.{Ok}
use Rattle.idx_check.specs.declared.verdict.Verdict.TheVariants.{Same}
use Rattle.idx_check.proofs.checking.check_newest.Goals as goal

pub returns-clause-whole : goal.returns-clause-whole
returns-clause-whole g c = λ files bytes is.
    let said : c.in_ok-check_step.field-0 ≡ Same files bytes = cc is in
    c.check_step.ensures.whole files bytes (c.in_ok-check_step.was ∙ ap Ok said)
