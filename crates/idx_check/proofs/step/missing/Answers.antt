use Rattle.std.proofs.Common.{None, true, false, sym, ◌∙◌}
use Rattle.idx_layout.specs.OfHeader.{placing_of}
use Rattle.idx_check.proofs.StepLemmas.{length_unwritten, wrong_by}
use Rattle.idx_check.proofs.step.missing.Goals as goal

pub returns-then-is_written-clause-found : goal.returns-then-is_written-clause-found
returns-then-is_written-clause-found c =
    wrong_by (placing_of c.args.header.now) c.args.file true None (sym c.is_written.ensures.value ∙ c.if-is_written.true)

pub returns-else-is_written-clause-found : goal.returns-else-is_written-clause-found
returns-else-is_written-clause-found c =
    wrong_by (placing_of c.args.header.now) c.args.file false None (sym c.is_written.ensures.value ∙ c.if-is_written.false)

pub returns-else-is_written-clause-none : goal.returns-else-is_written-clause-none
returns-else-is_written-clause-none c = λ none.
    length_unwritten (placing_of c.args.header.now) c.args.file (sym c.is_written.ensures.value ∙ c.if-is_written.false)
