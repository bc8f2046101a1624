use Rattle.idx_check.proofs.StepLemmas.{written_is}
use Rattle.idx_check.proofs.step.is_written.Goals as goal

pub returns-clause-value : goal.returns-clause-value
returns-clause-value c =
    written_is c.args.header.now c.args.file c.present_in_file.result c.present_in_file.ensures.valid c.requires.exists c.requires.multiple c.present_in_file.ensures.value
