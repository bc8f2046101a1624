use Rattle.std.proofs.Common.{◌∙◌, arith}
use Rattle.idx_layout.proofs.HeaderLemmas.{present_to}
use Rattle.idx_layout.proofs.places.present_in_file.Goals as goal

pub returns-clause-value : goal.returns-clause-value
returns-clause-value c =
    c.present_between.ensures.value
    ∙ present_to c.args.header.now c.args.file c.saturating_add.result c.present_between.ensures.valid (omega arith)
