use Rattle.std.proofs.Common.{◌∙◌}
use Rattle.idx_drill.proofs.DatasetLemmas.{same_header}
use Rattle.idx_drill.proofs.dataset.drill_header.Goals as goal

pub returns-in-Ok : goal.returns-in-Ok
returns-in-Ok c =
    same_header c.as_slice.result.now c.args.number c.in-Ok.header (c.as_slice.ensures ∙ c.in_ok-text.ensures) c.requires.some c.requires.few c.in-Ok.ensures.ok
