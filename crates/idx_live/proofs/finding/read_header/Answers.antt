use Rattle.idx_gather.proofs.SealAllLemmas.{on_fault}
use Rattle.idx_live.specs.Live.{IsCause}
use Rattle.idx_live.specs.Stages.{seen_by}
use Rattle.idx_live.proofs.finding.read_header.Goals as goal

pub returns-in_err-check_step-clause-cause : goal.returns-in_err-check_step-clause-cause
returns-in_err-check_step-clause-cause g c k n =
    let bay = g.B.Bay in
    let known = seen_by bay.header bay.files bay.failed bay.faults c.args.bay.now c.of_bay.new.bay k in
    on_fault c.from_residual-in_err-check_step.result c.in_err-check_step.field-0.0 (IsCause c.args.time known n n)
    c.from_residual-in_err-check_step.ensures.1 (c.in_err-check_step.ensures.cause known n c.in_ok-header.ensures.gives)
