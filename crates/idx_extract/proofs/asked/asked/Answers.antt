use Rattle.idx_extract.specs.Extract.{IsStop}
use Rattle.idx_extract.proofs.CauseLemmas.{err_is}
use Rattle.idx_extract.proofs.asked.asked.Goals as goal

pub returns-in_err-ask-clause-stop : goal.returns-in_err-ask-clause-stop
returns-in_err-ask-clause-stop c = λ files.
    err_is c.from_residual.result c.in_err-ask.field-0.0 (IsStop c.args.header.now c.args.question.now files) c.from_residual.ensures.1 (c.in_err-ask.ensures.stop files)
