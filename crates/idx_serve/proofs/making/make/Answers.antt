use Rattle.std.proofs.Common.{inr}
use Rattle.idx_serve.proofs.FindLemmas.{unwritten}
use Rattle.idx_serve.proofs.making.make.Goals as goal

pub returns-in-Err-answer_text-clause-refused : goal.returns-in-Err-answer_text-clause-refused
returns-in-Err-answer_text-clause-refused g c =
    inr (c.in-Ok.ask, c.in-Ok.ensures.question, unwritten _ _ _ _ _ _ c.in-Ok-find.found.report c.in-Ok-find.ensures.found)
