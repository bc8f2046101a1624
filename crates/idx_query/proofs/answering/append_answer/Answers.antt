use Rattle.std.proofs.Common.{arith}
use Rattle.std.proofs.lemmas.Grind.{common_steps}
use Rattle.idx_query.proofs.SoFarLemmas.{answered-behind}
use Rattle.idx_query.proofs.answering.append_answer.Goals as goal

pub returns-in-Ok-clause-answered : goal.returns-in-Ok-clause-answered
returns-in-Ok-clause-answered g c =
    answered-behind c.args.header.now c.args.ask.now _ _ c.args.out.now.items _ c.answer_rounds.new.out c.in-Ok.report (grind (arith, common_steps)) c.in-Ok.ensures.answered
