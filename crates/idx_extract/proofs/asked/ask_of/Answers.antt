use Rattle.std.proofs.Common.{◌≡◌, length, subst, arith}
use Rattle.std.proofs.lemmas.Grind.{common_steps}
use Rattle.idx_plan.specs.QuestionValue.{QuestionValue}
use Rattle.idx_extract.specs.Extract.{IsAsk}
use Rattle.idx_extract.proofs.AskLemmas.{is_ask}
use Rattle.idx_extract.proofs.asked.ask_of.Goals as goal

pub returns-clause-asked : goal.returns-clause-asked
returns-clause-asked c =
    let inside = c.question.inside in
    let q : QuestionValue =
    record { time = inside.time; field = inside.field.now; region = inside.region; lo = inside.lo; hi = inside.hi } in
    let axes : length q.region ≡ length c.args.header.now.box = grind (arith, common_steps) in
    subst (λ (q : QuestionValue). IsAsk c.args.header.now q
    (record { time = inside.time; field = c.in-Some.field; region = inside.region; lo = inside.lo; hi = inside.hi })) c.question.view_is
    (is_ask c.args.header.now q c.in-Some.field axes c.in-Some.ensures.some)
