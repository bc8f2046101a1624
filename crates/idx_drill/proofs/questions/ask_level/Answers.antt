use Rattle.std.proofs.Common.{Option, ap, refl}
use Rattle.idx_hall.specs.Hall.{HallValue}
use Rattle.idx_turn.specs.SoloValue.{latest}
use Rattle.idx_drill.specs.Runs.{IsAskedBelow}
use Rattle.idx_drill.proofs.AskLemmas.{answer-is, no-lack, no-plan-fault, opened, reads-and-leaves}
use Rattle.idx_drill.proofs.questions.ask_level.Goals as goal

pub unreachable-requires : goal.unreachable-requires
unreachable-requires c =
    let asked = opened (IsAskedBelow c.args.number c.args.level) c.args.turn.now.kept c.requires.hall in
    no-plan-fault c.args.number c.args.level c.requires.few c.requires.level asked.0 asked.2 c.args.header.now c.args.ask.now _ _ _ c.in-Err-Plan.field-0 c.in-Err-Plan.field-0-0
    c.requires.header c.requires.ask c.in-Err-Plan.field-0-is c.in-Err-Plan.ensures.cause

pub unreachable-requires-in-Err-NotPublished : goal.unreachable-requires-in-Err-NotPublished
unreachable-requires-in-Err-NotPublished c =
    let asked = opened (IsAskedBelow c.args.number c.args.level) c.args.turn.now.kept c.requires.hall in
    no-lack c.args.number c.args.level c.requires.few c.requires.level asked.0 asked.2 c.args.header.now c.args.ask.now _ _ _ _ c.in-Err-NotPublished.field-0 c.in-Err-NotPublished.field-0-0
    c.requires.header c.requires.ask (ap (λ (o : Option HallValue). (latest o c.args.turn.now.taken).board) asked.1) (c.answer.ensures.same refl) c.in-Err-NotPublished.field-0-is c.in-Err-NotPublished.ensures.cause

pub returns-in-Ok-clause-answer : goal.returns-in-Ok-clause-answer
returns-in-Ok-clause-answer c =
    let asked = opened (IsAskedBelow c.args.number c.args.level) c.args.turn.now.kept c.requires.hall in
    answer-is c.args.number c.args.level c.requires.few c.requires.level asked.0 asked.2 c.args.header.now c.args.ask.now _ _ c.new-samples.result c.answer.new.out c.in-Ok.report
    c.requires.header c.requires.ask (ap (λ (o : Option HallValue). (latest o c.args.turn.now.taken).board) asked.1) (c.answer.ensures.same refl) c.new-samples.ensures c.in-Ok.ensures.answered

pub returns-in-Ok-clause-reads : goal.returns-in-Ok-clause-reads
returns-in-Ok-clause-reads c =
    let asked = opened (IsAskedBelow c.args.number c.args.level) c.args.turn.now.kept c.requires.hall in
    (reads-and-leaves c.args.number c.args.level c.requires.few c.requires.level asked.0 asked.2 c.args.header.now c.args.ask.now c.args.turn.now.kept c.answer.new.turn.kept _ _ c.in-Ok.report
    c.requires.header c.requires.ask asked.1 c.in-Ok.ensures.answered.all (c.in-Ok.ensures.done refl)).0

pub returns-in-Ok-clause-hall : goal.returns-in-Ok-clause-hall
returns-in-Ok-clause-hall c =
    let asked = opened (IsAskedBelow c.args.number c.args.level) c.args.turn.now.kept c.requires.hall in
    (reads-and-leaves c.args.number c.args.level c.requires.few c.requires.level asked.0 asked.2 c.args.header.now c.args.ask.now c.args.turn.now.kept c.answer.new.turn.kept _ _ c.in-Ok.report
    c.requires.header c.requires.ask asked.1 c.in-Ok.ensures.answered.all (c.in-Ok.ensures.done refl)).1
