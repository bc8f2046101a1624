use Rattle.std.proofs.Common.{◌≡◌, ℕ, ◌++◌, List, [], ◌∷◌, refl, sym, ap, ◌∙◌, subst, true, Some, Option}
use Rattle.std.specs.Prelude.{IfSome}
use Rattle.std.specs.Arc.{arc_value}
use Rattle.idx_outside.specs.Shape.{Shape}
use Rattle.idx_cache.specs.Cached.{cached}
use Rattle.idx_layout.specs.Shape.{shape_of}
use Rattle.idx_hall.specs.Posts.{Post, post_of}
use Rattle.idx_hall.specs.Hall.{HallValue, after_publish, hall}
use Rattle.idx_turn.specs.SoloValue.{latest}
use Rattle.idx_plan.specs.Answer.{answer_of}
use Rattle.idx_plan.specs.Needed.{needed}
use Rattle.idx_query.specs.Answered.{IsAnswered, IsDone}
use Rattle.idx_query.specs.Blocks.{lacking}
use Rattle.idx_query.specs.Fault.{IsCaused}
use Rattle.idx_query.specs.Steps.{IsStoreFault}
use Rattle.idx_query.specs.declared.report.Report.{Report}
use Rattle.idx_extract.proofs.AloneLemmas.{alone-absent, alone-answer, alone-cause, alone-once, both, err-following, ok-following, on-following}
use Rattle.idx_extract.proofs.alone.answer_alone.Goals as goal
use Rattle.idx_extract.proofs.alone.answer_alone.Goals.{After-answer}

-- the shape of the hall
abbrev shape_in : (g : _) (c : goal.After-answer g) → Shape
shape_in g c = record { blocks = c.block_count.result; lengths = c.in_ok-lengths.lengths.items }

shaped : (g : _) (c : goal.After-answer g) → shape_in g c ≡ shape_of c.args.header.now
shaped g c = λ i. record { blocks = c.block_count.ensures.value i; lengths = c.in_ok-lengths.ensures i }

-- its one post
abbrev post_in : (g : _) (c : goal.After-answer g) → Post
post_in g c = post_of (shape_in g c) (g.E.Blocks.time c.args.edition) (g.E.Blocks.has c.args.edition) (g.E.Blocks.stored c.args.edition)

-- the hall that is asked
abbrev hall_in : (g : _) (c : goal.After-answer g) → HallValue
hall_in g c = hall (shape_in g c) (post_in g c ∷ []) (cached [] 1)

hall_is : (g : _) (c : goal.After-answer g) → c.publish.new.self ≡ hall_in g c
hall_is g c =
    let edition : arc_value c.in-Ok.edition ≡ c.args.edition = c.in-Ok.ensures.ok in
    let made = c.in_ok-hall.ensures in
    c.in-Ok-publish.ensures.published
    ∙ (λ i. after_publish (post_of (made i).shape (g.E.Blocks.time (edition i)) (g.E.Blocks.has (edition i)) (g.E.Blocks.stored (edition i))) (made i))

kept_is : (g : _) (c : goal.After-answer g) → c.new-turn.result.kept ≡ Some (hall_in g c)
kept_is g c = c.new-turn.ensures.kept ∙ ap Some (hall_is g c)

-- the posts that were seen
abbrev seen_in : (g : _) (c : goal.After-answer g) → List Post
seen_in g c = (latest c.answer.new.turn.kept c.answer.new.turn.taken).board

seen_is : (g : _) (c : goal.After-answer g) → seen_in g c ≡ post_in g c ∷ []
seen_is g c = c.answer.ensures.same refl ∙ ap (λ (o : Option HallValue). (latest o c.new-turn.result.taken).board) (kept_is g c)

-- those that were seen before
abbrev first_seen : (g : _) (c : goal.After-answer g) → List Post
first_seen g c = (latest c.new-turn.result.kept c.new-turn.result.taken).board

-- how often the hall was held
abbrev held_before : (g : _) (c : goal.After-answer g) → ℕ
held_before g c = c.new-turn.result.holds

abbrev held_after : (g : _) (c : goal.After-answer g) → ℕ
held_after g c = c.answer.new.turn.holds

-- what is done where the hall is told
abbrev Done : (g : _) (c : goal.After-answer g) → HallValue → Report → Type 0
Done g c before report = IsDone c.args.header.now c.args.ask.now before c.answer.new.turn.kept (held_before g c) (held_after g c) report

told : (g : _) (c : goal.After-answer g) (report : Report) → (true ≡ true → IfSome c.new-turn.result.kept (λ before. Done g c before report)) → Done g c (hall_in g c) report
told g c report done = subst (λ (o : Option HallValue). IfSome o (λ before. Done g c before report)) (kept_is g c) (done refl)

pub returns-clause-answer : goal.returns-clause-answer
returns-clause-answer g c =
    let p = (goal.at.returns-clause-answer g c).After-answer in
    on-following (IsAnswered c.args.header.now c.args.ask.now (first_seen g p) (seen_in g p) c.args.out.now c.answer.new.out)
    (IfSome (g.E.Blocks.stored c.args.edition) (λ stored. c.answer.new.out ≡ c.args.out.now ++ answer_of c.args.header.now c.args.ask.now stored)) c.answer.result c.answer.ensures.answered
    (λ report said. alone-answer c.args.header.now c.args.ask.now (shape_in g p) (g.E.Blocks.time c.args.edition) (g.E.Blocks.has c.args.edition) (g.E.Blocks.stored c.args.edition) (seen_in g p)
    (shaped g p) c.requires.field (seen_is g p) (first_seen g p) c.args.out.now c.answer.new.out report c.block_count.ensures.valid.bits_within said)

pub returns-clause-once : goal.returns-clause-once
returns-clause-once g c =
    let p = (goal.at.returns-clause-once g c).After-answer in
    both c.answer.result c.answer.ensures.answered c.answer.ensures.done
    (λ report said done. alone-once c.args.header.now c.args.ask.now (shape_in g p) (g.E.Blocks.time c.args.edition) (g.E.Blocks.has c.args.edition) (g.E.Blocks.stored c.args.edition) (seen_in g p)
    (shaped g p) c.requires.field (seen_is g p) (first_seen g p) c.args.out.now c.answer.new.out c.answer.new.turn.kept (held_before g p) (held_after g p) report (shape_in g p) (post_in g p ∷ []) 1 said (told g p report done))

pub returns-clause-absent : goal.returns-clause-absent
returns-clause-absent g c =
    let p = (goal.at.returns-clause-absent g c).After-answer in
    ok-following (λ report. true ≡ true → IfSome c.new-turn.result.kept (λ before. Done g p before report))
    (λ report. report.absent ≡ lacking (g.E.Blocks.has c.args.edition c.args.ask.now.field) (needed c.args.header.now c.args.ask.now)) c.answer.result c.answer.ensures.done
    (λ report done. alone-absent c.args.header.now c.args.ask.now (shape_in g p) (g.E.Blocks.time c.args.edition) (g.E.Blocks.has c.args.edition) (g.E.Blocks.stored c.args.edition) (seen_in g p)
    (shaped g p) c.requires.field (seen_is g p) c.answer.new.turn.kept (held_before g p) (held_after g p) report (post_in g p ∷ []) 1 (sym (seen_is g p)) (told g p report done))

pub returns-clause-cause : goal.returns-clause-cause
returns-clause-cause g c =
    let p = (goal.at.returns-clause-cause g c).After-answer in
    err-following (IsCaused c.args.header.now c.args.ask.now (seen_in g p) (g.R.Reader.faults c.args.reader.now) (g.R.Reader.faults c.answer.new.reader))
    (IsStoreFault (g.R.Reader.faults c.args.reader.now) (g.R.Reader.faults c.answer.new.reader)) c.answer.result c.answer.ensures.cause
    (λ fault cause. alone-cause c.args.header.now c.args.ask.now (post_in g p) (seen_in g p) (g.R.Reader.faults c.args.reader.now) (g.R.Reader.faults c.answer.new.reader) c.requires.sound (seen_is g p) c.requires.time fault cause)
