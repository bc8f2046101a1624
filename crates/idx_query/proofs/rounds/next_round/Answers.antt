use Rattle.std.proofs.Common.{◌≡◌, List, take, drop, sym, ap, ◌∙◌, subst, Some}
use Rattle.std.specs.Prelude.{All, IfSome, slice_get}
use Rattle.idx_outside.specs.Shape.{Shape}
use Rattle.std.proofs.lemmas.Option.{same_Some}
use Rattle.idx_hall.specs.declared.key.Key.{Key}
use Rattle.idx_hall.specs.Posts.{Post}
use Rattle.idx_hall.specs.Hall.{HallValue}
use Rattle.idx_turn.proofs.BeginsLemmas.{begins_at, begins_more, begins_whole}
use Rattle.idx_plan.specs.Plan.{PlanValue}
use Rattle.idx_query.specs.Steps.{HasLooked, IsPartOf, IsSeen, MadeRound}
use Rattle.idx_query.proofs.ReadsLemmas.{reads_of_part}
use Rattle.idx_query.proofs.RoundLemmas.{later-refused, look-left, part-apart, part-times}
use Rattle.idx_query.proofs.RoundsLemmas.{did-round}
use Rattle.idx_query.proofs.rounds.next_round.Goals as goal

pub look_again-requires-clause-keys : goal.look_again-requires-clause-keys
look_again-requires-clause-keys g c =
    subst (λ (ks : List Key). All (λ (key : Key). key.time ≡ c.args.ask.now.time) ks) (sym c.keys.ensures)
    (part-times c.args.header.now c.args.ask.now c.args.plan.now c.new-part.result c.requires.plan (record { first = c.args.first; many = c.args.many; is = c.new-part.ensures }))

pub returns-in-Ok-clause-did : goal.returns-in-Ok-clause-did
returns-in-Ok-clause-did g c = λ post at.
    let keys : List Key = take c.args.many (drop c.args.first c.args.plan.now.keys) in
    let part_is : c.new-part.result.keys ≡ keys = ap (λ (p : PlanValue). p.keys) c.new-part.ensures in
    let keys_is : c.keys.result.now ≡ keys = c.keys.ensures ∙ part_is in
    let posts = g.T.Turn.seen c.look_again.new.turn in
    let on : slice_get posts c.args.post ≡ Some post = begins_at c.args.post post at c.in_ok-seen.ensures.begins in
    did-round c.args.ask.now c.args.plan.now keys c.look_again.new.looked.found (g.T.Turn.shape c.args.turn.now) post c.args.post c.in_ok-seen.seen.room g.T.Turn.tells
    (g.T.Turn.kept c.args.turn.now) (g.T.Turn.kept c.look_again.new.turn) (g.T.Turn.kept c.make_round.new.turn) (g.T.Turn.holds c.args.turn.now) (g.T.Turn.holds c.look_again.new.turn) (g.T.Turn.holds c.make_round.new.turn)
    (g.R.Reader.reads c.args.reader.now) (g.R.Reader.reads c.make_round.new.reader) c.in-Ok.report c.args.out.now c.make_round.new.out posts
    (part-apart c.args.header.now c.args.ask.now c.args.plan.now c.args.first c.args.many c.requires.plan) c.in_ok-seen.ensures.room c.in_ok-seen.ensures.held
    (λ said. subst (λ (ks : List Key). IfSome (g.T.Turn.kept c.args.turn.now) (λ hall. IsSeen hall c.args.post (g.T.Turn.shape c.args.turn.now) ks (g.T.Turn.kept c.look_again.new.turn) posts c.look_again.new.looked.found c.in_ok-seen.seen.room)) keys_is (c.in_ok-seen.ensures.told said))
    (subst (λ s. MadeRound c.args.ask.now c.args.plan.now keys c.look_again.new.looked.found s post c.args.post c.in_ok-seen.seen.room g.T.Turn.tells (g.T.Turn.kept c.look_again.new.turn) (g.T.Turn.kept c.make_round.new.turn)
    (g.T.Turn.holds c.look_again.new.turn) (g.T.Turn.holds c.make_round.new.turn) (g.R.Reader.reads c.args.reader.now) (g.R.Reader.reads c.make_round.new.reader) c.in-Ok.report c.args.out.now c.make_round.new.out) c.in_ok-seen.ensures.shape
    (subst (λ (ks : List Key). MadeRound c.args.ask.now c.args.plan.now ks c.look_again.new.looked.found (g.T.Turn.shape c.look_again.new.turn) post c.args.post c.in_ok-seen.seen.room g.T.Turn.tells (g.T.Turn.kept c.look_again.new.turn) (g.T.Turn.kept c.make_round.new.turn)
    (g.T.Turn.holds c.look_again.new.turn) (g.T.Turn.holds c.make_round.new.turn) (g.R.Reader.reads c.args.reader.now) (g.R.Reader.reads c.make_round.new.reader) c.in-Ok.report c.args.out.now c.make_round.new.out) part_is
    (subst (λ n. MadeRound c.args.ask.now c.args.plan.now c.new-part.result.keys c.look_again.new.looked.found (g.T.Turn.shape c.look_again.new.turn) post n c.in_ok-seen.seen.room g.T.Turn.tells (g.T.Turn.kept c.look_again.new.turn) (g.T.Turn.kept c.make_round.new.turn)
    (g.T.Turn.holds c.look_again.new.turn) (g.T.Turn.holds c.make_round.new.turn) (g.R.Reader.reads c.args.reader.now) (g.R.Reader.reads c.make_round.new.reader) c.in-Ok.report c.args.out.now c.make_round.new.out) c.in_ok-seen.ensures.post
    (c.in-Ok.ensures.made post (subst (λ n. slice_get posts n ≡ Some post) (sym c.in_ok-seen.ensures.post) on)))))

pub returns-clause-left : goal.returns-clause-left
returns-clause-left g c =
    let keys : List Key = take c.args.many (drop c.args.first c.args.plan.now.keys) in
    let keys_is : c.keys.result.now ≡ keys = c.keys.ensures ∙ ap (λ (p : PlanValue). p.keys) c.new-part.ensures in
    let posts = g.T.Turn.seen c.look_again.new.turn in
    let same = c.in-Err.ensures.kept in
    later-refused c.args.post keys (g.T.Turn.seen c.make_round.new.turn) g.T.Turn.tells (g.T.Turn.kept c.args.turn.now) (g.T.Turn.kept c.make_round.new.turn) (g.T.Turn.holds c.args.turn.now) (g.T.Turn.holds c.make_round.new.turn)
    (g.R.Reader.faults c.args.reader.now) (g.R.Reader.faults c.make_round.new.reader)
    (look-left c.args.post (g.T.Turn.shape c.args.turn.now) keys posts (g.T.Turn.seen c.make_round.new.turn) c.look_again.new.looked.found c.in_ok-seen.seen.room g.T.Turn.tells
    (g.T.Turn.kept c.args.turn.now) (g.T.Turn.kept c.look_again.new.turn) (g.T.Turn.kept c.make_round.new.turn) (g.T.Turn.holds c.args.turn.now) (g.T.Turn.holds c.look_again.new.turn) (g.T.Turn.holds c.make_round.new.turn)
    (λ said. subst (λ (ks : List Key). IfSome (g.T.Turn.kept c.args.turn.now) (λ hall. IsSeen hall c.args.post (g.T.Turn.shape c.args.turn.now) ks (g.T.Turn.kept c.look_again.new.turn) posts c.look_again.new.looked.found c.in_ok-seen.seen.room)) keys_is (c.in_ok-seen.ensures.told said))
    c.in_ok-seen.ensures.held (ap g.T.Turn.kept same) (ap g.T.Turn.holds same) (ap g.T.Turn.seen same))
    c.in-Err.fault c.in-Err.ensures.cause

pub make_round-requires-clause-looked : goal.make_round-requires-clause-looked
make_round-requires-clause-looked g c =
    subst (λ n. HasLooked g.E.Blocks.time g.E.Blocks.shape g.E.Blocks.has g.E.Blocks.stored (g.T.Turn.shape c.look_again.new.turn) (g.T.Turn.seen c.look_again.new.turn) c.args.ask.now.time n c.new-part.result.keys c.look_again.new.looked) (sym c.in_ok-seen.ensures.post)
    (subst (λ (s : Shape). HasLooked g.E.Blocks.time g.E.Blocks.shape g.E.Blocks.has g.E.Blocks.stored s (g.T.Turn.seen c.look_again.new.turn) c.args.ask.now.time c.args.post c.new-part.result.keys c.look_again.new.looked) (sym c.in_ok-seen.ensures.shape)
    (subst (λ (ks : List Key). HasLooked g.E.Blocks.time g.E.Blocks.shape g.E.Blocks.has g.E.Blocks.stored (g.T.Turn.shape c.args.turn.now) (g.T.Turn.seen c.look_again.new.turn) c.args.ask.now.time c.args.post ks c.look_again.new.looked) c.keys.ensures c.in_ok-seen.ensures.looked))

pub make_round-requires-clause-valid : goal.make_round-requires-clause-valid
make_round-requires-clause-valid g c = c.requires.valid

pub make_round-requires-clause-room : goal.make_round-requires-clause-room
make_round-requires-clause-room g c = c.requires.room

pub returns-in-Ok-clause-begins : goal.returns-in-Ok-clause-begins
returns-in-Ok-clause-begins g c = begins_more c.in_ok-seen.ensures.begins c.in-Ok.ensures.begins

pub returns-clause-begins : goal.returns-clause-begins
returns-clause-begins g c = begins_more c.in_ok-seen.ensures.begins c.in-Err.ensures.begins

pub returns-in-Ok-clause-same : goal.returns-in-Ok-clause-same
returns-in-Ok-clause-same g c = λ alone.
    c.in-Ok.ensures.same (c.in_ok-seen.ensures.may_add ∙ alone) ∙ c.in_ok-seen.ensures.same alone

pub returns-clause-few_reads : goal.returns-clause-few_reads
returns-clause-few_reads g c =
    reads_of_part c.args.plan.now c.new-part.result c.args.first c.args.many (g.R.Reader.reads c.args.reader.now) (g.R.Reader.reads c.make_round.new.reader) c.new-part.ensures c.in-Err.ensures.few_reads

pub returns-in-Ok-clause-shape : goal.returns-in-Ok-clause-shape
returns-in-Ok-clause-shape g c = c.in-Ok.ensures.shape ∙ c.in_ok-seen.ensures.shape

pub returns-in-Ok-clause-may_add : goal.returns-in-Ok-clause-may_add
returns-in-Ok-clause-may_add g c = c.in-Ok.ensures.may_add ∙ c.in_ok-seen.ensures.may_add

pub returns-in-Ok-clause-lock : goal.returns-in-Ok-clause-lock
returns-in-Ok-clause-lock g c = c.in-Ok.ensures.lock ∙ c.in_ok-seen.ensures.lock

pub returns-in-Ok-clause-count : goal.returns-in-Ok-clause-count
returns-in-Ok-clause-count g c = c.in-Ok.ensures.count

pub returns-in-Ok-clause-given : goal.returns-in-Ok-clause-given
returns-in-Ok-clause-given g c = c.in-Ok.ensures.given

pub returns-in-Ok-clause-room : goal.returns-in-Ok-clause-room
returns-in-Ok-clause-room g c = c.in-Ok.ensures.room

pub returns-in-Ok-clause-quiet : goal.returns-in-Ok-clause-quiet
returns-in-Ok-clause-quiet g c = c.in-Ok.ensures.quiet

pub returns-clause-shape : goal.returns-clause-shape
returns-clause-shape g c = c.in-Err.ensures.shape ∙ c.in_ok-seen.ensures.shape

pub returns-clause-may_add : goal.returns-clause-may_add
returns-clause-may_add g c = c.in-Err.ensures.may_add ∙ c.in_ok-seen.ensures.may_add

pub returns-clause-lock : goal.returns-clause-lock
returns-clause-lock g c = c.in-Err.ensures.lock ∙ c.in_ok-seen.ensures.lock

pub returns-clause-count : goal.returns-clause-count
returns-clause-count g c = c.in-Err.ensures.count

pub returns-clause-given : goal.returns-clause-given
returns-clause-given g c = c.in-Err.ensures.given

pub returns-clause-same : goal.returns-clause-same
returns-clause-same g c = λ alone.
    c.in-Err.ensures.same (c.in_ok-seen.ensures.may_add ∙ alone) ∙ c.in_ok-seen.ensures.same alone

pub make_round-requires-clause-field : goal.make_round-requires-clause-field
make_round-requires-clause-field g c = c.requires.field

pub make_round-requires-clause-plan : goal.make_round-requires-clause-plan
make_round-requires-clause-plan g c = c.requires.plan

pub returns-in_err-looked-clause-begins : goal.returns-in_err-looked-clause-begins
returns-in_err-looked-clause-begins g c = begins_whole (g.T.Turn.seen c.args.turn.now)
