use Rattle.std.proofs.Common.{◌≡◌, List, take, refl, sym, ap, ◌∙◌, subst, Some}
use Rattle.std.specs.Prelude.{All, IfSome}
use Rattle.idx_outside.specs.Shape.{Shape}
use Rattle.idx_hall.specs.declared.key.Key.{Key}
use Rattle.idx_hall.specs.Posts.{IsNewestOf, IsPostOf, Lacks, Post}
use Rattle.idx_hall.specs.Hall.{HallValue}
use Rattle.idx_turn.proofs.BeginsLemmas.{begins_more, begins_whole}
use Rattle.idx_plan.specs.Plan.{PlanValue}
use Rattle.idx_query.specs.Fault.{IsCaused}
use Rattle.idx_query.specs.Steps.{DidRound, FirstLeft, HasLooked, IsPartOf, IsSeen, MadeRound}
use Rattle.idx_query.proofs.ReadsLemmas.{err_is, reads_of_part}
use Rattle.idx_query.proofs.RoundLemmas.{first-refused, following, look-caused, look-left, look-refused, not-lacked, part-apart, part-times, store-caused, store-read}
use Rattle.idx_query.proofs.RoundsLemmas.{did-round}
use Rattle.idx_query.proofs.rounds.first_round.Goals as goal

pub look_up-requires-clause-keys : goal.look_up-requires-clause-keys
look_up-requires-clause-keys g c =
    subst (λ (ks : List Key). All (λ (key : Key). key.time ≡ c.args.ask.now.time) ks) (sym c.keys.ensures)
    (part-times c.args.header.now c.args.ask.now c.args.plan.now c.new-part.result c.requires.plan (record { first = 0; many = c.args.many; is = c.new-part.ensures }))

pub returns-in-Ok-clause-did : goal.returns-in-Ok-clause-did
returns-in-Ok-clause-did g c =
    let keys : List Key = take c.args.many c.args.plan.now.keys in
    let part_is : c.new-part.result.keys ≡ keys = ap (λ (p : PlanValue). p.keys) c.new-part.ensures in
    let keys_is : c.keys.result.now ≡ keys = c.keys.ensures ∙ part_is in
    let posts = g.T.Turn.seen c.look_up.new.turn in
    let post : Post = c.in_ok-seen.ensures.newest.0 in
    let newest : IsNewestOf posts c.args.ask.now.time c.in_ok-seen.seen.post post = c.in_ok-seen.ensures.newest.1 in (
      posts,
      c.in_ok-seen.ensures.begins,
      c.in-Ok.ensures.begins,
      (λ yes. following (λ (hall : HallValue). IsSeen hall c.in_ok-seen.seen.post (g.T.Turn.shape c.args.turn.now) c.keys.result.now (g.T.Turn.kept c.look_up.new.turn) posts c.look_up.new.looked.found c.in_ok-seen.seen.room) (λ hall. hall.board ≡ posts)
          (g.T.Turn.kept c.args.turn.now) (c.in_ok-seen.ensures.told yes) (λ hall seen. seen.board)),
      post,
      subst (λ n. IsNewestOf posts c.args.ask.now.time n post) (sym c.in-Ok.ensures.post) newest,
      subst (λ n. DidRound c.args.ask.now c.args.plan.now keys post n g.T.Turn.tells (g.T.Turn.kept c.args.turn.now) (g.T.Turn.kept c.make_round.new.turn) (g.T.Turn.holds c.args.turn.now) (g.T.Turn.holds c.make_round.new.turn)
          (g.R.Reader.reads c.args.reader.now) (g.R.Reader.reads c.make_round.new.reader) c.in-Ok.report c.args.out.now c.make_round.new.out) (sym c.in-Ok.ensures.post)
          (did-round c.args.ask.now c.args.plan.now keys c.look_up.new.looked.found (g.T.Turn.shape c.args.turn.now) post c.in_ok-seen.seen.post c.in_ok-seen.seen.room g.T.Turn.tells
          (g.T.Turn.kept c.args.turn.now) (g.T.Turn.kept c.look_up.new.turn) (g.T.Turn.kept c.make_round.new.turn) (g.T.Turn.holds c.args.turn.now) (g.T.Turn.holds c.look_up.new.turn) (g.T.Turn.holds c.make_round.new.turn)
          (g.R.Reader.reads c.args.reader.now) (g.R.Reader.reads c.make_round.new.reader) c.in-Ok.report c.args.out.now c.make_round.new.out posts
          (part-apart c.args.header.now c.args.ask.now c.args.plan.now 0 c.args.many c.requires.plan) c.in_ok-seen.ensures.room c.in_ok-seen.ensures.held
          (λ yes. subst (λ (ks : List Key). IfSome (g.T.Turn.kept c.args.turn.now) (λ hall. IsSeen hall c.in_ok-seen.seen.post (g.T.Turn.shape c.args.turn.now) ks (g.T.Turn.kept c.look_up.new.turn) posts c.look_up.new.looked.found c.in_ok-seen.seen.room)) keys_is (c.in_ok-seen.ensures.told yes))
          (subst (λ s. MadeRound c.args.ask.now c.args.plan.now keys c.look_up.new.looked.found s post c.in_ok-seen.seen.post c.in_ok-seen.seen.room g.T.Turn.tells (g.T.Turn.kept c.look_up.new.turn) (g.T.Turn.kept c.make_round.new.turn)
          (g.T.Turn.holds c.look_up.new.turn) (g.T.Turn.holds c.make_round.new.turn) (g.R.Reader.reads c.args.reader.now) (g.R.Reader.reads c.make_round.new.reader) c.in-Ok.report c.args.out.now c.make_round.new.out) c.in_ok-seen.ensures.shape
          (subst (λ (ks : List Key). MadeRound c.args.ask.now c.args.plan.now ks c.look_up.new.looked.found (g.T.Turn.shape c.look_up.new.turn) post c.in_ok-seen.seen.post c.in_ok-seen.seen.room g.T.Turn.tells (g.T.Turn.kept c.look_up.new.turn) (g.T.Turn.kept c.make_round.new.turn)
          (g.T.Turn.holds c.look_up.new.turn) (g.T.Turn.holds c.make_round.new.turn) (g.R.Reader.reads c.args.reader.now) (g.R.Reader.reads c.make_round.new.reader) c.in-Ok.report c.args.out.now c.make_round.new.out) part_is
          (c.in-Ok.ensures.made post newest.at)))),
    )

pub returns-clause-left : goal.returns-clause-left
returns-clause-left g c =
    let keys : List Key = take c.args.many c.args.plan.now.keys in
    let keys_is : c.keys.result.now ≡ keys = c.keys.ensures ∙ ap (λ (p : PlanValue). p.keys) c.new-part.ensures in
    let posts = g.T.Turn.seen c.look_up.new.turn in
    let post : Post = c.in_ok-seen.ensures.newest.0 in
    let same = c.in-Err.ensures.kept in
    first-refused c.args.ask.now.time keys (g.T.Turn.seen c.make_round.new.turn) g.T.Turn.tells (g.T.Turn.kept c.args.turn.now) (g.T.Turn.kept c.make_round.new.turn) (g.T.Turn.holds c.args.turn.now) (g.T.Turn.holds c.make_round.new.turn)
    (g.R.Reader.faults c.args.reader.now) (g.R.Reader.faults c.make_round.new.reader) (
      c.in_ok-seen.seen.post,
      post,
      subst (λ t. IsNewestOf (g.T.Turn.seen t) c.args.ask.now.time c.in_ok-seen.seen.post post) (sym same) c.in_ok-seen.ensures.newest.1,
      look-left c.in_ok-seen.seen.post (g.T.Turn.shape c.args.turn.now) keys posts (g.T.Turn.seen c.make_round.new.turn) c.look_up.new.looked.found c.in_ok-seen.seen.room g.T.Turn.tells
          (g.T.Turn.kept c.args.turn.now) (g.T.Turn.kept c.look_up.new.turn) (g.T.Turn.kept c.make_round.new.turn) (g.T.Turn.holds c.args.turn.now) (g.T.Turn.holds c.look_up.new.turn) (g.T.Turn.holds c.make_round.new.turn)
          (λ yes. subst (λ (ks : List Key). IfSome (g.T.Turn.kept c.args.turn.now) (λ hall. IsSeen hall c.in_ok-seen.seen.post (g.T.Turn.shape c.args.turn.now) ks (g.T.Turn.kept c.look_up.new.turn) posts c.look_up.new.looked.found c.in_ok-seen.seen.room)) keys_is (c.in_ok-seen.ensures.told yes))
          c.in_ok-seen.ensures.held (ap g.T.Turn.kept same) (ap g.T.Turn.holds same) (ap g.T.Turn.seen same),
    ) c.in-Err.fault c.in-Err.ensures.cause

pub returns-clause-cause : goal.returns-clause-cause
returns-clause-cause g c =
    let post : Post = c.in_ok-seen.ensures.newest.0 in
    let newest = c.in_ok-seen.ensures.newest.1 in
    store-caused c.args.header.now c.args.ask.now (g.T.Turn.seen c.make_round.new.turn) (g.R.Reader.faults c.args.reader.now) (g.R.Reader.faults c.make_round.new.reader) c.requires.sound
    (c.in_ok-seen.seen.post, post, subst (λ t. IsPostOf (g.T.Turn.seen t) c.args.ask.now.time c.in_ok-seen.seen.post post) (sym c.in-Err.ensures.kept) (record { at = newest.at; time = newest.time })) c.in-Err.fault c.in-Err.ensures.cause

pub returns-in_err-seen-clause-cause : goal.returns-in_err-seen-clause-cause
returns-in_err-seen-clause-cause g c =
    err_is c.from_residual-in_err-seen.result c.in_err-seen.field-0.0 (IsCaused c.args.header.now c.args.ask.now (g.T.Turn.seen c.look_up.new.turn) (g.R.Reader.faults c.args.reader.now) (g.R.Reader.faults c.args.reader.now)) c.from_residual-in_err-seen.ensures.1
    (look-caused c.args.header.now c.args.ask.now (g.T.Turn.seen c.look_up.new.turn) (g.R.Reader.faults c.args.reader.now) c.requires.sound c.in_err-seen.field-0.0 c.in_err-seen.ensures.refused)

pub make_round-requires-clause-looked : goal.make_round-requires-clause-looked
make_round-requires-clause-looked g c =
    let keys_is : c.keys.result.now ≡ c.new-part.result.keys = c.keys.ensures in
    subst (λ (s : Shape). HasLooked g.E.Blocks.time g.E.Blocks.shape g.E.Blocks.has g.E.Blocks.stored s (g.T.Turn.seen c.look_up.new.turn) c.args.ask.now.time c.in_ok-seen.seen.post c.new-part.result.keys c.look_up.new.looked) (sym c.in_ok-seen.ensures.shape)
    (subst (λ (ks : List Key). HasLooked g.E.Blocks.time g.E.Blocks.shape g.E.Blocks.has g.E.Blocks.stored (g.T.Turn.shape c.args.turn.now) (g.T.Turn.seen c.look_up.new.turn) c.args.ask.now.time c.in_ok-seen.seen.post ks c.look_up.new.looked) keys_is c.in_ok-seen.ensures.looked)

pub make_round-requires-clause-valid : goal.make_round-requires-clause-valid
make_round-requires-clause-valid g c = c.requires.valid

pub make_round-requires-clause-room : goal.make_round-requires-clause-room
make_round-requires-clause-room g c = c.requires.room

pub returns-in_err-seen-clause-left : goal.returns-in_err-seen-clause-left
returns-in_err-seen-clause-left g c =
    let keys : List Key = take c.args.many c.args.plan.now.keys in
    err_is c.from_residual-in_err-seen.result c.in_err-seen.field-0.0 (FirstLeft c.args.ask.now.time keys (g.T.Turn.seen c.look_up.new.turn) g.T.Turn.tells (g.T.Turn.kept c.args.turn.now) (g.T.Turn.kept c.look_up.new.turn) (g.T.Turn.holds c.args.turn.now) (g.T.Turn.holds c.look_up.new.turn))
    c.from_residual-in_err-seen.ensures.1
    (look-refused c.args.ask.now.time keys (g.T.Turn.seen c.look_up.new.turn) g.T.Turn.tells (g.T.Turn.kept c.args.turn.now) (g.T.Turn.kept c.look_up.new.turn) (g.T.Turn.holds c.args.turn.now) (g.T.Turn.holds c.look_up.new.turn)
    c.in_err-seen.ensures.kept c.in_err-seen.ensures.held c.in_err-seen.field-0.0 c.in_err-seen.ensures.refused)

pub returns-in-Ok-clause-unpublished : goal.returns-in-Ok-clause-unpublished
returns-in-Ok-clause-unpublished g c = λ alone lacks.
    absurd (not-lacked (g.T.Turn.seen c.look_up.new.turn) c.args.ask.now.time c.in_ok-seen.seen.post c.in_ok-seen.ensures.newest.0 c.in_ok-seen.ensures.newest.1
    (subst (Lacks c.args.ask.now.time) (sym (c.in_ok-seen.ensures.same alone)) lacks))

pub returns-clause-unpublished : goal.returns-clause-unpublished
returns-clause-unpublished g c = λ alone lacks.
    absurd (not-lacked (g.T.Turn.seen c.look_up.new.turn) c.args.ask.now.time c.in_ok-seen.seen.post c.in_ok-seen.ensures.newest.0 c.in_ok-seen.ensures.newest.1
    (subst (Lacks c.args.ask.now.time) (sym (c.in_ok-seen.ensures.same alone)) lacks))

pub returns-in-Ok-clause-begins : goal.returns-in-Ok-clause-begins
returns-in-Ok-clause-begins g c = begins_more c.in_ok-seen.ensures.begins c.in-Ok.ensures.begins

pub returns-clause-begins : goal.returns-clause-begins
returns-clause-begins g c = begins_more c.in_ok-seen.ensures.begins c.in-Err.ensures.begins

pub returns-in-Ok-clause-same : goal.returns-in-Ok-clause-same
returns-in-Ok-clause-same g c = λ alone.
    c.in-Ok.ensures.same (c.in_ok-seen.ensures.may_add ∙ alone) ∙ c.in_ok-seen.ensures.same alone

pub returns-clause-unread : goal.returns-clause-unread
returns-clause-unread g c = λ unread.
    absurd (store-read (g.R.Reader.faults c.args.reader.now) (g.R.Reader.faults c.make_round.new.reader) c.in-Err.fault c.in-Err.ensures.cause unread)

pub returns-clause-few_reads : goal.returns-clause-few_reads
returns-clause-few_reads g c =
    reads_of_part c.args.plan.now c.new-part.result 0 c.args.many (g.R.Reader.reads c.args.reader.now) (g.R.Reader.reads c.make_round.new.reader) c.new-part.ensures c.in-Err.ensures.few_reads

pub returns-in-Ok-clause-shape : goal.returns-in-Ok-clause-shape
returns-in-Ok-clause-shape g c = c.in-Ok.ensures.shape ∙ c.in_ok-seen.ensures.shape

pub returns-in-Ok-clause-may_add : goal.returns-in-Ok-clause-may_add
returns-in-Ok-clause-may_add g c = c.in-Ok.ensures.may_add ∙ c.in_ok-seen.ensures.may_add

pub returns-in-Ok-clause-lock : goal.returns-in-Ok-clause-lock
returns-in-Ok-clause-lock g c = c.in-Ok.ensures.lock ∙ c.in_ok-seen.ensures.lock

pub returns-in-Ok-clause-count : goal.returns-in-Ok-clause-count
returns-in-Ok-clause-count g c = c.in-Ok.ensures.count

pub returns-in-Ok-clause-given : goal.returns-in-Ok-clause-given
returns-in-Ok-clause-given g c = c.in-Ok.ensures.given

pub returns-in-Ok-clause-room : goal.returns-in-Ok-clause-room
returns-in-Ok-clause-room g c = c.in-Ok.ensures.room

pub returns-in-Ok-clause-quiet : goal.returns-in-Ok-clause-quiet
returns-in-Ok-clause-quiet g c = c.in-Ok.ensures.quiet

pub returns-clause-shape : goal.returns-clause-shape
returns-clause-shape g c = c.in-Err.ensures.shape ∙ c.in_ok-seen.ensures.shape

pub returns-clause-may_add : goal.returns-clause-may_add
returns-clause-may_add g c = c.in-Err.ensures.may_add ∙ c.in_ok-seen.ensures.may_add

pub returns-clause-lock : goal.returns-clause-lock
returns-clause-lock g c = c.in-Err.ensures.lock ∙ c.in_ok-seen.ensures.lock

pub returns-clause-count : goal.returns-clause-count
returns-clause-count g c = c.in-Err.ensures.count

pub returns-clause-given : goal.returns-clause-given
returns-clause-given g c = c.in-Err.ensures.given

pub returns-clause-same : goal.returns-clause-same
returns-clause-same g c = λ alone.
    c.in-Err.ensures.same (c.in_ok-seen.ensures.may_add ∙ alone) ∙ c.in_ok-seen.ensures.same alone

pub make_round-requires-clause-field : goal.make_round-requires-clause-field
make_round-requires-clause-field g c = c.requires.field

pub make_round-requires-clause-plan : goal.make_round-requires-clause-plan
make_round-requires-clause-plan g c = c.requires.plan

pub returns-in_err-looked-clause-begins : goal.returns-in_err-looked-clause-begins
returns-in_err-looked-clause-begins g c = begins_whole (g.T.Turn.seen c.args.turn.now)
