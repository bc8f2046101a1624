use Rattle.std.proofs.Common.{◌≡◌, ℕ, ◌+◌, ◌-◌, ◌*◌, ◌<◌, ◌≤◌, List, length, map, take, drop, sym, ap, ◌∙◌, subst, arith, Some, true, refl}
use Rattle.std.specs.Prelude.{IfSome, min, slice_get}
use Rattle.std.proofs.lemmas.List.{length-take}
use Rattle.idx_turn.proofs.BeginsLemmas.{begins_at, begins_more}
use Rattle.idx_hall.specs.declared.key.Key.{Key}
use Rattle.idx_plan.specs.Rounds.{cut_count, rounds}
use Rattle.idx_query.specs.Answered.{IsHeldAtFault, IsLeft}
use Rattle.idx_query.specs.Fault.{IsCaused}
use Rattle.idx_query.specs.Reads.{ReadsAtMost}
use Rattle.idx_query.specs.Steps.{DidRounds}
use Rattle.idx_query.proofs.AnsweredLemmas.{first-held, first-left, is-done, is-held, round-held, round-left}
use Rattle.idx_query.proofs.ReadsLemmas.{err_is, on_err}
use Rattle.idx_query.proofs.RoundLemmas.{store-caused}
use Rattle.idx_query.proofs.SoFarLemmas.{few-absent, few-hits, few-reads, first-at, first-cut, many-rounds, next-at, next-cut, post-stands, reads-till, seen-answered, seen-did, so-far-first, so-far-more, still-there, taken-rounds}
use Rattle.idx_query.proofs.answering.answer_rounds.Goals as goal

pub returns-in_err-report-clause-few_holds : goal.returns-in_err-report-clause-few_holds
returns-in_err-report-clause-few_holds g c =
    let keys : List Key = take c.min.result c.args.plan.now.keys in
    let many : c.min.result ≡ min (length c.args.plan.now.keys) c.width-width.result = c.min.ensures ∙ ap (λ (ks : List Key). min (length ks) c.width-width.result) c.keys-keys.ensures in
    err_is c.from_residual.result c.in_err-report.field-0.0 (IsHeldAtFault c.args.header.now c.args.ask.now (g.T.Turn.holds c.args.turn.now) (g.T.Turn.holds c.first_round.new.turn)) c.from_residual.ensures.1
    (first-held c.args.header.now c.args.ask.now keys (first-at c.args.header.now c.args.ask.now c.args.plan.now c.width-width.result c.min.result c.requires.plan c.width-width.ensures.value many) g.T.Turn.tells (g.T.Turn.kept c.args.turn.now) (g.T.Turn.kept c.first_round.new.turn) (g.T.Turn.holds c.args.turn.now) (g.T.Turn.holds c.first_round.new.turn)
    (g.T.Turn.seen c.first_round.new.turn) c.in_err-report.field-0.0 c.in_err-report.ensures.left)

pub returns-in_err-report-clause-left : goal.returns-in_err-report-clause-left
returns-in_err-report-clause-left g c =
    let keys : List Key = take c.min.result c.args.plan.now.keys in
    let many : c.min.result ≡ min (length c.args.plan.now.keys) c.width-width.result = c.min.ensures ∙ ap (λ (ks : List Key). min (length ks) c.width-width.result) c.keys-keys.ensures in
    err_is c.from_residual.result c.in_err-report.field-0.0 (λ fault. g.T.Turn.tells ≡ true → IfSome (g.T.Turn.kept c.args.turn.now) (λ hall. IsLeft c.args.header.now c.args.ask.now hall (g.T.Turn.kept c.first_round.new.turn) (g.T.Turn.holds c.args.turn.now) (g.T.Turn.holds c.first_round.new.turn) fault)) c.from_residual.ensures.1
    (first-left c.args.header.now c.args.ask.now keys (first-at c.args.header.now c.args.ask.now c.args.plan.now c.width-width.result c.min.result c.requires.plan c.width-width.ensures.value many) g.T.Turn.tells (g.T.Turn.kept c.args.turn.now) (g.T.Turn.kept c.first_round.new.turn) (g.T.Turn.holds c.args.turn.now) (g.T.Turn.holds c.first_round.new.turn)
    (g.T.Turn.seen c.first_round.new.turn) c.in_err-report.field-0.0 c.in_err-report.ensures.left)

pub loop-number-init : goal.loop-number-init
loop-number-init g c =
    let keys : List Key = take c.min.result c.args.plan.now.keys in
    let many : c.min.result ≡ min (length c.args.plan.now.keys) c.width-width.result = c.min.ensures ∙ ap (λ (ks : List Key). min (length ks) c.width-width.result) c.keys-keys.ensures in
    let did = c.in_ok-report.ensures.did in
    record {
      some = omega arith;
      within = omega (arith, c.round_count-number-end.ensures.count);
      so_far = so-far-first c.args.ask.now c.args.plan.now c.width-width.result g.T.Turn.tells (g.T.Turn.seen c.args.turn.now) (g.T.Turn.seen c.first_round.new.turn) (g.T.Turn.kept c.args.turn.now) (g.T.Turn.kept c.first_round.new.turn) (g.T.Turn.holds c.args.turn.now) (g.T.Turn.holds c.first_round.new.turn)
          (g.R.Reader.reads c.args.reader.now) (g.R.Reader.reads c.first_round.new.reader) c.in_ok-report.report c.args.out.now c.first_round.new.out did.0 did.1 did.2 did.3 did.4 did.5 keys (first-cut c.width-width.result c.min.result c.args.plan.now.keys many) did.6;
      room = c.in_ok-report.ensures.room;
      quiet = c.in_ok-report.ensures.quiet;
      shape = c.in_ok-report.ensures.shape;
      given = c.in_ok-report.ensures.given;
      same = c.in_ok-report.ensures.same;
      may_add = c.in_ok-report.ensures.may_add;
      lock = c.in_ok-report.ensures.lock;
    }

pub next_round-requires-clause-shape : goal.next_round-requires-clause-shape
next_round-requires-clause-shape g c = c.loop-number.invariant.shape ∙ c.requires.shape

pub next_round-requires-clause-given : goal.next_round-requires-clause-given
next_round-requires-clause-given g c = c.loop-number.invariant.given

pub next_round-requires-clause-post : goal.next_round-requires-clause-post
next_round-requires-clause-post g c = still-there c.args.ask.now c.args.plan.now c.width-width.result c.loop-number.number g.T.Turn.tells (g.T.Turn.seen c.args.turn.now) (g.T.Turn.seen c.loop-number.turn) (g.T.Turn.kept c.args.turn.now) (g.T.Turn.kept c.loop-number.turn) (g.T.Turn.holds c.args.turn.now) (g.T.Turn.holds c.loop-number.turn) (g.R.Reader.reads c.args.reader.now) (g.R.Reader.reads c.loop-number.reader) c.loop-number.report c.loop-number.out c.loop-number.invariant.so_far

pub returns-in_err-round-clause-cause : goal.returns-in_err-round-clause-cause
returns-in_err-round-clause-cause g c =
    let there = still-there c.args.ask.now c.args.plan.now c.width-width.result c.loop-number.number g.T.Turn.tells (g.T.Turn.seen c.args.turn.now) (g.T.Turn.seen c.loop-number.turn) (g.T.Turn.kept c.args.turn.now) (g.T.Turn.kept c.loop-number.turn) (g.T.Turn.holds c.args.turn.now) (g.T.Turn.holds c.loop-number.turn) (g.R.Reader.reads c.args.reader.now) (g.R.Reader.reads c.loop-number.reader) c.loop-number.report c.loop-number.out c.loop-number.invariant.so_far in
    let caused = store-caused c.args.header.now c.args.ask.now (g.T.Turn.seen c.next_round.new.turn) (g.R.Reader.faults c.loop-number.reader) (g.R.Reader.faults c.next_round.new.reader) c.requires.sound
    (c.loop-number.report.post, there.0, record { at = begins_at c.loop-number.report.post there.0 there.1.at c.in_err-round.ensures.begins; time = there.1.time }) c.in_err-round.field-0.0 c.in_err-round.ensures.cause in
    err_is c.from_residual-in_err-round.result c.in_err-round.field-0.0 (IsCaused c.args.header.now c.args.ask.now (g.T.Turn.seen c.next_round.new.turn) (g.R.Reader.faults c.args.reader.now) (g.R.Reader.faults c.next_round.new.reader)) c.from_residual-in_err-round.ensures.1
    (subst (λ n. IsCaused c.args.header.now c.args.ask.now (g.T.Turn.seen c.next_round.new.turn) n (g.R.Reader.faults c.next_round.new.reader) c.in_err-round.field-0.0) c.loop-number.invariant.quiet caused)

pub returns-in_err-round-clause-few_reads : goal.returns-in_err-round-clause-few_reads
returns-in_err-round-clause-few_reads g c =
    let keys_are : length c.keys-keys.result.now ≡ length c.args.plan.now.keys = ap (λ (ks : List Key). length ks) c.keys-keys.ensures in
    let below : c.loop-number.number * c.width-width.result < length c.keys-keys.result.now = c.round_count-number-end.ensures.within c.loop-number.number c.loop-number.invariant.some c.loop-number-test.true in
    on_err c.from_residual-in_err-round.result (ReadsAtMost (g.R.Reader.reads c.args.reader.now) (g.R.Reader.reads c.next_round.new.reader) (length c.args.plan.now.keys))
    (reads-till c.args.ask.now c.args.plan.now c.width-width.result c.loop-number.number g.T.Turn.tells (g.T.Turn.seen c.args.turn.now) (g.T.Turn.seen c.loop-number.turn) (g.T.Turn.kept c.args.turn.now) (g.T.Turn.kept c.loop-number.turn) (g.T.Turn.holds c.args.turn.now) (g.T.Turn.holds c.loop-number.turn) (g.R.Reader.reads c.args.reader.now) (g.R.Reader.reads c.loop-number.reader) c.loop-number.report c.loop-number.out c.loop-number.invariant.so_far (c.loop-number.number * c.width-width.result) c.min-many.result (g.R.Reader.reads c.next_round.new.reader) refl
    (grind (arith, c.min-many.ensures, keys_are)) (omega (arith, below, keys_are)) c.in_err-round.ensures.few_reads)

-- what is known of a later round: its keys, and the rounds before
pub returns-in_err-round-clause-few_holds : goal.returns-in_err-round-clause-few_holds
returns-in_err-round-clause-few_holds g c =
    let so = c.loop-number.invariant.so_far in
    let count : c.round_count-number-end.result ≡ cut_count c.width-width.result (length c.args.plan.now.keys) = c.round_count-number-end.ensures.count ∙ ap (λ (ks : List Key). cut_count c.width-width.result (length ks)) c.keys-keys.ensures in
    let within : c.loop-number.number < length (rounds c.args.header.now c.args.ask.now) = omega (arith, many-rounds c.args.header.now c.args.ask.now c.args.plan.now c.width-width.result c.round_count-number-end.result c.requires.plan c.width-width.ensures.value count, c.loop-number-test.true) in
    let many : c.min-many.result ≡ min (length c.args.plan.now.keys - c.loop-number.number * c.width-width.result) c.width-width.result = c.min-many.ensures ∙ ap (λ (ks : List Key). min (length ks - c.loop-number.number * c.width-width.result) c.width-width.result) c.keys-keys.ensures in
    err_is c.from_residual-in_err-round.result c.in_err-round.field-0.0 (IsHeldAtFault c.args.header.now c.args.ask.now (g.T.Turn.holds c.args.turn.now) (g.T.Turn.holds c.next_round.new.turn)) c.from_residual-in_err-round.ensures.1
    (round-held c.args.header.now c.args.ask.now c.args.plan.now c.loop-number.number within (take c.min-many.result (drop (c.loop-number.number * c.width-width.result) c.args.plan.now.keys)) (next-at c.args.header.now c.args.ask.now c.args.plan.now c.width-width.result c.loop-number.number (c.loop-number.number * c.width-width.result) c.min-many.result c.requires.plan c.width-width.ensures.value within refl many)
    so.post c.loop-number.report.post g.T.Turn.tells (g.T.Turn.kept c.args.turn.now) (g.T.Turn.kept c.loop-number.turn) (g.T.Turn.kept c.next_round.new.turn) (g.T.Turn.holds c.args.turn.now) (g.T.Turn.holds c.loop-number.turn) (g.T.Turn.holds c.next_round.new.turn)
    (g.R.Reader.reads c.args.reader.now) (g.R.Reader.reads c.loop-number.reader) c.loop-number.report c.loop-number.out
    (subst (λ rs. DidRounds c.args.ask.now c.args.plan.now rs so.post c.loop-number.report.post g.T.Turn.tells (g.T.Turn.kept c.args.turn.now) (g.T.Turn.kept c.loop-number.turn) (g.T.Turn.holds c.args.turn.now) (g.T.Turn.holds c.loop-number.turn) (g.R.Reader.reads c.args.reader.now) (g.R.Reader.reads c.loop-number.reader) c.loop-number.report c.loop-number.out)
    (taken-rounds c.args.header.now c.args.ask.now c.args.plan.now c.width-width.result c.round_count-number-end.result c.loop-number.number c.requires.plan c.width-width.ensures.value count c.loop-number.invariant.within) so.did)
    (g.T.Turn.seen c.next_round.new.turn) so.board so.newest c.in_err-round.field-0.0 c.in_err-round.ensures.left)

pub returns-in_err-round-clause-left : goal.returns-in_err-round-clause-left
returns-in_err-round-clause-left g c =
    let so = c.loop-number.invariant.so_far in
    let count : c.round_count-number-end.result ≡ cut_count c.width-width.result (length c.args.plan.now.keys) = c.round_count-number-end.ensures.count ∙ ap (λ (ks : List Key). cut_count c.width-width.result (length ks)) c.keys-keys.ensures in
    let within : c.loop-number.number < length (rounds c.args.header.now c.args.ask.now) = omega (arith, many-rounds c.args.header.now c.args.ask.now c.args.plan.now c.width-width.result c.round_count-number-end.result c.requires.plan c.width-width.ensures.value count, c.loop-number-test.true) in
    let many : c.min-many.result ≡ min (length c.args.plan.now.keys - c.loop-number.number * c.width-width.result) c.width-width.result = c.min-many.ensures ∙ ap (λ (ks : List Key). min (length ks - c.loop-number.number * c.width-width.result) c.width-width.result) c.keys-keys.ensures in
    err_is c.from_residual-in_err-round.result c.in_err-round.field-0.0 (λ fault. g.T.Turn.tells ≡ true → IfSome (g.T.Turn.kept c.args.turn.now) (λ hall. IsLeft c.args.header.now c.args.ask.now hall (g.T.Turn.kept c.next_round.new.turn) (g.T.Turn.holds c.args.turn.now) (g.T.Turn.holds c.next_round.new.turn) fault)) c.from_residual-in_err-round.ensures.1
    (round-left c.args.header.now c.args.ask.now c.args.plan.now c.loop-number.number within (take c.min-many.result (drop (c.loop-number.number * c.width-width.result) c.args.plan.now.keys)) (next-at c.args.header.now c.args.ask.now c.args.plan.now c.width-width.result c.loop-number.number (c.loop-number.number * c.width-width.result) c.min-many.result c.requires.plan c.width-width.ensures.value within refl many)
    so.post c.loop-number.report.post g.T.Turn.tells (g.T.Turn.kept c.args.turn.now) (g.T.Turn.kept c.loop-number.turn) (g.T.Turn.kept c.next_round.new.turn) (g.T.Turn.holds c.args.turn.now) (g.T.Turn.holds c.loop-number.turn) (g.T.Turn.holds c.next_round.new.turn)
    (g.R.Reader.reads c.args.reader.now) (g.R.Reader.reads c.loop-number.reader) c.loop-number.report c.loop-number.out
    (subst (λ rs. DidRounds c.args.ask.now c.args.plan.now rs so.post c.loop-number.report.post g.T.Turn.tells (g.T.Turn.kept c.args.turn.now) (g.T.Turn.kept c.loop-number.turn) (g.T.Turn.holds c.args.turn.now) (g.T.Turn.holds c.loop-number.turn) (g.R.Reader.reads c.args.reader.now) (g.R.Reader.reads c.loop-number.reader) c.loop-number.report c.loop-number.out)
    (taken-rounds c.args.header.now c.args.ask.now c.args.plan.now c.width-width.result c.round_count-number-end.result c.loop-number.number c.requires.plan c.width-width.ensures.value count c.loop-number.invariant.within) so.did)
    (g.T.Turn.seen c.next_round.new.turn) so.board so.newest so.boards c.in_err-round.field-0.0 c.in_err-round.ensures.left)

pub returns-in_err-round-clause-count : goal.returns-in_err-round-clause-count
returns-in_err-round-clause-count g c = omega (arith, c.in_err-round.ensures.count, c.loop-number.invariant.quiet)

pub returns-in_err-round-clause-once : goal.returns-in_err-round-clause-once
returns-in_err-round-clause-once g c = omega (arith, c.in_err-round.ensures.once, c.loop-number.invariant.quiet)

pub returns-in_err-round-clause-begins : goal.returns-in_err-round-clause-begins
returns-in_err-round-clause-begins g c = begins_more c.loop-number.invariant.so_far.since (begins_more c.loop-number.invariant.so_far.until c.in_err-round.ensures.begins)

pub returns-in_err-round-clause-same : goal.returns-in_err-round-clause-same
returns-in_err-round-clause-same g c = λ adds. c.in_err-round.ensures.same (c.loop-number.invariant.may_add ∙ adds) ∙ c.loop-number.invariant.same adds

pub returns-in_err-round-clause-shape : goal.returns-in_err-round-clause-shape
returns-in_err-round-clause-shape g c = c.in_err-round.ensures.shape ∙ c.loop-number.invariant.shape

pub returns-in_err-round-clause-may_add : goal.returns-in_err-round-clause-may_add
returns-in_err-round-clause-may_add g c = c.in_err-round.ensures.may_add ∙ c.loop-number.invariant.may_add

pub returns-in_err-round-clause-lock : goal.returns-in_err-round-clause-lock
returns-in_err-round-clause-lock g c = c.in_err-round.ensures.lock ∙ c.loop-number.invariant.lock

pub with_round-report-requires-clause-hits : goal.with_round-report-requires-clause-hits
with_round-report-requires-clause-hits g c =
    let keys_are : length c.keys-keys.result.now ≡ length c.args.plan.now.keys = ap (λ (ks : List Key). length ks) c.keys-keys.ensures in
    let did = c.in_ok-round.ensures.did c.loop-number.invariant.so_far.post (post-stands c.args.ask.now c.args.plan.now c.width-width.result c.loop-number.number g.T.Turn.tells (g.T.Turn.seen c.args.turn.now) (g.T.Turn.seen c.loop-number.turn) (g.T.Turn.kept c.args.turn.now) (g.T.Turn.kept c.loop-number.turn) (g.T.Turn.holds c.args.turn.now) (g.T.Turn.holds c.loop-number.turn) (g.R.Reader.reads c.args.reader.now) (g.R.Reader.reads c.loop-number.reader) c.loop-number.report c.loop-number.out c.loop-number.invariant.so_far) in
    let taken : length (take c.min-many.result (drop (c.loop-number.number * c.width-width.result) c.args.plan.now.keys)) ≤ c.min-many.result = grind (arith, length-take c.min-many.result (drop (c.loop-number.number * c.width-width.result) c.args.plan.now.keys)) in
    (grind (arith, few-hits c.args.ask.now c.args.plan.now c.width-width.result c.loop-number.number g.T.Turn.tells (g.T.Turn.seen c.args.turn.now) (g.T.Turn.seen c.loop-number.turn) (g.T.Turn.kept c.args.turn.now) (g.T.Turn.kept c.loop-number.turn) (g.T.Turn.holds c.args.turn.now) (g.T.Turn.holds c.loop-number.turn) (g.R.Reader.reads c.args.reader.now) (g.R.Reader.reads c.loop-number.reader) c.loop-number.report c.loop-number.out c.loop-number.invariant.so_far, keys_are, c.keys-keys.type_inv.1), grind (arith, did.hits, taken, c.min-many.ensures, keys_are, c.keys-keys.type_inv.1))

pub with_round-report-requires-clause-reads : goal.with_round-report-requires-clause-reads
with_round-report-requires-clause-reads g c =
    let keys_are : length c.keys-keys.result.now ≡ length c.args.plan.now.keys = ap (λ (ks : List Key). length ks) c.keys-keys.ensures in
    let did = c.in_ok-round.ensures.did c.loop-number.invariant.so_far.post (post-stands c.args.ask.now c.args.plan.now c.width-width.result c.loop-number.number g.T.Turn.tells (g.T.Turn.seen c.args.turn.now) (g.T.Turn.seen c.loop-number.turn) (g.T.Turn.kept c.args.turn.now) (g.T.Turn.kept c.loop-number.turn) (g.T.Turn.holds c.args.turn.now) (g.T.Turn.holds c.loop-number.turn) (g.R.Reader.reads c.args.reader.now) (g.R.Reader.reads c.loop-number.reader) c.loop-number.report c.loop-number.out c.loop-number.invariant.so_far) in
    let taken : length (take c.min-many.result (drop (c.loop-number.number * c.width-width.result) c.args.plan.now.keys)) ≤ c.min-many.result = grind (arith, length-take c.min-many.result (drop (c.loop-number.number * c.width-width.result) c.args.plan.now.keys)) in
    (grind (arith, few-reads c.args.ask.now c.args.plan.now c.width-width.result c.loop-number.number g.T.Turn.tells (g.T.Turn.seen c.args.turn.now) (g.T.Turn.seen c.loop-number.turn) (g.T.Turn.kept c.args.turn.now) (g.T.Turn.kept c.loop-number.turn) (g.T.Turn.holds c.args.turn.now) (g.T.Turn.holds c.loop-number.turn) (g.R.Reader.reads c.args.reader.now) (g.R.Reader.reads c.loop-number.reader) c.loop-number.report c.loop-number.out c.loop-number.invariant.so_far, keys_are, c.keys-keys.type_inv.1), grind (arith, did.hits, did.all, taken, c.min-many.ensures, keys_are, c.keys-keys.type_inv.1))

pub with_round-report-requires-clause-absent : goal.with_round-report-requires-clause-absent
with_round-report-requires-clause-absent g c =
    let keys_are : length c.keys-keys.result.now ≡ length c.args.plan.now.keys = ap (λ (ks : List Key). length ks) c.keys-keys.ensures in
    let did = c.in_ok-round.ensures.did c.loop-number.invariant.so_far.post (post-stands c.args.ask.now c.args.plan.now c.width-width.result c.loop-number.number g.T.Turn.tells (g.T.Turn.seen c.args.turn.now) (g.T.Turn.seen c.loop-number.turn) (g.T.Turn.kept c.args.turn.now) (g.T.Turn.kept c.loop-number.turn) (g.T.Turn.holds c.args.turn.now) (g.T.Turn.holds c.loop-number.turn) (g.R.Reader.reads c.args.reader.now) (g.R.Reader.reads c.loop-number.reader) c.loop-number.report c.loop-number.out c.loop-number.invariant.so_far) in
    let taken : length (take c.min-many.result (drop (c.loop-number.number * c.width-width.result) c.args.plan.now.keys)) ≤ c.min-many.result = grind (arith, length-take c.min-many.result (drop (c.loop-number.number * c.width-width.result) c.args.plan.now.keys)) in
    (grind (arith, few-absent c.args.ask.now c.args.plan.now c.width-width.result c.loop-number.number g.T.Turn.tells (g.T.Turn.seen c.args.turn.now) (g.T.Turn.seen c.loop-number.turn) (g.T.Turn.kept c.args.turn.now) (g.T.Turn.kept c.loop-number.turn) (g.T.Turn.holds c.args.turn.now) (g.T.Turn.holds c.loop-number.turn) (g.R.Reader.reads c.args.reader.now) (g.R.Reader.reads c.loop-number.reader) c.loop-number.report c.loop-number.out c.loop-number.invariant.so_far, keys_are, c.keys-keys.type_inv.1), grind (arith, did.hits, did.all, taken, c.min-many.ensures, keys_are, c.keys-keys.type_inv.1))

pub loop-number-preserved : goal.loop-number-preserved
loop-number-preserved g c =
    let many : c.min-many.result ≡ min (length c.args.plan.now.keys - c.loop-number.number * c.width-width.result) c.width-width.result = c.min-many.ensures ∙ ap (λ (ks : List Key). min (length ks - c.loop-number.number * c.width-width.result) c.width-width.result) c.keys-keys.ensures in
    record {
      some = omega arith;
      within = omega (arith, c.loop-number-test.true);
      so_far = so-far-more c.args.ask.now c.args.plan.now c.width-width.result c.loop-number.number g.T.Turn.tells (g.T.Turn.seen c.args.turn.now) (g.T.Turn.seen c.loop-number.turn) (g.T.Turn.kept c.args.turn.now) (g.T.Turn.kept c.loop-number.turn) (g.T.Turn.holds c.args.turn.now) (g.T.Turn.holds c.loop-number.turn) (g.R.Reader.reads c.args.reader.now) (g.R.Reader.reads c.loop-number.reader) c.loop-number.report c.loop-number.out c.loop-number.invariant.so_far (g.T.Turn.seen c.next_round.new.turn) (g.T.Turn.kept c.next_round.new.turn) (g.T.Turn.holds c.next_round.new.turn) (g.R.Reader.reads c.next_round.new.reader)
          c.in_ok-round.round c.with_round-report.result c.next_round.new.out (take c.min-many.result (drop (c.loop-number.number * c.width-width.result) c.args.plan.now.keys)) c.in_ok-round.ensures.begins
          (next-cut c.width-width.result c.loop-number.number (c.loop-number.number * c.width-width.result) c.min-many.result c.args.plan.now.keys refl many)
          (c.in_ok-round.ensures.did c.loop-number.invariant.so_far.post (post-stands c.args.ask.now c.args.plan.now c.width-width.result c.loop-number.number g.T.Turn.tells (g.T.Turn.seen c.args.turn.now) (g.T.Turn.seen c.loop-number.turn) (g.T.Turn.kept c.args.turn.now) (g.T.Turn.kept c.loop-number.turn) (g.T.Turn.holds c.args.turn.now) (g.T.Turn.holds c.loop-number.turn) (g.R.Reader.reads c.args.reader.now) (g.R.Reader.reads c.loop-number.reader) c.loop-number.report c.loop-number.out c.loop-number.invariant.so_far)) c.with_round-report.ensures;
      room = c.in_ok-round.ensures.room;
      quiet = c.in_ok-round.ensures.quiet ∙ c.loop-number.invariant.quiet;
      shape = c.in_ok-round.ensures.shape ∙ c.loop-number.invariant.shape;
      given = c.in_ok-round.ensures.given;
      same = λ adds. c.in_ok-round.ensures.same (c.loop-number.invariant.may_add ∙ adds) ∙ c.loop-number.invariant.same adds;
      may_add = c.in_ok-round.ensures.may_add ∙ c.loop-number.invariant.may_add;
      lock = c.in_ok-round.ensures.lock ∙ c.loop-number.invariant.lock;
    }

-- all rounds were made
counted : (g : _) (c : goal.After-loop-number g) → c.loop-number.number ≡ cut_count c.width-width.result (length c.args.plan.now.keys)
counted g c =
    let end : c.loop-number.number ≡ c.round_count-number-end.result = omega (arith, c.loop-number-test.false, c.loop-number.invariant.within) in
    end ∙ c.round_count-number-end.ensures.count ∙ ap (λ (ks : List Key). cut_count c.width-width.result (length ks)) c.keys-keys.ensures

pub returns-clause-answered : goal.returns-clause-answered
returns-clause-answered g c =
    seen-answered c.args.header.now c.args.ask.now c.args.plan.now c.width-width.result c.loop-number.number g.T.Turn.tells (g.T.Turn.seen c.args.turn.now) (g.T.Turn.seen c.loop-number.turn) (g.T.Turn.kept c.args.turn.now) (g.T.Turn.kept c.loop-number.turn) (g.T.Turn.holds c.args.turn.now) (g.T.Turn.holds c.loop-number.turn) (g.R.Reader.reads c.args.reader.now) (g.R.Reader.reads c.loop-number.reader) c.loop-number.report c.loop-number.out c.requires.plan c.requires.valid c.requires.sound c.requires.field c.requires.axes c.width-width.ensures.value (counted g c) c.loop-number.invariant.room c.loop-number.invariant.so_far

pub returns-clause-reads : goal.returns-clause-reads
returns-clause-reads g c = c.loop-number.invariant.so_far.did.reads

pub returns-clause-held : goal.returns-clause-held
returns-clause-held g c =
    is-held c.args.header.now c.args.ask.now c.args.plan.now c.requires.plan c.loop-number.invariant.so_far.post c.loop-number.report.post g.T.Turn.tells (g.T.Turn.kept c.args.turn.now) (g.T.Turn.kept c.loop-number.turn) (g.T.Turn.holds c.args.turn.now) (g.T.Turn.holds c.loop-number.turn)
    (g.R.Reader.reads c.args.reader.now) (g.R.Reader.reads c.loop-number.reader) c.loop-number.report c.loop-number.out
    (seen-did c.args.header.now c.args.ask.now c.args.plan.now c.width-width.result c.loop-number.number g.T.Turn.tells (g.T.Turn.seen c.args.turn.now) (g.T.Turn.seen c.loop-number.turn) (g.T.Turn.kept c.args.turn.now) (g.T.Turn.kept c.loop-number.turn) (g.T.Turn.holds c.args.turn.now) (g.T.Turn.holds c.loop-number.turn) (g.R.Reader.reads c.args.reader.now) (g.R.Reader.reads c.loop-number.reader) c.loop-number.report c.loop-number.out c.requires.plan c.width-width.ensures.value (counted g c) c.loop-number.invariant.so_far)

pub returns-clause-count : goal.returns-clause-count
returns-clause-count g c = omega (arith, c.loop-number.invariant.quiet)

pub returns-clause-once : goal.returns-clause-once
returns-clause-once g c = omega (arith, c.loop-number.invariant.quiet)

pub returns-clause-quiet : goal.returns-clause-quiet
returns-clause-quiet g c = c.loop-number.invariant.quiet

pub returns-clause-done : goal.returns-clause-done
returns-clause-done g c =
    is-done c.args.header.now c.args.ask.now c.args.plan.now c.requires.plan c.loop-number.invariant.so_far.post c.loop-number.report.post g.T.Turn.tells (g.T.Turn.kept c.args.turn.now) (g.T.Turn.kept c.loop-number.turn) (g.T.Turn.holds c.args.turn.now) (g.T.Turn.holds c.loop-number.turn)
    (g.R.Reader.reads c.args.reader.now) (g.R.Reader.reads c.loop-number.reader) c.loop-number.report c.loop-number.out
    (seen-did c.args.header.now c.args.ask.now c.args.plan.now c.width-width.result c.loop-number.number g.T.Turn.tells (g.T.Turn.seen c.args.turn.now) (g.T.Turn.seen c.loop-number.turn) (g.T.Turn.kept c.args.turn.now) (g.T.Turn.kept c.loop-number.turn) (g.T.Turn.holds c.args.turn.now) (g.T.Turn.holds c.loop-number.turn) (g.R.Reader.reads c.args.reader.now) (g.R.Reader.reads c.loop-number.reader) c.loop-number.report c.loop-number.out c.requires.plan c.width-width.ensures.value (counted g c) c.loop-number.invariant.so_far)
    c.loop-number.invariant.so_far.board c.loop-number.invariant.so_far.boards c.loop-number.invariant.so_far.newest refl

pub returns-clause-begins : goal.returns-clause-begins
returns-clause-begins g c = begins_more c.loop-number.invariant.so_far.since c.loop-number.invariant.so_far.until

pub returns-clause-same : goal.returns-clause-same
returns-clause-same g c = c.loop-number.invariant.same

pub returns-clause-shape : goal.returns-clause-shape
returns-clause-shape g c = c.loop-number.invariant.shape

pub returns-clause-may_add : goal.returns-clause-may_add
returns-clause-may_add g c = c.loop-number.invariant.may_add

pub returns-clause-lock : goal.returns-clause-lock
returns-clause-lock g c = c.loop-number.invariant.lock

pub returns-clause-given : goal.returns-clause-given
returns-clause-given g c = c.loop-number.invariant.given
