use Rattle.std.proofs.Common.{◌≡◌, ℕ, length, refl, sym, ap, ◌∙◌, subst}
use Rattle.std.proofs.lemmas.List.{length-replicate}
use Rattle.idx_query.specs.Fault.{IsUnread}
use Rattle.idx_query.specs.declared.query_fault.QueryFault.TheVariants as Q
use Rattle.idx_session.specs.Entry.{State, state_of}
use Rattle.idx_serve.specs.States.{IsAnswerRefused}
use Rattle.idx_serve.proofs.FindLemmas.{answered_behind, refused_by, same_error}
use Rattle.idx_serve.proofs.found.find.Goals as goal

pub returns-in-Ok-answer-clause-found : goal.returns-in-Ok-answer-clause-found
returns-in-Ok-answer-clause-found g c =
    let said = c.in-Ok-answer.ensures in
    record {
      plan = said.sound;
      grew = record { may_add = said.may_add; begins = said.begins; same = said.same };
      answer = answered_behind c.args.header.now c.args.ask.now (g.T.Turn.seen c.args.turn.now) (g.T.Turn.seen c.answer.new.turn) c.in-Ok.samples c.answer.new.out 512 c.in-Ok-answer.report
          (ap length c.in-Ok.ensures ∙ length-replicate {A = ℕ} 512 0) said.answered;
      faults = said.quiet;
      reads = said.reads;
      held = said.held;
      hall = said.done;
    }

pub returns-in-Err-clause-refused : goal.returns-in-Err-clause-refused
returns-in-Err-clause-refused g c =
    let said = c.in-Err.ensures in
    let before : State = state_of (g.T.Turn.seen c.args.turn.now) (g.T.Turn.may_add c.args.turn.now) (g.R.Reader.faults c.args.reader.now) (g.R.Reader.reads c.args.reader.now) (g.T.Turn.kept c.args.turn.now) (g.T.Turn.holds c.args.turn.now) in
    let after : State = state_of (g.T.Turn.seen c.answer.new.turn) (g.T.Turn.may_add c.answer.new.turn) (g.R.Reader.faults c.answer.new.reader) (g.R.Reader.reads c.answer.new.reader) (g.T.Turn.kept c.answer.new.turn) (g.T.Turn.holds c.answer.new.turn) in
    subst (λ r. IsAnswerRefused g.T.Turn.tells c.args.header.now before after r c.args.ask.now) (sym c.from.ensures)
    (refused_by g.T.Turn.tells c.args.header.now c.args.ask.now before after c.in-Err.fault (record {
      caused = said.cause;
      once = said.once;
      grew = record { may_add = said.may_add; begins = said.begins; same = said.same };
      few = said.few_reads;
      unread = λ u. ap g.R.Reader.reads (said.unread u);
      still = λ f is.
          let same_turn = (said.refused f is).1 in
          let same_fault : c.in-Err.fault ≡ Q.Plan f = same_error _ c.in-Err.fault (Q.Plan f) refl (said.refused f is).0 in
          let same_reader = said.unread (subst IsUnread (sym same_fault) tt) in
          λ i. state_of (g.T.Turn.seen (same_turn i)) (g.T.Turn.may_add (same_turn i)) (g.R.Reader.faults (same_reader i)) (g.R.Reader.reads (same_reader i)) (g.T.Turn.kept (same_turn i)) (g.T.Turn.holds (same_turn i));
      held = said.few_holds;
      left = said.left;
    }))
