use Rattle.std.proofs.Common.{◌≡◌, ◌≢◌, ◌+◌, ◌≤◌, ℕ, false, subst, sym, ◌∙◌, arith, refl, inl, []}
use Rattle.std.proofs.lemmas.Bool.{eqb-false}
use Rattle.idx_outside.specs.Input.{behind}
use Rattle.idx_session.specs.Session.{is_last}
use Rattle.idx_session.proofs.SessionLemmas.{SoFar, so_far_read, more_open, more_closing, more_fault, none_next, no_memory, none_yet}
use Rattle.idx_session.proofs.heads.serve_heads.Goals as goal

pub returns-in_default-clause-session : goal.returns-in_default-clause-session
returns-in_default-clause-session g c = no_memory (none_yet _ _ [] _ _ _ _ refl) (inl refl)

pub returns-in-Err-clause-session : goal.returns-in-Err-clause-session
returns-in-Err-clause-session g c =
    let l = c.loop-number in
    none_next (behind c.next_asked.new.pending (g.L.Link.incoming c.next_asked.new.link)) c.in-Err.end (so_far_read c.next_asked.ensures.written refl c.next_asked.ensures.readings refl l.invariant.session)
    c.in-Err.ensures.next

pub returns-in-Closing-clause-session : goal.returns-in-Closing-clause-session
returns-in-Closing-clause-session g c =
    let l = c.loop-number in
    let step = c.in-Closing.ensures.step in
    more_closing {e = step.0} (record {
      so_far = so_far_read c.next_asked.ensures.written refl c.next_asked.ensures.readings c.answer_one.ensures.readings l.invariant.session;
      asks = c.in-Ok-next_asked.ensures.next;
      entry = step.1;
    }) (g.L.Link.written c.answer_one.new.link) step.2 step.3

pub returns-in-Fault-clause-session : goal.returns-in-Fault-clause-session
returns-in-Fault-clause-session g c =
    let l = c.loop-number in
    let step = c.in-Fault.ensures.step in
    more_fault {e = step.0} (record {
      so_far = so_far_read c.next_asked.ensures.written refl c.next_asked.ensures.readings c.answer_one.ensures.readings l.invariant.session;
      asks = c.in-Ok-next_asked.ensures.next;
      entry = step.1;
    }) (g.L.Link.written c.answer_one.new.link) c.in-Fault.faults step.2

pub returns-in-NoMemory-clause-session : goal.returns-in-NoMemory-clause-session
returns-in-NoMemory-clause-session g c =
    let l = c.loop-number in
    let step = c.in-NoMemory.ensures.step in
    no_memory (so_far_read (step.1 ∙ c.next_asked.ensures.written) step.0 c.next_asked.ensures.readings c.answer_one.ensures.readings l.invariant.session) step.2

not_last : (n : ℕ) → n ≤ 65535 → is_last n ≡ false → n + 1 ≤ 65535
not_last n few last = let apart : n ≢ 65535 = eqb-false n 65535 last in omega arith

pub loop-number-preserved : goal.loop-number-preserved
loop-number-preserved g c =
    let l = c.loop-number in
    let step = c.in-Open.ensures.step in
    record {
      few = not_last l.number l.invariant.few step.2;
      ready = c.answer_one.ensures.ready;
      grew = g.met.P.Responder.grew_on _ _ _ _ _ _ l.invariant.grew c.answer_one.ensures.grew;
      quiet = c.in-Open.ensures.counts ∙ c.in-Ok-next_asked.ensures.quiet ∙ l.invariant.quiet;
      session = subst (λ i. SoFar (g.P.Responder.answers c.args.site.now) (g.P.Responder.mark c.args.responder.now c.args.turn.now c.args.reader.now) (g.P.Responder.mark c.answer_one.new.responder c.answer_one.new.turn c.answer_one.new.reader) (g.L.Link.incoming c.args.link.now)
          (behind c.next_asked.new.pending i) (g.L.Link.written c.args.link.now) (g.L.Link.written c.answer_one.new.link) (g.L.Link.readings c.args.link.now) (g.L.Link.readings c.answer_one.new.link) c.args.served.now.items c.answer_one.new.served.items (l.number + 1))
          (sym c.answer_one.ensures.incoming)
          (more_open {e = step.0} (record {
            so_far = so_far_read c.next_asked.ensures.written refl c.next_asked.ensures.readings c.answer_one.ensures.readings l.invariant.session;
            asks = c.in-Ok-next_asked.ensures.next;
            entry = step.1;
          }) (g.L.Link.written c.answer_one.new.link) step.3 step.4);
    }

pub loop-number-init : goal.loop-number-init
loop-number-init g c = record {
  few = omega arith;
  ready = c.requires.ready;
  grew = g.met.P.Responder.grew_same _ _;
  quiet = refl;
  session = none_yet _ _ _ _ _ _ _ c.in-Ok.ensures;
}
