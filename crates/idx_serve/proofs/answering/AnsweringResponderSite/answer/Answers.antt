use Rattle.std.proofs.Common.{◌∙◌, ◌≡◌, ◌||◌, Ok, Err, OnErr, Result, inl, refl, rules}
use Rattle.idx_session.specs.Entry.{state_of}
use Rattle.idx_serve.specs.Later.{later_on}
use Rattle.idx_serve.specs.Questions.{closing}
use Rattle.idx_serve.specs.Refusals.{ends}
use Rattle.idx_serve.proofs.answering.AnsweringResponderSite.answer.Goals as goal

pub returns-in_ok-written-in-Err-clause-ready : goal.returns-in_ok-written-in-Err-clause-ready
returns-in_ok-written-in-Err-clause-ready g c = ((c.refuse.ensures.later 0 0).shape ∙ (c.make.ensures.later.shape ∙ c.requires.ready.0), c.refuse.ensures.given)

pub returns-in_ok-written-in-Err-clause-grew : goal.returns-in_ok-written-in-Err-clause-grew
returns-in_ok-written-in-Err-clause-grew g c = later_on c.make.ensures.later (c.refuse.ensures.later (g.R.Reader.faults c.make.new.reader) (g.R.Reader.reads c.make.new.reader))

pub returns-in_err-written-in-Err-clause-ready : goal.returns-in_err-written-in-Err-clause-ready
returns-in_err-written-in-Err-clause-ready g c = ((c.refuse.ensures.later 0 0).shape ∙ (c.make.ensures.later.shape ∙ c.requires.ready.0), c.refuse.ensures.given)

pub returns-in_err-written-in-Err-clause-grew : goal.returns-in_err-written-in-Err-clause-grew
returns-in_err-written-in-Err-clause-grew g c = later_on c.make.ensures.later (c.refuse.ensures.later (g.R.Reader.faults c.make.new.reader) (g.R.Reader.reads c.make.new.reader))

on_err : {T E : Type 0} (r : Result T E) (P : Type 0) → P → OnErr r P
on_err (Ok value) P p = tt
on_err (Err error) P p = p

pub returns-in_err-written-in-Err-clause-lost : goal.returns-in_err-written-in-Err-clause-lost
returns-in_err-written-in-Err-clause-lost g c =
    let faults = g.R.Reader.faults c.make.new.reader in
    let reads = g.R.Reader.reads c.make.new.reader in
    on_err c.from_residual.result _ (record {
      asked = c.args.asked.now;
      reason = c.in-Err.reason;
      left = state_of (g.T.Turn.seen c.make.new.turn) (g.T.Turn.may_add c.make.new.turn) faults reads (g.T.Turn.kept c.make.new.turn) (g.T.Turn.holds c.make.new.turn);
      cause = c.in-Err.ensures.refused;
      eased = c.in_err-written-in-Err.ensures.halved faults reads;
      seen = refl;
    })

pub returns-in_ok-written-in-Err-clause-answers : goal.returns-in_ok-written-in-Err-clause-answers
returns-in_ok-written-in-Err-clause-answers g c =
    let faults = g.R.Reader.faults c.make.new.reader in
    let reads = g.R.Reader.reads c.make.new.reader in
    let closes : c.if-closes.closes ≡ (closing c.args.last c.args.asked.now || ends c.in-Err.reason) = search rules in
    inl (record {
      reason = c.in-Err.reason;
      left = state_of (g.T.Turn.seen c.make.new.turn) (g.T.Turn.may_add c.make.new.turn) faults reads (g.T.Turn.kept c.make.new.turn) (g.T.Turn.holds c.make.new.turn);
      cause = c.in-Err.ensures.refused;
      refusal = c.in_ok-written-in-Err.written.refusal;
      written = c.in_ok-written-in-Err.ensures.written;
      eased = c.in_ok-written-in-Err.ensures.eased faults reads;
      seen = c.seen_after-self.ensures;
      status = c.status.ensures.value;
      closes = closes;
      bytes = c.in_ok-written-in-Err.ensures.text;
    })
