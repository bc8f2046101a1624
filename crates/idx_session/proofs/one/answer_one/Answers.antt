use Rattle.std.proofs.Common.{◌≡◌, ℕ, Bool, true, false, refl, sym, ap, ◌∙◌, subst, List, [], ◌∷◌, ◌++◌}
use Rattle.idx_outside.specs.Contents.{appended, AppendsPrefix}
use Rattle.idx_outside.specs.declared.served.Served.{Served}
use Rattle.idx_session.specs.Entry.{Mark, Reply}
use Rattle.idx_session.proofs.one.answer_one.Goals as goal

-- entries with one more behind them
abbrev noted_behind : List Served → ℕ → ℕ → ℕ → List ℕ → List Served
noted_behind served status seen faults target = served ++ (record { target = target; status = status; seen = seen; faults = faults }) ∷ []

noted_by : (old mid new : List Served) (status seen faults : ℕ) (known : Mark) (target want : List ℕ) → mid ≡ old → new ≡ noted_behind mid status seen faults target
    → known.seen ≡ seen → known.state.faults ≡ faults → target ≡ want → new ≡ noted_behind old status known.seen known.state.faults want
noted_by old mid new status seen faults known target want same noted is_seen is_faults is =
    noted ∙ (λ i. noted_behind (same i) status (sym is_seen i) (sym is_faults i) (is i))

not_last : (last closes : Bool) → (last ≡ true → closes ≡ true) → closes ≡ false → last ≡ false
not_last true closes step open' = absurd (let e = step refl in cc)
not_last false closes step open' = refl

pub returns-in-Ok-write-clause-step : goal.returns-in-Ok-write-clause-step
returns-in-Ok-write-clause-step g c =
    let mark : Mark = g.P.Responder.mark c.answer.new.self c.answer.new.turn c.answer.new.reader in
    let a = c.in-Ok-answer.answered in
    let reply : Reply = record { status = a.status; bytes = a.text; closes = a.closes; mark = mark } in (
      record { asked = c.args.asked; reply = reply },
      record {
        asks = refl;
        answered = c.in-Ok-answer.ensures.answers;
        closes = c.in-Ok-answer.ensures.closes;
        known = refl;
        noted = noted_by c.args.served.now.items c.reserve.new.self.items c.push.new.self.items a.status a.seen a.faults mark _ _ c.in-Ok.ensures.items
            c.in-Ok-push.ensures.items c.in-Ok-answer.ensures.seen c.in-Ok-answer.ensures.faults c.target_of-target.ensures;
      },
      c.if-answered.true,
      c.in-Ok-write.ensures.written ∙ ap (appended (g.L.Link.written c.args.link.now)) c.as_slice.ensures,
    )

pub returns-in-Ok-2-clause-step : goal.returns-in-Ok-2-clause-step
returns-in-Ok-2-clause-step g c =
    let mark : Mark = g.P.Responder.mark c.answer.new.self c.answer.new.turn c.answer.new.reader in
    let a = c.in-Ok-answer.answered in
    let reply : Reply = record { status = a.status; bytes = a.text; closes = a.closes; mark = mark } in (
      record { asked = c.args.asked; reply = reply },
      record {
        asks = refl;
        answered = c.in-Ok-answer.ensures.answers;
        closes = c.in-Ok-answer.ensures.closes;
        known = refl;
        noted = noted_by c.args.served.now.items c.reserve.new.self.items c.push.new.self.items a.status a.seen a.faults mark _ _ c.in-Ok.ensures.items
            c.in-Ok-push.ensures.items c.in-Ok-answer.ensures.seen c.in-Ok-answer.ensures.faults c.target_of-target.ensures;
      },
      not_last c.args.last a.closes c.in-Ok-answer.ensures.closes c.if-answered.false,
      c.if-answered.false,
      c.in-Ok-2.ensures.written ∙ ap (appended (g.L.Link.written c.args.link.now)) c.as_slice.ensures,
    )

pub returns-clause-step : goal.returns-clause-step
returns-clause-step g c =
    let mark : Mark = g.P.Responder.mark c.answer.new.self c.answer.new.turn c.answer.new.reader in
    let a = c.in-Ok-answer.answered in
    let reply : Reply = record { status = a.status; bytes = a.text; closes = a.closes; mark = mark } in (
      record { asked = c.args.asked; reply = reply },
      record {
        asks = refl;
        answered = c.in-Ok-answer.ensures.answers;
        closes = c.in-Ok-answer.ensures.closes;
        known = refl;
        noted = noted_by c.args.served.now.items c.reserve.new.self.items c.push.new.self.items a.status a.seen a.faults mark _ _ c.in-Ok.ensures.items
            c.in-Ok-push.ensures.items c.in-Ok-answer.ensures.seen c.in-Ok-answer.ensures.faults c.target_of-target.ensures;
      },
      subst (λ t. AppendsPrefix (g.L.Link.written c.args.link.now) (g.L.Link.written c.write.new.self) t) c.as_slice.ensures c.in-Err.ensures.prefix,
    )
