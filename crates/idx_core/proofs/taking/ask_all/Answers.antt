use Rattle.std.proofs.Common.{◌≡◌, All, ap, arith, get_or, refl, subst, sym, ◌∙◌}
use Rattle.std.proofs.lemmas.List.Elements.{All-push}
use Rattle.std.proofs.lemmas.Option.{MatchOption-at_none, MatchOption-at_some}
use Rattle.idx_plan.specs.declared.ask.Ask.{Ask}
use Rattle.idx_events.specs.Start.{new_query}
use Rattle.idx_core_model.specs.Headline.{CanBeAsked}
use Rattle.idx_core_asks.specs.Asked.{IsPlanned}
use Rattle.idx_core.proofs.NewLemmas.{can-more, first-lacking, queries-more}
use Rattle.idx_core.proofs.taking.ask_all.Goals as goal

pub returns-in-None-clause-refused : goal.returns-in-None-clause-refused
returns-in-None-clause-refused c =
    first-lacking c.args.below.now.header c.args.asks.now c.loop-i.i c.index-asks-i.result c.loop-i-test.true c.loop-i.invariant.can
    (subst (λ ask. ¬ (CanBeAsked c.args.below.now.header ask)) c.index-asks-i.is (MatchOption-at_none _ _ c.in-None.is c.in_ok-question.ensures))

pub loop-i-preserved : goal.loop-i-preserved
loop-i-preserved c =
    let made = MatchOption-at_some _ _ c.in-Some.question c.in-Some.is c.in_ok-question.ensures in
    let a : Ask = c.index-asks-i.result in
    let fresh : c.in-Some.question.query ≡ new_query a = made.0 in
    let query : c.in-Some.question.query ≡ new_query (get_or c.args.asks.now c.loop-i.i a) = fresh ∙ ap new_query c.index-asks-i.is in
    record {
      can = can-more c.args.below.now.header c.args.asks.now c.loop-i.i a c.loop-i-test.true c.loop-i.invariant.can c.args.below.now refl c.in-Some.question query made.1;
      queries = queries-more c.args.asks.now c.loop-i.i a c.loop-i.asked.items c.push.new.self.items c.in-Some.question c.loop-i-test.true c.in_ok-push-in-Some.ensures.items query c.loop-i.invariant.queries;
      planned = subst (All (IsPlanned c.args.below.now)) (sym c.in_ok-push-in-Some.ensures.items) (All-push (IsPlanned c.args.below.now) c.loop-i.asked.items c.in-Some.question c.loop-i.invariant.planned made.1);
    }

pub returns-clause-can : goal.returns-clause-can
returns-clause-can c = λ i within. c.loop-i.invariant.can i (omega (arith, within, c.loop-i-test.false))
