use Rattle.std.proofs.Common.{◌≡◌, ◌+◌, ◌<◌, ap, get_or, length, sym, ◌++◌, ◌∷◌, [], ◌∙◌, arith}
use Rattle.std.specs.Prelude.{List}
use Rattle.idx_plan.specs.declared.ask.Ask.{Ask}
use Rattle.idx_drill_model.specs.Drill.{drill_depth}
use Rattle.idx_drill.specs.Runs.{answers_below, reads_below}
use Rattle.idx_drill.proofs.AskLemmas.{answers-more, ask-at, ask-count, reads-few, reads-more}
use Rattle.idx_drill.proofs.questions.ask_all.Goals as goal

pub overflow_cast-level : goal.overflow_cast-level
overflow_cast-level c = omega (arith, ap (λ (xs : List Ask). length xs) c.requires.asks, ask-count c.args.number, c.args.asks.now.ok.0)

pub ask_level-requires-clause-level : goal.ask_level-requires-clause-level
ask_level-requires-clause-level c = omega (arith, ap (λ (xs : List Ask). length xs) c.requires.asks, ask-count c.args.number, c.args.asks.now.ok.0)

pub ask_level-requires-clause-ask : goal.ask_level-requires-clause-ask
ask_level-requires-clause-ask c =
    let within : c.loop-level.level < drill_depth c.args.number + 1 = omega (arith, ap (λ (xs : List Ask). length xs) c.requires.asks, ask-count c.args.number, c.args.asks.now.ok.0) in
    c.index.ensures ∙ ap (λ (xs : List Ask). get_or xs c.loop-level.level c.index.result.now) c.requires.asks ∙ ask-at c.args.number c.loop-level.level c.index.result.now within

pub overflow_add-reads : goal.overflow_add-reads
overflow_add-reads c =
    let within : c.loop-level.level < drill_depth c.args.number + 1 = omega (arith, ap (λ (xs : List Ask). length xs) c.requires.asks, ask-count c.args.number, c.args.asks.now.ok.0) in
    omega (arith, c.loop-level.invariant.reads, c.in_ok-samples.ensures.reads, reads-more c.args.number c.loop-level.level, reads-few c.args.number (c.loop-level.level + 1) c.requires.few (omega (arith, within)))

pub loop-level-preserved : goal.loop-level-preserved
loop-level-preserved c = record {
  answers =
      c.in_ok-push.ensures.items
      ∙ (λ i. c.loop-level.invariant.answers i ++ c.in_ok-samples.ensures.answer i ∷ [])
      ∙ sym (answers-more c.args.number c.loop-level.level);
  reads = omega (arith, c.loop-level.invariant.reads, c.in_ok-samples.ensures.reads, reads-more c.args.number c.loop-level.level);
  hall = c.in_ok-samples.ensures.hall;
}

pub returns-clause-answers : goal.returns-clause-answers
returns-clause-answers c =
    let last : c.loop-level.level ≡ drill_depth c.args.number + 1 = omega (arith, ap (λ (xs : List Ask). length xs) c.requires.asks, ask-count c.args.number, c.args.asks.now.ok.0) in
    c.loop-level.invariant.answers ∙ ap (answers_below c.args.number) last

pub returns-clause-reads : goal.returns-clause-reads
returns-clause-reads c =
    let last : c.loop-level.level ≡ drill_depth c.args.number + 1 = omega (arith, ap (λ (xs : List Ask). length xs) c.requires.asks, ask-count c.args.number, c.args.asks.now.ok.0) in
    c.loop-level.invariant.reads ∙ ap (reads_below c.args.number) last
