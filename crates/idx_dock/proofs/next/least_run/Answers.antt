use Rattle.std.proofs.Common.{◌≡◌, ℕ, ◌+◌, ◌++◌, List, take, sym, ap, ◌∙◌, subst}
use Rattle.std.specs.Option.{option_copied}
use Rattle.std.proofs.lemmas.List.Elements.{All-get_or}
use Rattle.idx_pieces.specs.declared.run.Run.{Run}
use Rattle.idx_dock.specs.declared.awaited.Awaited.{Awaited}
use Rattle.idx_dock.specs.Content.{runs_in}
use Rattle.idx_dock.specs.Next.{IsNext, RiseIn, earlier_of, runs_of}
use Rattle.idx_dock.proofs.NextLemmas.{ArePassed-set, IsNext-append, runs_more}
use Rattle.idx_dock.proofs.TurnLemmas.{next_here}
use Rattle.idx_dock.proofs.next.least_run.Goals as goal

pub next_of_piece-run-requires-clause-rise : goal.next_of_piece-run-requires-clause-rise
next_of_piece-run-requires-clause-rise c =
    let P : Awaited → Type 0 = λ a. (field : ℕ) → RiseIn c.args.header.now field (runs_of a) in
    let here = subst P (sym c.index-awaited-i.is) (All-get_or P c.args.awaited.now c.loop-i.i c.index-awaited-i.result c.loop-i-test.true c.requires.writable.rising) in
    here c.args.field

pub loop-i-preserved : goal.loop-i-preserved
loop-i-preserved c =
    let h = c.args.header.now in
    let awaited = c.args.awaited.now in
    let i = c.loop-i.i in
    let item = c.index-awaited-i.result in
    let next = earlier_of (option_copied c.loop-i.next) (option_copied c.next_of_piece-run.result) in
    let more : runs_in (take (i + 1) awaited) ≡ runs_in (take i awaited) ++ runs_of item =
    runs_more awaited i item c.loop-i-test.true ∙ ap (λ (a : Awaited). runs_in (take i awaited) ++ runs_of a) (sym c.index-awaited-i.is) in
    let both = IsNext-append h c.args.field c.args.from (runs_in (take i awaited)) (runs_of item) (option_copied c.loop-i.next) (option_copied c.next_of_piece-run.result)
    c.loop-i.invariant.next c.next_of_piece-run.ensures.next in
    record {
      next = subst (IsNext h c.args.field c.args.from (runs_in (take (i + 1) awaited))) (sym c.earlier-next.ensures)
          (subst (λ (runs : List Run). IsNext h c.args.field c.args.from runs next) (sym more) both);
      passed = ArePassed-set h c.args.field c.args.from awaited c.loop-i.passed i c.next_of_piece-run.new.passed item c.loop-i-test.true c.index-awaited-i.is c.loop-i.invariant.passed c.next_of_piece-run.ensures.passed;
    }

pub returns-then-begins_by-clause-next : goal.returns-then-begins_by-clause-next
returns-then-begins_by-clause-next c =
    next_here c.args.header.now c.args.field c.args.from c.args.awaited.now c.loop-i.i c.index-awaited-i.result (option_copied c.next_of_piece-run.result) c.requires.writable.apart c.loop-i-test.true c.index-awaited-i.is
    c.next_of_piece-run.ensures.next (c.begins_by.ensures c.if-begins_by.true)
