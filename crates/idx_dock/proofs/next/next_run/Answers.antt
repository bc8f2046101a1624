use Rattle.std.proofs.Common.{ℕ, List, sym, subst}
use Rattle.std.specs.Option.{option_copied}
use Rattle.std.proofs.lemmas.List.Elements.{All-get_or}
use Rattle.idx_dock.specs.declared.awaited.Awaited.{Awaited}
use Rattle.idx_dock.specs.Next.{ArePassed, RiseIn, runs_of}
use Rattle.idx_dock.proofs.NextLemmas.{ArePassed-set}
use Rattle.idx_dock.proofs.TurnLemmas.{next_here}
use Rattle.idx_dock.proofs.next.next_run.Goals as goal
use Rattle.idx_dock.proofs.next.next_run.Goals.{then-place-awaited+else-begins_by, else-place-awaited}

pub next_of_piece-run-requires-clause-rise : goal.next_of_piece-run-requires-clause-rise
next_of_piece-run-requires-clause-rise c =
    let P : Awaited → Type 0 = λ a. (field : ℕ) → RiseIn c.args.header.now field (runs_of a) in
    let here = subst P (sym c.index-awaited-place.is) (All-get_or P c.args.awaited.now c.args.turn.now c.index-awaited-place.result c.if-place-awaited.true c.requires.writable.rising) in
    here c.args.field

pub returns-then-begins_by-clause-next : goal.returns-then-begins_by-clause-next
returns-then-begins_by-clause-next c =
    next_here c.args.header.now c.args.field c.args.from c.args.awaited.now c.args.turn.now c.index-awaited-place.result (option_copied c.next_of_piece-run.result) c.requires.writable.apart c.if-place-awaited.true
    c.index-awaited-place.is c.next_of_piece-run.ensures.next (c.begins_by.ensures c.if-begins_by.true)

pub least_run-requires-clause-passed : goal.least_run-requires-clause-passed
least_run-requires-clause-passed c = elim c.if-place-awaited.branch [
  | then-place-awaited+else-begins_by w ↦
      subst (λ (counts : List ℕ). ArePassed c.args.header.now c.args.field c.args.from c.args.awaited.now counts) (sym w.passed-is)
      (ArePassed-set c.args.header.now c.args.field c.args.from c.args.awaited.now c.args.passed.now c.args.turn.now w.next_of_piece-run.new.passed w.index-awaited-place.result w.if-place-awaited.true w.index-awaited-place.is
      c.requires.passed w.next_of_piece-run.ensures.passed)
  | else-place-awaited w ↦
      subst (λ (counts : List ℕ). ArePassed c.args.header.now c.args.field c.args.from c.args.awaited.now counts) (sym w.passed-is) c.requires.passed
]
