use Rattle.std.proofs.Common.{List, sym, subst}
use Rattle.std.specs.Option.{option_copied}
use Rattle.idx_pieces.specs.declared.run.Run.{Run}
use Rattle.idx_dock.specs.Next.{IsNext, RiseIn}
use Rattle.idx_dock.proofs.NextLemmas.{next_at}
use Rattle.idx_dock.proofs.next.next_of_piece.Goals as goal

pub returns-clause-next : goal.returns-clause-next
returns-clause-next c =
    let h = c.args.header.now in
    let runs = c.runs_of-runs.result.now in
    let rise = subst (RiseIn h c.args.field) (sym c.runs_of-runs.ensures) c.requires.rise in
    subst (λ (rs : List Run). IsNext h c.args.field c.args.from rs (option_copied c.run_at.result)) c.runs_of-runs.ensures
    (subst (IsNext h c.args.field c.args.from runs) (sym c.run_at.ensures)
    (next_at h c.args.field c.args.from runs c.pass-place.result rise c.pass-place.ensures.passed c.pass-place.ensures.left))
