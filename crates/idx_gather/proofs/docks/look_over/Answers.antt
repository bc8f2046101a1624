use Rattle.std.proofs.Common.{List, subst, arith}
use Rattle.std.specs.Prelude.{All}
use Rattle.std.proofs.lemmas.List.Elements.{All-more}
use Rattle.idx_ship.proofs.ShipmentLemmas.{take_all}
use Rattle.idx_dock.specs.Dock.{DockValue, IsDock}
use Rattle.idx_gather.proofs.docks.look_over.Goals as goal

pub loop-dock-preserved : goal.loop-dock-preserved
loop-dock-preserved c =
    All-more IsDock c.args.docks.now c.loop-dock.dock-index c.dock-item.result (omega (arith, c.loop-dock-test.true)) c.loop-dock.invariant
    (subst IsDock c.dock-item.is c.file-file.ensures.valid)

pub returns : goal.returns
returns c =
    subst (λ (xs : List DockValue). All IsDock xs) (take_all c.loop-dock.dock-index c.args.docks.now c.loop-dock-test.false) c.loop-dock.invariant
