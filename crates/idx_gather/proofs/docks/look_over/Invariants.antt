use Rattle.std.proofs.Common.{take}
use Rattle.std.specs.Prelude.{All}
use Rattle.idx_dock.specs.Dock.{IsDock}
use Rattle.idx_gather.proofs.docks.look_over.Given as goal

-- so it is of the docks before
abbrev pub invariant-loop-dock : goal.invariant-loop-dock
invariant-loop-dock l = All IsDock (take l.dock-index l.docks)
