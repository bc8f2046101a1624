use Rattle.std.proofs.Common.{take}
use Rattle.idx_gather.specs.States.{AreFull}
use Rattle.idx_gather.proofs.docks.are_full.Given as goal

-- the docks before miss nothing
abbrev pub invariant-loop-dock : goal.invariant-loop-dock
invariant-loop-dock l = AreFull (take l.dock-index l.docks)
