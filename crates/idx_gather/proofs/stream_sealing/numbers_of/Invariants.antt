use Rattle.std.proofs.Common.{◌≡◌, map, take}
use Rattle.idx_gather.proofs.stream_sealing.numbers_of.Given as goal

abbrev pub invariant-loop-dock : goal.invariant-loop-dock
invariant-loop-dock l = l.numbers.items ≡ map (λ d. d.file) (take l.dock-index l.docks)
