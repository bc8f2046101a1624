use Rattle.std.proofs.Common.{◌≡◌, take}
use Rattle.idx_dock.proofs.awaited.copies.Given as goal

abbrev pub invariant-loop-piece : goal.invariant-loop-piece
invariant-loop-piece l = l.copies.items ≡ take l.piece-index l.awaited
