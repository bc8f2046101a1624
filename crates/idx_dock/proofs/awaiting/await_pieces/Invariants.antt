use Rattle.std.proofs.Common.{◌≡◌, map, take}
use Rattle.idx_dock.specs.Dock.{awaited_of, reaching}
use Rattle.idx_dock.proofs.awaiting.await_pieces.Given as goal

abbrev pub invariant-loop-piece : goal.invariant-loop-piece
invariant-loop-piece l = l.awaited.items ≡ map awaited_of (reaching l.header l.file (take l.piece-index l.pieces))
