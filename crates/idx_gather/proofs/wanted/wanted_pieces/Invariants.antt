use Rattle.std.proofs.Common.{◌≡◌, take}
use Rattle.idx_gather.specs.States.{wanted}
use Rattle.idx_gather.proofs.wanted.wanted_pieces.Given as goal

abbrev pub invariant-loop-piece : goal.invariant-loop-piece
invariant-loop-piece l = l.found.items ≡ wanted l.header l.files (take l.piece-index l.pieces)
