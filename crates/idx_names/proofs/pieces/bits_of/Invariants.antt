use Rattle.std.proofs.Common.{◌≡◌, take}
use Rattle.idx_names.specs.Pieces.{bits_of}
use Rattle.idx_names.proofs.pieces.bits_of.Given as goal

abbrev pub invariant-loop-piece : goal.invariant-loop-piece
invariant-loop-piece l = l.bits ≡ bits_of (take l.piece-index l.pieces)
