use Rattle.std.proofs.Common.{◌≡◌, ◌++◌, take}
use Rattle.idx_names.specs.Pieces.{pieces_text}
use Rattle.idx_names.proofs.pieces.append_text.Given as goal

abbrev pub invariant-loop-piece : goal.invariant-loop-piece
invariant-loop-piece l = l.out ≡ l.fn.out ++ pieces_text l.kind (take l.piece-index l.pieces)
