use Rattle.std.proofs.Common.{◌≡◌, map, take}
use Rattle.idx_pieces.specs.Pieces.{piece_at}
use Rattle.idx_pieces.proofs.all_pieces.pieces.Given as goal

-- the pieces so far
abbrev pub invariant-loop-id : goal.invariant-loop-id
invariant-loop-id l = l.pieces.items ≡ map (piece_at l.header l.e l.n) (take l.id-index l.id-items)
