use Rattle.std.proofs.Common.{◌≡◌, take}
use Rattle.std.specs.List.{flat_map}
use Rattle.idx_pieces.specs.Pieces.{has_piece}
use Rattle.idx_pieces.proofs.IdLemmas.{passing_halves}
use Rattle.idx_pieces.proofs.piece_ids.halves.Given as goal

-- the halves of the pieces so far
abbrev pub invariant-loop-whole : goal.invariant-loop-whole
invariant-loop-whole l = l.ids.items ≡ flat_map (passing_halves (has_piece l.mask l.region l.e)) (take l.whole-index l.wholes)
