use Rattle.std.proofs.Common.{◌≡◌, length}
use Rattle.idx_names.specs.Pieces.{pieces_of}
use Rattle.idx_names.proofs.ReadLemmas.{behind}
use Rattle.idx_names.proofs.pieces.read_pieces.Given as goal

abbrev pub invariant-loop-rest : goal.invariant-loop-rest
invariant-loop-rest l = behind l.pieces.items (pieces_of l.kind l.rest) ≡ pieces_of l.kind l.text

abbrev pub decreases-loop-rest : goal.decreases-loop-rest
decreases-loop-rest l = length l.rest
