use Rattle.idx_pieces.specs.Samples.{region_bytes}
use Rattle.idx_pieces.specs.declared.piece.Piece.{Piece}
use Rattle.idx_gather.proofs.RunLemmas.{run_fits}
use Rattle.idx_gather.proofs.laws.batches_fit_the_room.Goals as goal

pub returns : goal.returns
returns c = λ h room left. run_fits (λ (piece : Piece). region_bytes h piece.region) room left
