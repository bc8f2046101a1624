use Rattle.idx_gather.proofs.LoadLemmas.{load_takes}
use Rattle.idx_memory_bound.proofs.laws.parcels_take_as_their_piece.Goals as goal

pub returns : goal.returns
returns c = load_takes
