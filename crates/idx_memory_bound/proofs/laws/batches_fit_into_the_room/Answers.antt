use Rattle.idx_gather.proofs.LoadLemmas.{batch_fits}
use Rattle.idx_memory_bound.proofs.laws.batches_fit_into_the_room.Goals as goal

pub returns : goal.returns
returns c = batch_fits
