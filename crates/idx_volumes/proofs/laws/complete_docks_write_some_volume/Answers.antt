use Rattle.idx_volumes.proofs.DockLemmas.{dock_volume}
use Rattle.idx_volumes.proofs.laws.complete_docks_write_some_volume.Goals as goal

pub returns : goal.returns
returns c = λ d is none. dock_volume d is
