use Rattle.std.proofs.Common.{length}
use Rattle.idx_gather.proofs.ShipLemmas.{loads_are}
use Rattle.idx_gather.proofs.LoadLemmas.{batch_fits}
use Rattle.idx_memory_bound.proofs.laws.parcelled_pieces_fit_into_the_room.Goals as goal

pub returns : goal.returns
returns c = λ h step ranks room done pieces left files paths docks loads valid opening are known.
    batch_fits h room loads left valid
    (λ k d lt. (loads_are h step ranks room pieces files paths opening (length paths) done loads left docks are known k d lt).piece) known
