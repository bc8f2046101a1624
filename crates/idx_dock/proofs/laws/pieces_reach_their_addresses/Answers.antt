use Rattle.idx_dock.proofs.ReachLemmas.{reaches_addresses}
use Rattle.idx_dock.proofs.laws.pieces_reach_their_addresses.Goals as goal

pub returns : goal.returns
returns c = reaches_addresses
