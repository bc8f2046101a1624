use Rattle.idx_aggregate.proofs.ReadyLemmas.{new_ready}
use Rattle.idx_aggregate.proofs.laws.new_docks_are_ready.Goals as goal

pub returns : goal.returns
returns c = new_ready
