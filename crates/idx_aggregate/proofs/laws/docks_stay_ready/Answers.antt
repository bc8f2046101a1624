use Rattle.idx_aggregate.proofs.GainLemmas.{ready_stays}
use Rattle.idx_aggregate.proofs.ReadyLemmas.{ready_first}
use Rattle.idx_aggregate.proofs.laws.docks_stay_ready.Goals as goal

pub returns-clause-first : goal.returns-clause-first
returns-clause-first c = ready_first

pub returns-clause-others : goal.returns-clause-others
returns-clause-others c = ready_stays
