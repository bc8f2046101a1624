use Rattle.idx_aggregate.proofs.ReadyLemmas.{all_complete, all_hold}
use Rattle.idx_aggregate.proofs.laws.docks_become_complete.Goals as goal

pub returns-clause-complete : goal.returns-clause-complete
returns-clause-complete c = λ h loads division files docks all gain. all_complete h division loads all files docks gain

pub returns-clause-samples : goal.returns-clause-samples
returns-clause-samples c = λ h loads division files docks gain sample are held. all_hold h division loads files docks gain sample are held
