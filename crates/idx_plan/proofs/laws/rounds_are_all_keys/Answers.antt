use Rattle.idx_plan.proofs.RoundLemmas.{rounds-few, rounds-joined}
use Rattle.idx_plan.proofs.laws.rounds_are_all_keys.Goals as goal

pub returns-clause-all : goal.returns-clause-all
returns-clause-all c = rounds-joined

pub returns-clause-few : goal.returns-clause-few
returns-clause-few c = rounds-few
