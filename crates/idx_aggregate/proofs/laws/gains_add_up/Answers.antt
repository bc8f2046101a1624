use Rattle.idx_aggregate.proofs.GainLemmas.{gain_more}
use Rattle.idx_aggregate.proofs.laws.gains_add_up.Goals as goal

pub returns : goal.returns
returns c = gain_more
