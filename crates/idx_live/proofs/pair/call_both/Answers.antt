use Rattle.std.proofs.Common.{rules}
use Rattle.idx_live.proofs.PairLemmas.{runs_to}
use Rattle.idx_live.proofs.pair.call_both.Goals as goal

pub returns-clause-first : goal.returns-clause-first
returns-clause-first g c = runs_to c.join_mut.ensures.0.met.1 (search rules) (search rules)

pub returns-clause-second : goal.returns-clause-second
returns-clause-second g c = runs_to c.join_mut.ensures.1.met.1 (search rules) (search rules)
