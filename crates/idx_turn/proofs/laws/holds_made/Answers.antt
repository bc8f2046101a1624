use Rattle.idx_turn.proofs.HoldsLemmas.{both_held, none_held}
use Rattle.idx_turn.proofs.laws.holds_made.Goals as goal

pub returns-clause-both : goal.returns-clause-both
returns-clause-both c = λ before between after n m first second. both_held before between after n m first second

pub returns-clause-none : goal.returns-clause-none
returns-clause-none c = none_held
