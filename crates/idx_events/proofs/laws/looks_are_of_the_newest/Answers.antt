use Rattle.idx_events.proofs.NewestLemmas.{all-kept, all-stay, first-look}
use Rattle.idx_events.proofs.laws.looks_are_of_the_newest.Goals as goal

pub returns-clause-first : goal.returns-clause-first
returns-clause-first c = first-look

pub returns-clause-kept : goal.returns-clause-kept
returns-clause-kept c = all-kept

pub returns-clause-board : goal.returns-clause-board
returns-clause-board c = all-stay
