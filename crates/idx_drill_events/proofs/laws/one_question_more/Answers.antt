use Rattle.idx_drill_events.proofs.MoreLemmas.{events-more, hall-more, queries-more, are-more, events-by_number}
use Rattle.idx_drill_events.proofs.laws.one_question_more.Goals as goal

pub returns-clause-events : goal.returns-clause-events
returns-clause-events c = events-more

pub returns-clause-hall : goal.returns-clause-hall
returns-clause-hall c = hall-more

pub returns-clause-queries : goal.returns-clause-queries
returns-clause-queries c = queries-more

pub returns-clause-asked : goal.returns-clause-asked
returns-clause-asked c = are-more

pub returns-clause-by_number : goal.returns-clause-by_number
returns-clause-by_number c = events-by_number
