use Rattle.std.proofs.Common.{refl}
use Rattle.idx_drill_events.proofs.WorkedLemmas.{small-laws, small-drill}
use Rattle.idx_drill_events.proofs.examples.worked_drill.Goals as goal

pub returns-clause-events : goal.returns-clause-events
returns-clause-events c = refl

pub returns-clause-enabled : goal.returns-clause-enabled
returns-clause-enabled c = refl

pub returns-clause-answers : goal.returns-clause-answers
returns-clause-answers c = refl

pub returns-clause-cached : goal.returns-clause-cached
returns-clause-cached c = refl

pub returns-clause-laws : goal.returns-clause-laws
returns-clause-laws c = small-laws

pub returns-clause-drill : goal.returns-clause-drill
returns-clause-drill c = small-drill
