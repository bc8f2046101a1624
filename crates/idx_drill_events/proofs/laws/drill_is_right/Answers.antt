use Rattle.idx_drill_events.proofs.DrillLemmas.{drill-may, drill-answers, drill-hall, drill-ok, opened-newest, opened-current}
use Rattle.idx_drill_events.proofs.laws.drill_is_right.Goals as goal

pub returns-clause-may : goal.returns-clause-may
returns-clause-may c = λ s laws time raw pieces ranks capacity questions is. drill-may s laws pieces ranks is.all time capacity raw questions is.start is.asked

pub returns-clause-answers : goal.returns-clause-answers
returns-clause-answers c = λ s laws time raw pieces ranks capacity questions is. drill-answers s laws pieces ranks is.all time capacity raw questions is.start is.asked

pub returns-clause-hall : goal.returns-clause-hall
returns-clause-hall c = λ s laws time raw pieces ranks capacity questions is. drill-hall s laws pieces ranks is.all time capacity raw questions is.start is.asked

pub returns-clause-holds : goal.returns-clause-holds
returns-clause-holds c = λ s laws time raw pieces ranks capacity questions is. drill-ok s laws pieces ranks is.all time capacity raw questions is.start is.asked

pub returns-clause-newest : goal.returns-clause-newest
returns-clause-newest c = opened-newest

pub returns-clause-current : goal.returns-clause-current
returns-clause-current c = opened-current
