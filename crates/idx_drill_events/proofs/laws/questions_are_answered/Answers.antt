use Rattle.idx_drill_events.proofs.AskLemmas.{ask-leads, all-lead, after-board, after-shape, after-newest, each-answered, fill-none}
use Rattle.idx_drill_events.proofs.laws.questions_are_answered.Goals as goal

pub returns-clause-one : goal.returns-clause-one
returns-clause-one c = ask-leads

pub returns-clause-all : goal.returns-clause-all
returns-clause-all c = λ s w before xs. all-lead s xs before w

pub returns-clause-answered : goal.returns-clause-answered
returns-clause-answered c = each-answered

pub returns-clause-board : goal.returns-clause-board
returns-clause-board c = after-board

pub returns-clause-shape : goal.returns-clause-shape
returns-clause-shape c = after-shape

pub returns-clause-nothing : goal.returns-clause-nothing
returns-clause-nothing c = fill-none

pub returns-clause-newest : goal.returns-clause-newest
returns-clause-newest c = after-newest
