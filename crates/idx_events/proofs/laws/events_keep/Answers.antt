use Rattle.idx_events.proofs.StartLemmas.{new-world, replay-keeps}
use Rattle.idx_events.proofs.WorldLemmas.{keeps, keeps-all}
use Rattle.idx_events.proofs.laws.events_keep.Goals as goal

pub returns-clause-new : goal.returns-clause-new
returns-clause-new c = new-world

pub returns-clause-step : goal.returns-clause-step
returns-clause-step c = keeps

pub returns-clause-all : goal.returns-clause-all
returns-clause-all c = keeps-all

pub returns-clause-refused : goal.returns-clause-refused
returns-clause-refused c = replay-keeps
