use Rattle.idx_drill_events.proofs.RunLemmas.{run-append, may-append, leads-append}
use Rattle.idx_drill_events.proofs.laws.joined_lists.Goals as goal

pub returns-clause-run : goal.returns-clause-run
returns-clause-run c = λ s w xs ys. run-append s xs ys w

pub returns-clause-may : goal.returns-clause-may
returns-clause-may c = λ s w xs ys. may-append s xs ys w

pub returns-clause-leads : goal.returns-clause-leads
returns-clause-leads c = λ s w v u xs ys. leads-append s w v u xs ys
