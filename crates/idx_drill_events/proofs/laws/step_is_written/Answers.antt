use Rattle.idx_drill_events.proofs.DrillLemmas.{whole-post}
use Rattle.idx_drill_events.proofs.WriteLemmas.{step-leads}
use Rattle.idx_drill_events.proofs.laws.step_is_written.Goals as goal

pub returns-clause-may : goal.returns-clause-may
returns-clause-may c = λ s pieces ranks all w time revision raw alone. (step-leads s pieces ranks all w time revision raw alone).0

pub returns-clause-leaves : goal.returns-clause-leaves
returns-clause-leaves c = λ s pieces ranks all w time revision raw alone. (step-leads s pieces ranks all w time revision raw alone).1

pub returns-clause-post : goal.returns-clause-post
returns-clause-post c = whole-post
