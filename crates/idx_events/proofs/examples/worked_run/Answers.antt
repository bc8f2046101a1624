use Rattle.std.proofs.Common.{refl}
use Rattle.idx_events.proofs.TinyLemmas.{tiny-laws}
use Rattle.idx_events.proofs.examples.worked_run.Goals as goal

pub returns-clause-enabled : goal.returns-clause-enabled
returns-clause-enabled c = refl

pub returns-clause-answers : goal.returns-clause-answers
returns-clause-answers c = refl

pub returns-clause-stale : goal.returns-clause-stale
returns-clause-stale c = refl

pub returns-clause-refused : goal.returns-clause-refused
returns-clause-refused c = refl

pub returns-clause-newer : goal.returns-clause-newer
returns-clause-newer c = refl

pub returns-clause-laws : goal.returns-clause-laws
returns-clause-laws c = tiny-laws
