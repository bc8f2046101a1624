use Rattle.idx_header.proofs.RevisionLemmas.{next_below, next_few, next_first, next_none, next_stops, next_untimed, stands_none, stands_timed}
use Rattle.idx_header.proofs.laws.revisions_are_counted.Goals as goal

pub returns-clause-few : goal.returns-clause-few
returns-clause-few c = next_few

pub returns-clause-below : goal.returns-clause-below
returns-clause-below c = λ h s r files low. next_below h s files r low

pub returns-clause-next : goal.returns-clause-next
returns-clause-next c = next_stops

pub returns-clause-first : goal.returns-clause-first
returns-clause-first c = λ h s files. (next_none h s files, next_first h s files)

pub returns-clause-none : goal.returns-clause-none
returns-clause-none c = stands_none

pub returns-clause-untimed : goal.returns-clause-untimed
returns-clause-untimed c = next_untimed

pub returns-clause-timed : goal.returns-clause-timed
returns-clause-timed c = stands_timed
