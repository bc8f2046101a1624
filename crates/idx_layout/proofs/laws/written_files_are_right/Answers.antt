use Rattle.idx_layout.proofs.RightLemmas.{rows_fit, no_fault}
use Rattle.idx_layout.proofs.laws.written_files_are_right.Goals as goal

pub returns-clause-rows : goal.returns-clause-rows
returns-clause-rows c = rows_fit

pub returns-clause-none : goal.returns-clause-none
returns-clause-none c = no_fault
