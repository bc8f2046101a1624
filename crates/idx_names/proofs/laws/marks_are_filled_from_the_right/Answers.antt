use Rattle.idx_names.proofs.RightLemmas.{right_mark, only_mark}
use Rattle.idx_names.proofs.laws.marks_are_filled_from_the_right.Goals as goal

pub returns-clause-last : goal.returns-clause-last
returns-clause-last c = right_mark

pub returns-clause-alone : goal.returns-clause-alone
returns-clause-alone c = only_mark
