use Rattle.idx_plan.proofs.AnswerLemmas.{copied, needed-block}
use Rattle.idx_plan.proofs.laws.copied_blocks_are_the_answer.Goals as goal

pub returns-clause-answer : goal.returns-clause-answer
returns-clause-answer c = λ h ask content out valid field. copied h ask content out

pub returns-clause-needed : goal.returns-clause-needed
returns-clause-needed c = λ h ask place p valid. needed-block h ask place p valid.bits_within
