use Rattle.idx_plan.proofs.AnswerLemmas.{all_levels}
use Rattle.idx_plan.proofs.laws.all_levels_are_all_samples.Goals as goal

pub returns : goal.returns
returns c = all_levels
