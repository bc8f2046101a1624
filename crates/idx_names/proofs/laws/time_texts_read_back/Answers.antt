use Rattle.idx_names.proofs.TimeLemmas.{made_time, time_read_again, time_spelled}
use Rattle.idx_names.proofs.laws.time_texts_read_back.Goals as goal

pub returns-clause-plain : goal.returns-clause-plain
returns-clause-plain c = λ t h. time_read_again t (made_time t h)

pub returns-clause-spelled : goal.returns-clause-spelled
returns-clause-spelled c = time_spelled
