use Rattle.idx_drill_model.proofs.CacheLemmas.{cache-empty, kept-fill, kept-look, kept-round, missed-new, missing-new}
use Rattle.idx_drill_model.proofs.laws.caches_keep_up.Goals as goal

pub returns-clause-empty : goal.returns-clause-empty
returns-clause-empty c = cache-empty

pub returns-clause-missing : goal.returns-clause-missing
returns-clause-missing c = missing-new

pub returns-clause-missed : goal.returns-clause-missed
returns-clause-missed c = missed-new

pub returns-clause-look : goal.returns-clause-look
returns-clause-look c = λ n l h at. kept-look n l h at

pub returns-clause-fill : goal.returns-clause-fill
returns-clause-fill c = λ n l h at. kept-fill n l h at

pub returns-clause-round : goal.returns-clause-round
returns-clause-round c = λ n l h after post at. kept-round n l h at post after
