use Rattle.idx_hall.proofs.NewestLemmas.{newest-before, newest-rises}
use Rattle.idx_hall.proofs.laws.newest_rises.Goals as goal

pub returns-clause-before : goal.returns-clause-before
returns-clause-before c = λ board more time number is within. newest-before board more time number is within

pub returns-clause-rises : goal.returns-clause-rises
returns-clause-rises c = λ board more time was is before after. newest-rises board more time was is before after
