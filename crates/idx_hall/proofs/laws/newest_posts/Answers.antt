use Rattle.idx_hall.proofs.NewestLemmas.{IsLast, last-newest, newest-lacks, newest-last, newest-more, newest-none, newest-other}
use Rattle.idx_hall.proofs.laws.newest_posts.Goals as goal

pub returns-clause-none : goal.returns-clause-none
returns-clause-none c = λ board time none. newest-lacks board time none

pub returns-clause-lacks : goal.returns-clause-lacks
returns-clause-lacks c = λ board time lacks. newest-none board time lacks

pub returns-clause-last : goal.returns-clause-last
returns-clause-last c = λ board time number is. let last : IsLast board time number = newest-last board time number is in (last.post, last.at, last.time, last.last)

pub returns-clause-is_last : goal.returns-clause-is_last
returns-clause-is_last c = λ board time number post at same last. last-newest board time number (record { post = post; at = at; time = same; last = last })

pub returns-clause-more : goal.returns-clause-more
returns-clause-more c = λ board post time same. newest-more board post time same

pub returns-clause-other : goal.returns-clause-other
returns-clause-other c = λ board post time other. newest-other board post time other
