use Rattle.idx_pieces.proofs.LawLemmas.{of_rank, only_rank, rank_is_region, rank_of_point}
use Rattle.idx_pieces.proofs.laws.ranks_divide_the_box.Goals as goal

pub returns-clause-regions : goal.returns-clause-regions
returns-clause-regions c = rank_is_region

pub returns-clause-within : goal.returns-clause-within
returns-clause-within c box n rank valid among p inside = (of_rank box n rank p valid among inside).inside

pub returns-clause-some : goal.returns-clause-some
returns-clause-some c = rank_of_point

pub returns-clause-only : goal.returns-clause-only
returns-clause-only c = only_rank
