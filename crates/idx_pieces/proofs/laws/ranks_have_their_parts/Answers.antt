use Rattle.idx_pieces.proofs.LawLemmas.{ranks_of_piece, whole_part}
use Rattle.idx_pieces.proofs.laws.ranks_have_their_parts.Goals as goal

pub returns-clause-ranks : goal.returns-clause-ranks
returns-clause-ranks c h piece rank valid is = ranks_of_piece h piece rank is

pub returns-clause-whole : goal.returns-clause-whole
returns-clause-whole c = whole_part
