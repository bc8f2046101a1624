use Rattle.idx_pieces.proofs.LawLemmas.{piece_exact, piece_is_region, piece_one}
use Rattle.idx_pieces.proofs.laws.pieces_divide_the_box.Goals as goal

pub returns-clause-regions : goal.returns-clause-regions
returns-clause-regions c = piece_is_region

pub returns-clause-exact : goal.returns-clause-exact
returns-clause-exact c = piece_exact

pub returns-clause-one : goal.returns-clause-one
returns-clause-one c = piece_one
