use Rattle.std.proofs.Common.{◌∙◌}
use Rattle.idx_pieces.specs.Pieces.{has_piece}
use Rattle.idx_pieces.proofs.BoundsLemmas.{found_iff_test}
use Rattle.idx_pieces.proofs.piece_ids.has_piece.Goals as goal

pub returns : goal.returns
returns c = c.is_some.ensures ∙ found_iff_test (has_piece c.args.mask.now c.args.region.now c.args.e c.args.id) _ c.piece_region.result c.piece_region.ensures
