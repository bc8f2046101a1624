use Rattle.std.proofs.Common.{◌≡◌, true, length, ap, ◌∙◌}
use Rattle.idx_pieces.proofs.BoundsLemmas.{value_from_SomeIff}
use Rattle.idx_pieces.proofs.MadeLemmas.{length-piece_region, piece_made}
use Rattle.idx_pieces.specs.Pieces.{has_piece, piece_region}
use Rattle.idx_pieces.proofs.all_pieces.piece_at.Goals as goal

pub returns : goal.returns
returns c =
    piece_made c.args.header.now c.mask.result c.region-whole.result c.unwrap-region.result c.from_vec-ranks.result c.args.e c.args.n c.args.id
    c.mask.ensures.value c.region-whole.ensures.value
    (value_from_SomeIff (has_piece c.mask.result c.region-whole.result c.args.e c.args.id ≡ true) c.piece_region.result (piece_region c.mask.result c.region-whole.result c.args.e c.args.id) c.unwrap-region.result c.piece_region.ensures c.unwrap-region.ensures)
    (c.from_vec-ranks.ensures ∙ c.in_ok-ranks_in.ensures)

pub ranks_in-requires : goal.ranks_in-requires
ranks_in-requires c =
    ap length (value_from_SomeIff (has_piece c.mask.result c.region-whole.result c.args.e c.args.id ≡ true) c.piece_region.result (piece_region c.mask.result c.region-whole.result c.args.e c.args.id) c.unwrap-region.result c.piece_region.ensures c.unwrap-region.ensures)
    ∙ length-piece_region c.mask.result c.region-whole.result c.args.e c.args.id
