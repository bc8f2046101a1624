use Rattle.std.proofs.Common.{sym, subst}
use Rattle.std.proofs.lemmas.List.Elements.{All-get_or}
use Rattle.idx_geom.specs.Region.{upper_ends}
use Rattle.idx_hz.specs.Mask.{HasAddress}
use Rattle.idx_pieces.specs.declared.piece.Piece.{Piece}
use Rattle.idx_dock.proofs.awaiting.await_pieces.Goals as goal

pub reaches-requires-clause-address : goal.reaches-requires-clause-address
reaches-requires-clause-address c =
    let P : Piece → Type 0 = λ piece. HasAddress c.args.header.now.mask (upper_ends piece.region) in
    subst P (sym c.piece-item.is) (All-get_or P c.args.pieces.now c.loop-piece.piece-index c.piece-item.result c.loop-piece-test.true c.requires.address)
