use Rattle.std.proofs.Common.{sym, subst}
use Rattle.std.proofs.lemmas.List.Elements.{All-get_or}
use Rattle.idx_pieces.specs.Pieces.{IsPiece}
use Rattle.idx_gather.proofs.wanted.wanted_pieces.Goals as goal

pub is_wanted-requires-clause-piece : goal.is_wanted-requires-clause-piece
is_wanted-requires-clause-piece c =
    subst (IsPiece c.args.header.now) (sym c.piece-item.is)
    (All-get_or (IsPiece c.args.header.now) c.args.pieces.now c.loop-piece.piece-index c.piece-item.result c.loop-piece-test.true c.requires.pieces)
