use Rattle.std.proofs.Common.{◌++◌, get_or, ap, ◌∙◌, sym, append-nil, append_assoc}
use Rattle.idx_names.specs.declared.piece.Piece.TheVariants.{Byte}
use Rattle.idx_names.specs.Pieces.{piece_text}
use Rattle.idx_names.proofs.PieceLemmas.{text_more, text_none}
use Rattle.idx_names.proofs.pieces.append_text.Goals as goal

pub loop-piece-init : goal.loop-piece-init
loop-piece-init c = sym (ap (λ t. c.args.out.now ++ t) (text_none c.args.kind) ∙ append-nil c.args.out.now)

pub loop-piece-preserved : goal.loop-piece-preserved
loop-piece-preserved c =
    let more = text_more c.args.kind c.args.pieces.now c.loop-piece.piece-index (Byte 0) c.loop-piece-test.true in
    c.in_ok-append_text.ensures ∙ ap (λ t. t ++ piece_text c.args.kind (get_or c.args.pieces.now c.loop-piece.piece-index (Byte 0))) c.loop-piece.invariant
    ∙ append_assoc c.args.out.now _ _ ∙ ap (λ t. c.args.out.now ++ t) (sym more)
