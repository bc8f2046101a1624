use Rattle.std.proofs.Common.{◌++◌, get_or, ap, ◌∙◌, sym, append-nil, append_assoc}
use Rattle.idx_names.specs.declared.piece.Piece.TheVariants.{Byte}
use Rattle.idx_names.specs.TimeTemplate.{step_piece}
use Rattle.idx_names.proofs.PathLemmas.{folder_more, folder_none}
use Rattle.idx_names.proofs.path.append_folder.Goals as goal

pub loop-piece-init : goal.loop-piece-init
loop-piece-init c = sym (ap (λ t. c.args.path.now ++ t) (folder_none c.args.step) ∙ append-nil c.args.path.now)

pub loop-piece-preserved : goal.loop-piece-preserved
loop-piece-preserved c =
    let more = folder_more c.args.step c.args.pieces.now c.loop-piece.piece-index (Byte 0) c.loop-piece-test.true in
    c.in_ok-append_step_piece.ensures
    ∙ ap (λ t. t ++ step_piece c.args.step (get_or c.args.pieces.now c.loop-piece.piece-index (Byte 0))) c.loop-piece.invariant
    ∙ append_assoc c.args.path.now _ _ ∙ ap (λ t. c.args.path.now ++ t) (sym more)
