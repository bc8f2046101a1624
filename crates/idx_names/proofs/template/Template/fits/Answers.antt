use Rattle.std.proofs.Common.{◌≡◌, ◌/◌, ◌^◌, take, ap, ◌∙◌, take_all}
use Rattle.idx_names.specs.declared.piece.Piece.TheVariants.{Byte}
use Rattle.idx_names.specs.Pieces.{bits_of}
use Rattle.idx_names.specs.Template.{TemplateValue, room}
use Rattle.idx_names.proofs.PieceLemmas.{shifted_more, nothing_left}
use Rattle.idx_names.proofs.template.Template.fits.Goals as goal

pub loop-piece-preserved : goal.loop-piece-preserved
loop-piece-preserved c =
    c.high_bits-left.ensures ∙ ap (λ n. c.loop-piece.left / 2 ^ n) c.bits.ensures
    ∙ shifted_more c.deref-piece-items.result.now c.loop-piece.piece-index (Byte 0) c.args.file c.loop-piece.left c.loop-piece-test.true c.loop-piece.invariant

pub returns : goal.returns
unfolding room
returns c =
    let all : bits_of (take c.loop-piece.piece-index c.deref-piece-items.result.now) ≡ bits_of c.args.self.now.pieces =
    ap bits_of (take_all c.loop-piece.piece-index c.deref-piece-items.result.now c.loop-piece-test.false ∙ c.deref-piece-items.ensures.value ∙ ap (λ (t : TemplateValue). t.pieces) c.self.view_is) in
    nothing_left c.loop-piece.left c.args.file (bits_of c.args.self.now.pieces) (c.loop-piece.invariant ∙ ap (λ n. c.args.file / 2 ^ n) all)
