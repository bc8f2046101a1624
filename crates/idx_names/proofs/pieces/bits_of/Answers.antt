use Rattle.std.proofs.Common.{◌+◌, arith}
use Rattle.idx_names.specs.declared.piece.Piece.TheVariants.{Byte}
use Rattle.idx_names.proofs.PieceLemmas.{bits_more, bits_within}
use Rattle.idx_names.proofs.pieces.bits_of.Goals as goal

pub overflow_add-bits : goal.overflow_add-bits
overflow_add-bits c =
    let more = bits_more c.args.pieces.now c.loop-piece.piece-index (Byte 0) c.loop-piece-test.true in
    let few = bits_within c.args.pieces.now (c.loop-piece.piece-index + 1) in
    omega (arith, more, few, c.bits-bits.ensures, c.requires, c.loop-piece.invariant)

pub loop-piece-preserved : goal.loop-piece-preserved
loop-piece-preserved c =
    let more = bits_more c.args.pieces.now c.loop-piece.piece-index (Byte 0) c.loop-piece-test.true in
    omega (arith, more, c.bits-bits.ensures, c.loop-piece.invariant)
