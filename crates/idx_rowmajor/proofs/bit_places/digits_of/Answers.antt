use Rattle.std.proofs.Common.{ℕ, ◌+◌, sym, subst}
use Rattle.idx_rowmajor.proofs.DigitLemmas.{IsCounted, IsCounted-same, IsCounted-other}
use Rattle.idx_rowmajor.proofs.bit_places.digits_of.Goals as goal
use Rattle.idx_rowmajor.proofs.bit_places.digits_of.Goals.{then-axis, else-axis}

pub loop-bit-preserved : goal.loop-bit-preserved
loop-bit-preserved c =
    let bit : ℕ = c.loop-bit.bit in
    elim c.if-axis.branch [
      | then-axis w ↦ subst (λ n. IsCounted c.args.mask.now c.args.first c.args.bits c.args.axis (bit + 1) n) (sym w.count-is)
          (IsCounted-same c.args.mask.now c.args.first c.args.bits c.args.axis bit c.loop-bit.count c.axis.result c.requires.digits c.loop-bit-test.true c.axis.ensures.value w.if-axis.true c.loop-bit.invariant)
      | else-axis w ↦ subst (λ n. IsCounted c.args.mask.now c.args.first c.args.bits c.args.axis (bit + 1) n) (sym w.count-is)
          (IsCounted-other c.args.mask.now c.args.first c.args.bits c.args.axis bit c.loop-bit.count c.axis.result c.requires.digits c.loop-bit-test.true c.axis.ensures.value w.if-axis.false c.loop-bit.invariant)
    ]
