use Rattle.idx_rowmajor.proofs.DigitLemmas.{IsPlacing-more}
use Rattle.idx_rowmajor.proofs.bit_places.targets.Goals as goal

pub loop-bit-preserved : goal.loop-bit-preserved
loop-bit-preserved c =
    IsPlacing-more c.args.mask.now c.loop-bit.next c.loop-bit.targets c.args.first c.args.bits c.loop-bit.bit c.axis-axis.result c.requires.digits c.requires.few c.loop-bit-test.true c.axis-axis.ensures.small c.axis-axis.ensures.value c.loop-bit.invariant
