use Rattle.std.proofs.Common.{slice_index, ap, ◌∙◌, arith}
use Rattle.idx_hz.specs.Guess.{binary_digits}
use Rattle.idx_hz.proofs.GuessSteps.{HasBits-more, sum-upper_bits}
use Rattle.idx_hz.proofs.guessed.bits_of_axes.Goals as goal

pub loop-axis-preserved : goal.loop-axis-preserved
loop-axis-preserved c =
    HasBits-more c.args.region.now c.loop-axis.axis c.loop-axis.bits c.digit_count.result (omega arith) (c.axes-axis-end.ensures.valid.axes.1)
    (c.digit_count.ensures ∙ ap binary_digits (c.get.ensures.value ∙ ap (λ upper. slice_index upper c.loop-axis.axis) c.hi-upper.ensures)) c.loop-axis.invariant

pub returns-clause-few : goal.returns-clause-few
returns-clause-few c = sum-upper_bits c.args.region.now c.axes-axis-end.ensures.valid.axes.1
