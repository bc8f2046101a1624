use Rattle.idx_hz.proofs.GuessSteps.{HasBits}
use Rattle.idx_hz.proofs.guessed.bits_of_axes.Given as goal

abbrev pub invariant-loop-axis : goal.invariant-loop-axis
invariant-loop-axis l = HasBits l.region l.axis l.bits
