use Rattle.std.proofs.Common.{refl}
use Rattle.idx_hz.specs.Guess.{binary_digits}
use Rattle.idx_hz.proofs.examples.worked_guesses.Goals as goal

pub returns-clause-long : goal.returns-clause-long
unfolding binary_digits
returns-clause-long c = refl

pub returns-clause-square : goal.returns-clause-square
unfolding binary_digits
returns-clause-square c = refl

pub returns-clause-point : goal.returns-clause-point
unfolding binary_digits
returns-clause-point c = refl
