use Rattle.idx_hz.proofs.GuessSteps.{binary_digits-in_word}
use Rattle.idx_hz.proofs.guessed.digit_count.Goals as goal

pub returns : goal.returns
returns c = binary_digits-in_word c.args.end c.requires
