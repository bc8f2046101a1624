use Rattle.idx_hz.proofs.GuessSteps.{HasRounds}
use Rattle.idx_hz.proofs.guessed.mask_of_bits.Given as goal

abbrev pub invariant-loop-round : goal.invariant-loop-round
invariant-loop-round l = HasRounds l.bits l.total l.round l.len l.digits
