use Rattle.idx_hz.proofs.GuessSteps.{HasPlaced}
use Rattle.idx_hz.proofs.guessed.place_round.Given as goal

abbrev pub invariant-loop-axis : goal.invariant-loop-axis
invariant-loop-axis l = HasPlaced l.fn.digits l.placed l.bits l.round l.axis l.len l.digits
