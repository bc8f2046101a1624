use Rattle.std.proofs.Common.{◌≡◌, take}
use Rattle.idx_hall.proofs.board.share_all.Given as goal

abbrev pub invariant-loop-step : goal.invariant-loop-step
invariant-loop-step g l = l.steps.items ≡ take l.step-index l.board
