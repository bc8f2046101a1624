use Rattle.std.proofs.Common.{◌≡◌, ℕ, ◌<◌, length, get_or}
use Rattle.idx_scatter.specs.Legs.{IsLeg, no_leg}
use Rattle.idx_scatter.proofs.order.Order.legs.Given as goal

-- the legs of the axes so far
abbrev pub invariant-loop-axis : goal.invariant-loop-axis
invariant-loop-axis l = record {
  room : length l.legs ≡ 5;
  each : (a : ℕ) → a < l.axis → IsLeg l.self l.part a (get_or l.legs a no_leg);
}
