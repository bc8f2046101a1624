use Rattle.std.proofs.Common.{◌≡◌, ℕ, ◌<◌, length, get_or}
use Rattle.idx_hz.specs.Stride.{stride}
use Rattle.idx_scatter.specs.Sides.{IsSide}
use Rattle.idx_scatter.proofs.SideLemmas.{no_side}
use Rattle.idx_scatter.proofs.order.sides_of.Given as goal

-- the sides of the axes so far
abbrev pub invariant-loop-axis : goal.invariant-loop-axis
invariant-loop-axis l = record {
  room : length l.sides ≡ 5;
  each : (a : ℕ) → a < l.axis → IsSide (stride l.mask l.level a) (get_or l.region a (0, 0)) (get_or l.sides a no_side);
}
