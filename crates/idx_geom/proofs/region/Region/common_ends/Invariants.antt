use Rattle.std.proofs.Common.{◌≡◌, ℕ, ◌<◌, length, get_or}
use Rattle.idx_geom.specs.Region.{common_bounds}
use Rattle.idx_geom.proofs.region.Region.common_ends.Given as goal

abbrev pub invariant-loop-axis : goal.invariant-loop-axis
invariant-loop-axis l = record {
  room_low : length l.lows ≡ 5;
  room_high : length l.highs ≡ 5;
  lows : (k : ℕ) → k < l.axis → get_or l.lows k 0 ≡ (get_or (common_bounds l.self l.other) k (0, 0)).0;
  highs : (k : ℕ) → k < l.axis → get_or l.highs k 0 ≡ (get_or (common_bounds l.self l.other) k (0, 0)).1;
}
