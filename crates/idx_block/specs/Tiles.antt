-- Lanes that are cut: one of them loses its lowest bit, which a lane of two coordinates gives in its place. Cut three
-- times, lanes lead to tiles, whose eight samples go to neighbouring places.
use Rattle.std.specs.Prelude.{◌≡◌, ℕ, ◌+◌, ◌-◌, ◌*◌, ◌/◌, ◌%◌, ◌<◌, List, [], ◌∷◌, ◌++◌}
use Rattle.idx_lanes.specs.Spread.{part_after}
use Rattle.idx_lanes.specs.declared.lane.Lane.{Lane}

-- every second coordinate of a lane, without the bit that tells neighbours apart
abbrev pub half_of : Lane → ℕ → Lane
half_of lane bit = record { step = lane.step * 2; count = lane.count / 2; bits = lane.bits - bit; first = lane.first }

-- two coordinates, so many bytes apart, the second of which gives a bit
abbrev pub pair_of : ℕ → ℕ → Lane
pair_of step bit = record { step = step; count = 2; bits = bit; first = 0 }

-- the coordinates of a lane are pairs, of which the second gives a bit more than the first
pub record IsSplit (lane : Lane) (bit : ℕ) : Type 0 where
  pub even : lane.count % 2 ≡ 0
  pub one : part_after bit 0 1 ≡ bit
  pub low : (k : ℕ) → k < lane.count / 2 →
      part_after lane.bits lane.first (k * 2) ≡ part_after (lane.bits - bit) lane.first k
  pub high : (k : ℕ) → k < lane.count / 2 →
      part_after lane.bits lane.first (k * 2 + 1) ≡ part_after (lane.bits - bit) lane.first k + bit

-- one of the lanes, whose coordinates are so many bytes apart, has lost a bit
pub record IsCut (old new : List Lane) (bit step : ℕ) : Type 0 where
  pub slower : List Lane
  pub lane : Lane
  pub faster : List Lane
  pub before : old ≡ slower ++ (lane ∷ faster)
  pub after : new ≡ slower ++ (half_of lane bit ∷ faster)
  pub split : IsSplit lane bit
  pub apart : step ≡ lane.step

-- the three lanes of a tile
abbrev pub tile_lanes : ℕ → ℕ → ℕ → List Lane
tile_lanes one two four = pair_of four 4 ∷ (pair_of two 2 ∷ (pair_of one 1 ∷ []))

-- lanes that were cut three times
pub record AreTiled (old new : List Lane) (one two four : ℕ) : Type 0 where
  pub once : List Lane
  pub twice : List Lane
  pub first : IsCut old once 1 one
  pub second : IsCut once twice 2 two
  pub third : IsCut twice new 4 four
