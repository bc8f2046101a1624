-- The lanes along which the samples of a block lie in a row-major volume: on each axis the points of the block's level
-- between two bounds.
use Rattle.std.specs.Prelude.{◌≡◌, ℕ, zero, suc, ◌+◌, ◌-◌, ◌*◌, ◌/◌, ◌<◌, ◌≤◌, List, [], ◌∷◌, take, drop}
use Rattle.std.specs.List.{slice_index_or}
use Rattle.idx_geom.specs.Region.{extent}
use Rattle.idx_hz.specs.Stride.{stride}
use Rattle.idx_grid.specs.LevelGrid.{first_on}
use Rattle.idx_lanes.specs.Axis.{count_to, first_from, step_of}
use Rattle.idx_lanes.specs.Spread.{axis_bits, part_after, spread}
use Rattle.idx_lanes.specs.Copies.{IsRight}
use Rattle.idx_lanes.specs.declared.block_part.BlockPart.{BlockPart}
use Rattle.idx_lanes.specs.declared.lane.Lane.{Lane}

-- the digits of the places of a block: those behind the first k, as many as its addresses have bits
abbrev pub block_digits : List ℕ → ℕ → ℕ → List ℕ
block_digits mask k bits = drop k (take (bits + k) mask)

-- the bounds of the points and those of the box, on an axis
abbrev pub bounds_on : BlockPart → ℕ → ℕ × ℕ
bounds_on part axis = slice_index_or part.common axis (0, 0)

abbrev pub box_on : BlockPart → ℕ → ℕ × ℕ
box_on part axis = slice_index_or part.region axis (0, 0)

-- how far the points lie apart on an axis, and the lowest coordinate of a point there
abbrev pub step_on : BlockPart → ℕ → ℕ
step_on part axis = stride part.mask (part.bits + part.k) axis

abbrev pub lowest_on : BlockPart → ℕ → ℕ
lowest_on part axis = first_on part.mask (suc (part.bits + part.k)) axis

-- the first coordinate between the bounds, and how many there are
abbrev pub start_on : BlockPart → ℕ → ℕ
start_on part axis = first_from (bounds_on part axis).0 (lowest_on part axis) (step_on part axis)

abbrev pub count_on : BlockPart → ℕ → ℕ
count_on part axis = count_to (start_on part axis) (bounds_on part axis).1 (step_on part axis)

-- how many bytes neighbouring coordinates lie apart in the volume
abbrev pub weight_on : BlockPart → ℕ → ℕ
weight_on part zero = part.size
weight_on part (suc axis) = weight_on part axis * extent (box_on part axis)

-- the lane of an axis
abbrev pub lane_on : BlockPart → ℕ → Lane
lane_on part axis =
    let digits : List ℕ = block_digits part.mask part.k part.bits in
    record {
      step = step_of (weight_on part axis) (step_on part axis) (count_on part axis);
      count = count_on part axis;
      bits = axis_bits axis digits;
      first = spread axis digits (start_on part axis / step_on part axis);
    }

-- the lanes of so many axes, the slowest first
abbrev pub lanes_of : BlockPart → ℕ → List Lane
lanes_of part zero = []
lanes_of part (suc axis) = lane_on part axis ∷ lanes_of part axis

-- the byte at which the first sample begins, by so many axes
abbrev pub from_of : BlockPart → ℕ → ℕ
from_of part zero = 0
from_of part (suc axis) = from_of part axis + (start_on part axis - (box_on part axis).0) * weight_on part axis

-- where the lanes of all axes begin
pub record AreLanes (part : BlockPart) (axes from : ℕ) (lanes : List Lane) : Type 0 where
  pub along : lanes ≡ lanes_of part axes
  pub begins : from ≡ from_of part axes
  pub some : (axis : ℕ) → axis < axes → 1 ≤ count_on part axis

-- ---- the copies along the lanes, by the numbers of their coordinates

-- the sum over so many axes
abbrev pub sum_to : (ℕ → ℕ) → ℕ → ℕ
sum_to f zero = 0
sum_to f (suc n) = sum_to f n + f n

-- on each of so many axes the number of a coordinate
abbrev pub AreNumbers : BlockPart → ℕ → (ℕ → ℕ) → Type 0
AreNumbers part axes ks = (axis : ℕ) → axis < axes → ks axis < count_on part axis

-- the byte at which the sample of these coordinates begins, and the place in the block that it goes to
abbrev pub byte_at : BlockPart → ℕ → (ℕ → ℕ) → ℕ
byte_at part axes ks = from_of part axes + sum_to (λ axis. ks axis * (lane_on part axis).step) axes

abbrev pub place_at : BlockPart → ℕ → (ℕ → ℕ) → ℕ
place_at part axes ks = sum_to (λ axis. part_after (lane_on part axis).bits (lane_on part axis).first (ks axis)) axes

-- the copies are made: their places are right, and what was right stays so
pub record AreCopied (want : ℕ → List ℕ) (part : BlockPart) (axes : ℕ) (old new : List ℕ) : Type 0 where
  pub kept : (o : ℕ) → IsRight want part.size old o → IsRight want part.size new o
  pub placed : (ks : ℕ → ℕ) → AreNumbers part axes ks → IsRight want part.size new (place_at part axes ks)
