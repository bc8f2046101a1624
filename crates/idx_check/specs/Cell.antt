-- Where the points of a run of addresses of one level lie.
use Rattle.std.specs.Prelude.{◌≡◌, ℕ, ◌+◌, ◌*◌, ◌/◌, ◌^◌, ◌<◌, ◌≤◌, List, length, slice_index}
use Rattle.idx_geom.specs.Region.{lower_ends, upper_ends}
use Rattle.idx_hz.specs.Stride.{stride}
use Rattle.idx_grid.specs.Block.{IsInBlock}
use Rattle.idx_grid.specs.LevelGrid.{first_on, strides}
use Rattle.idx_check.specs.declared.cell.Cell.{Cell}
use Rattle.idx_check.specs.declared.cell.Level.{Level}

-- the ends of the box stand beside it
pub record AreEndsOf (level : Level) : Type 0 where
  pub lo : level.lo ≡ lower_ends level.region
  pub hi : level.hi ≡ upper_ends level.region

-- the points beside the box have its axes
pub record HaveAxes (level : Level) : Type 0 where
  pub lo : length level.lo ≡ length level.region
  pub hi : length level.hi ≡ length level.region
  pub step : length level.step ≡ length level.region

-- A cell of a level: the number of its run is a 1 and then so many digits, with which the Z addresses of its points begin. On each
-- axis these points lie between one multiple of the stride behind these digits and the next; `first` is the least coordinate there
-- that a point of the level has, and `end` the least one behind.
pub record IsCell (level : Level) (cell : Cell) : Type 0 where
  pub within : cell.bits + cell.digits < length level.mask
  pub from : 2 ^ cell.digits ≤ cell.number
  pub to : cell.number < 2 ^ (cell.digits + 1)
  pub ends : AreEndsOf level
  pub step : level.step ≡ strides level.mask (cell.bits + cell.digits) (length level.region)
  pub first : (p : List ℕ) → IsInBlock level.mask (length level.region) cell.bits cell.number p → (axis : ℕ) → axis < length level.region →
      slice_index cell.first axis ≡ slice_index p axis / stride level.mask cell.digits axis * stride level.mask cell.digits axis
      + first_on level.mask (cell.bits + cell.digits + 1) axis
  pub starts : length cell.first ≡ 5
  pub stops : length cell.end ≡ 5
  pub end : (axis : ℕ) → axis < length level.region → slice_index cell.end axis ≡ slice_index cell.first axis + stride level.mask cell.digits axis

-- on an axis, a point lies from the first coordinate of a cell on and a step before its end at most
abbrev pub IsAround : Level → Cell → List ℕ → Type 0
IsAround level cell p = (axis : ℕ) → axis < length level.region →
    (slice_index cell.first axis ≤ slice_index p axis) × (slice_index p axis + slice_index level.step axis ≤ slice_index cell.end axis)

-- the box has the first and the last coordinate of a cell on each axis
abbrev pub IsHeld : Level → Cell → Type 0
IsHeld level cell = (axis : ℕ) → axis < length level.region →
    (slice_index level.lo axis ≤ slice_index cell.first axis)
    × (slice_index cell.end axis ≤ slice_index level.hi axis + slice_index level.step axis)
