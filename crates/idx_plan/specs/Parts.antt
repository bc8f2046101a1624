-- The points of a level that a region has, by their numbers along the axes of the level's grid, and the parts of them whose Z
-- addresses begin alike.
use Rattle.std.specs.Prelude.{◌≡◌, ℕ, ◌+◌, ◌-◌, ◌*◌, ◌/◌, ◌^◌, ◌<◌, ◌≤◌, ◌↔◌, List, length, map, drop, slice_index, EachIndex, Option, Some, None}
use Rattle.std.specs.List.{range_with_len}
use Rattle.idx_geom.specs.Region.{LiesIn}
use Rattle.idx_hz.specs.Mask.{bit_count}
use Rattle.idx_hz.specs.Address.{z_address}
use Rattle.idx_hz.specs.Stride.{stride}
use Rattle.idx_grid.specs.LevelGrid.{first_on}
use Rattle.idx_plan.specs.declared.part.Part.{Part}

-- the coordinate, on an axis, of a number of a level's grid
abbrev pub coordinate_on : List ℕ → ℕ → ℕ → ℕ → ℕ
coordinate_on mask level axis n = first_on mask level axis + n * stride mask (level - 1) axis

-- the point of the grid with such numbers
abbrev pub point_on : List ℕ → ℕ → List ℕ → List ℕ
point_on mask level ns = map (λ axis. coordinate_on mask level axis (slice_index ns axis)) (range_with_len 0 (length ns))

-- a number is from one on and before an end
abbrev pub IsFrom : ℕ → ℕ → ℕ → Type 0
IsFrom first end n = (first ≤ n) × (n < end)

-- so is each of some numbers, on its axis of a part
abbrev pub AreIn : Part → List ℕ → Type 0
AreIn part ns = EachIndex ns (λ axis. IsFrom (slice_index part.first axis) (slice_index part.end axis) (slice_index ns axis))

-- the numbers from one on and before an end: there are some, and they differ in their lowest binary digits alone, the ones
-- that are left
pub record IsSpan (first end left : ℕ) : Type 0 where
  pub some : first < end
  pub whole : end ≤ (first / 2 ^ left + 1) * 2 ^ left
  pub few : left ≤ 40
  pub small : end ≤ 2 ^ 41

-- the region has the point with such numbers, and its Z address begins with so many digits: `number` is a 1 and then these digits
pub record Begins (mask : List ℕ) (region : List (ℕ × ℕ)) (level digits number : ℕ) (ns : List ℕ) : Type 0 where
  pub inside : LiesIn region (point_on mask level ns)
  pub front : 2 ^ digits + z_address mask (point_on mask level ns) / 2 ^ (length mask - digits) ≡ number

-- a part has exactly the numbers of these points
pub record IsPart (mask : List ℕ) (region : List (ℕ × ℕ)) (level digits number : ℕ) (part : Part) : Type 0 where
  pub numbers : (ns : List ℕ) → length ns ≡ length region → Begins mask region level digits number ns ↔ AreIn part ns
  pub spans : (axis : ℕ) → axis < length region → IsSpan (slice_index part.first axis) (slice_index part.end axis) (slice_index part.left axis)
  pub left : (axis : ℕ) → axis < length region → slice_index part.left axis + bit_count axis (drop (level - 1) mask) ≡ bit_count axis (drop digits mask)

-- so has the part that there is, if there is a point
abbrev pub IsPartOf : List ℕ → List (ℕ × ℕ) → ℕ → ℕ → ℕ → Option Part → Type 0
IsPartOf mask region level digits number None = (ns : List ℕ) → length ns ≡ length region → Begins mask region level digits number ns → ⊥
IsPartOf mask region level digits number (Some part) = IsPart mask region level digits number part

-- how many digits of a mask from a place on name each axis
pub record AreCounts (mask : List ℕ) (place : ℕ) (counts : List ℕ) : Type 0 where
  pub room : length counts ≡ 5
  pub each : (axis : ℕ) → axis < 5 → slice_index counts axis ≡ bit_count axis (drop place mask)
