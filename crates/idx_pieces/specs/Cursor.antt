-- The samples of a region in a row-major box, by their numbers in the region, and a cursor at one of them.
use Rattle.std.specs.Prelude.{◌≡◌, ℕ, ◌+◌, ◌-◌, ◌<◌, ◌≤◌, List, length, slice_index}
use Rattle.std.specs.List.{slice_index_or}
use Rattle.idx_geom.specs.Region.{HoldsAll, IsRegion, extent, place_of, point_of, points}
use Rattle.idx_pieces.specs.declared.cursor.Cursor.{Cursor}

-- the place in the box of the region's point of this number, from 0, in row-major order
abbrev pub place_at : List (ℕ × ℕ) → List (ℕ × ℕ) → ℕ → ℕ
place_at box region number = place_of box (point_of region number)

-- a coordinate of that point, and its axis's bounds
abbrev pub coordinate : List (ℕ × ℕ) → ℕ → ℕ → ℕ
coordinate region number axis = slice_index (point_of region number) axis

abbrev pub bounds_at : List (ℕ × ℕ) → ℕ → ℕ × ℕ
bounds_at region axis = slice_index_or region axis (0, 0)

-- the cursor stands at a point of the region: where that is in the box, and what is left of its row and of its plane
pub record StandsAt (box region : List (ℕ × ℕ)) (c : Cursor) : Type 0 where
  pub place : c.place ≡ place_at box region c.done
  pub left : c.left ≡ (bounds_at region 0).1 + 1 - coordinate region c.done 0
  pub rows : c.rows ≡ (bounds_at region 1).1 - coordinate region c.done 1

-- a region that lies in a box
pub record IsPart (box region : List (ℕ × ℕ)) : Type 0 where
  pub valid_box : IsRegion box
  pub valid : IsRegion region
  pub inside : HoldsAll box region

-- the cursor stands at a point of the region, or behind the last one
pub record IsCursor (box region : List (ℕ × ℕ)) (c : Cursor) : Type 0 where
  pub part : IsPart box region
  pub within : c.done ≤ length (points region)
  pub width : c.width ≡ extent (bounds_at region 0)
  pub gap : c.width + c.gap ≡ extent (bounds_at box 0)
  pub at : c.done < length (points region) → StandsAt box region c
