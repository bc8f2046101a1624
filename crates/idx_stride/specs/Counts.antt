-- How many coordinates and points lie on the coarser grid.
use Rattle.std.specs.Prelude.{ℕ, ◌*◌, Bool, List, [], ◌∷◌, length, filter, nat_lt}
use Rattle.std.specs.List.{range_with_len}
use Rattle.idx_stride.specs.declared.axis.Axis.{Axis}
use Rattle.idx_stride.specs.Places.{is_coarse}

-- how many coordinates of the axis are coarse
abbrev pub coarse_coordinates : Axis → ℕ
coarse_coordinates a = length (filter (is_coarse a) (range_with_len 0 a.count))

-- how many points of the grid are coarse on all axes
abbrev pub coarse_points : List Axis → ℕ
coarse_points [] = 1
coarse_points (a ∷ slower) = coarse_coordinates a * coarse_points slower

-- some coordinate of the axis is not coarse
abbrev pub has_fine_coordinate : Axis → Bool
has_fine_coordinate a = nat_lt (coarse_coordinates a) a.count
