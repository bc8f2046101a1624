-- The part of a box that each rank has (this project's own rule): the box is cut along its axis of greatest extent.
use Rattle.std.specs.Prelude.{ℕ, zero, suc, ◌+◌, ◌-◌, ◌*◌, ◌/◌, nat_le, nat_lt, Bool, if◌then◌else◌, List, [], ◌∷◌, map, filter, max, min}
use Rattle.std.specs.List.{list_all, range_with_len, slice_index_or}
use Rattle.idx_geom.specs.Region.{common_bounds, extent}

-- the greatest extent of a box
abbrev pub longest : List (ℕ × ℕ) → ℕ
longest [] = 0
longest (b ∷ bs) = max (extent b) (longest bs)

-- the axis of the greatest extent: of equal ones the last
abbrev pub cut_axis : List (ℕ × ℕ) → ℕ
cut_axis [] = 0
cut_axis (b ∷ bs) = if nat_lt (longest bs) (extent b) then 0 else suc (cut_axis bs)

-- how many of n ranks have a part: no more than that axis has coordinates
abbrev pub rank_count : List (ℕ × ℕ) → ℕ → ℕ
rank_count box n = min n (longest box)

-- the part of an axis that a rank has, of n that have one
abbrev pub rank_bounds : ℕ × ℕ → ℕ → ℕ → ℕ × ℕ
rank_bounds b n rank = (b.0 + rank * extent b / n, b.0 + (rank + 1) * extent b / n - 1)

-- a box with other bounds on an axis
abbrev pub bounded_on : ℕ → ℕ × ℕ → List (ℕ × ℕ) → List (ℕ × ℕ)
bounded_on axis bounds [] = []
bounded_on zero bounds (b ∷ bs) = bounds ∷ bs
bounded_on (suc axis) bounds (b ∷ bs) = b ∷ bounded_on axis bounds bs

-- the region of a rank, of n that may have a part
abbrev pub rank_region : List (ℕ × ℕ) → ℕ → ℕ → List (ℕ × ℕ)
rank_region box n rank =
    bounded_on (cut_axis box) (rank_bounds (slice_index_or box (cut_axis box) (0, 0)) (rank_count box n) rank) box

-- the regions of all ranks that have a part
abbrev pub rank_regions : List (ℕ × ℕ) → ℕ → List (List (ℕ × ℕ))
rank_regions box n = map (rank_region box n) (range_with_len 0 (rank_count box n))

-- two regions of the same axes have a point in common
abbrev pub meets : List (ℕ × ℕ) → List (ℕ × ℕ) → Bool
meets r s = list_all (λ b. nat_le b.0 b.1) (common_bounds r s)

-- the ranks, of n, whose region meets this one
abbrev pub ranks_in : List (ℕ × ℕ) → ℕ → List (ℕ × ℕ) → List ℕ
ranks_in box n region = filter (λ rank. meets (rank_region box n rank) region) (range_with_len 0 (rank_count box n))
