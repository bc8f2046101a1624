-- The row place as the sorted bits of the offset: the closed form that the bodies go by.
use Rattle.std.specs.Prelude.{ℕ, List, length, take, drop, filter}
use Rattle.idx_geom.specs.Region.{points, place_of}
use Rattle.idx_hz.specs.Coordinate.{point_at}
use Rattle.idx_rowmajor.specs.RowPlace.{is_in_block, size_box}

-- how many points of the block come before a point in row-major order
abbrev pub row_rank : List ℕ → ℕ → ℕ → ℕ → List ℕ → ℕ
row_rank mask axes bits block p =
    let box = size_box mask axes in
    length (filter (is_in_block mask bits block) (take (place_of box p) (points box)))

-- the row-major place, in the box of some digits, of the point with a Z address: the address with its bits sorted by
-- their axes, those of axis 0 lowest
abbrev pub rank_of_digits : List ℕ → ℕ → ℕ → ℕ
rank_of_digits digits axes t = place_of (size_box digits axes) (point_at digits axes t)

-- the digits behind the first k, so many of them
abbrev pub digits_behind : List ℕ → ℕ → ℕ → List ℕ
digits_behind mask k bits = take bits (drop k mask)
