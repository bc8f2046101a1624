-- The axes of a region with a stride on each: how many of the points whose coordinates are multiples come before a
-- place.
use Rattle.std.specs.Prelude.{◌≡◌, ℕ, Bool, ◌+◌, ◌-◌, ◌*◌, ◌/◌, ◌%◌, ◌^◌, ◌≤◌, ◌==◌, false, if◌then◌else◌, List, [], ◌∷◌, length, filter, take}
use Rattle.idx_lanes.specs.Axis.{on}
use Rattle.idx_geom.specs.Region.{extent, points, point_of}
use Rattle.idx_scatter.specs.declared.side.Earlier.{Earlier}
use Rattle.idx_scatter.specs.declared.side.Side.{Side}

-- how many of n numbers from one on are multiples of a stride
abbrev pub multiples_in : ℕ → ℕ → ℕ → ℕ
multiples_in stride lo n = (lo + n + stride - 1) / stride - (lo + stride - 1) / stride

-- what is true of each side
pub record IsSane (side : Side) : Type 0 where
  pub some : 1 ≤ side.extent
  pub paced : 1 ≤ side.stride
  pub end : side.lo + side.extent ≤ 2 ^ 41
  pub stride : side.stride ≤ 2 ^ 40
  pub whole : side.whole ≤ side.extent
  pub power : side.stride ≡ 2 ^ side.shift
  pub few : side.shift ≤ 40
  pub below : side.below ≡ (side.lo + side.stride - 1) / side.stride

-- the side of an axis
pub record IsSide (pace : ℕ) (b : ℕ × ℕ) (side : Side) : Type 0 where
  pub lo : side.lo ≡ b.0
  pub wide : side.extent ≡ extent b
  pub stride : side.stride ≡ pace
  pub whole : side.whole ≡ multiples_in pace b.0 (extent b)
  pub sane : IsSane side

-- the sides of the axes of a region, the first of which has the number k
abbrev pub AreSides : (ℕ → ℕ) → ℕ → List (ℕ × ℕ) → List Side → Type 0
AreSides s k [] [] = Unit {0}
AreSides s k (b ∷ bs) (side ∷ sides) = IsSide (s k) b side × AreSides s (k + 1) bs sides
AreSides s k _ _ = ⊥

-- how many points whose coordinates are multiples come before a place
abbrev pub count_before : (ℕ → ℕ) → ℕ → List (ℕ × ℕ) → ℕ → ℕ
count_before s k bs place = length (filter (on s k) (take place (points bs)))

-- the number of them, and whether the point at the place is one
pub record IsBefore (s : ℕ → ℕ) (k : ℕ) (bs : List (ℕ × ℕ)) (place number : ℕ) (found : Bool) : Type 0 where
  pub count : number ≡ count_before s k bs place
  pub lies : found ≡ on s k (point_of bs place)

-- what comes before a place of a row, from what comes before the row
abbrev pub in_row : Side → Earlier → ℕ → Earlier
in_row side rows here =
    if rows.lies then record {
      count = side.whole * rows.count + multiples_in side.stride side.lo here;
      lies = ((side.lo + here) % side.stride == 0);
    } else record { count = side.whole * rows.count; lies = false }
