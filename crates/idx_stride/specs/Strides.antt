-- A walk over a grid of samples: the place of its first point, the bytes of a sample, whether points that are coarse on
-- all axes are left out, and the axes, fastest first.
use Rattle.std.specs.Prelude.{ℕ, ◌+◌, ◌-◌, ◌*◌, ◌^◌, ◌≤◌, Bool, List, [], ◌∷◌, length, All}
use Rattle.idx_stride.specs.declared.axis.Axis.{Axis}
use Rattle.idx_stride.specs.Places.{offsets}

pub record Walk : Type 0 where
  pub base : ℕ
  pub size : ℕ
  pub coarse : Bool
  pub axes : List Axis

-- the places of the samples
abbrev pub offsets_of : Walk → List ℕ
offsets_of w = offsets w.base w.coarse w.axes

-- the bytes from the first place to the last
abbrev pub reach : List Axis → ℕ
reach [] = 0
reach (a ∷ slower) = (a.count - 1) * a.step + reach slower

-- how many points the grid has, those that are left out among them
abbrev pub grid_points : List Axis → ℕ
grid_points [] = 1
grid_points (a ∷ slower) = a.count * grid_points slower

-- the place behind the last sample
abbrev pub end_of : Walk → ℕ
end_of w = w.base + reach w.axes + w.size

-- what is true of an axis
pub record IsAxis (a : Axis) : Type 0 where
  pub counted : 1 ≤ a.count
  pub paced : 1 ≤ a.ratio
  pub early : a.phase + a.count ≤ 2 ^ 42

-- what is true of each walk
pub record IsStrides (w : Walk) : Type 0 where
  pub few_axes : length w.axes ≤ 5
  pub axes : All IsAxis w.axes
  pub some_bytes : 1 ≤ w.size
  pub few_bytes : w.size ≤ 64
  pub within : end_of w ≤ 2 ^ 62
  pub few_points : grid_points w.axes ≤ 2 ^ 40
