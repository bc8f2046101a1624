-- The grids of the points of a level and of the levels up to it, in hierarchical Z order (Pascucci and Frank 2001).
use Rattle.std.specs.Prelude.{◌≡◌, ℕ, ◌-◌, ◌==◌, if◌then◌else◌, List, map, replicate, slice_index}
use Rattle.std.specs.List.{range_with_len}
use Rattle.idx_hz.specs.Stride.{stride}
use Rattle.idx_grid.specs.declared.grid.Grid.{Grid}

-- the strides of level h on so many axes
abbrev pub strides : List ℕ → ℕ → ℕ → List ℕ
strides mask h axes = map (λ axis. stride mask h axis) (range_with_len 0 axes)

-- the first coordinate, on an axis, of the points of level h: the level's stride on the axis of digit h, and else 0
abbrev pub first_on : List ℕ → ℕ → ℕ → ℕ
first_on mask h axis = if h == 0 then 0 else if slice_index mask (h - 1) == axis then stride mask h axis else 0

abbrev pub first_of : List ℕ → ℕ → ℕ → List ℕ
first_of mask h axes = map (λ axis. first_on mask h axis) (range_with_len 0 axes)

-- the grid of the points of level at most h: it begins at the origin, and has the level's strides
pub record IsGridUpTo (mask : List ℕ) (axes h : ℕ) (grid : Grid) : Type 0 where
  pub first : grid.first ≡ replicate axes 0
  pub step : grid.step ≡ strides mask h axes

-- the grid of the points of level h, which are the odd multiples of the level's stride on the axis of digit h: it has the
-- strides of the level before
pub record IsGridAt (mask : List ℕ) (axes h : ℕ) (grid : Grid) : Type 0 where
  pub first : grid.first ≡ first_of mask h axes
  pub step : grid.step ≡ strides mask (h - 1) axes
