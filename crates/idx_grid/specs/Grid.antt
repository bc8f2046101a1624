-- A grid of points: the first one, and on each axis every step from there on.
use Rattle.std.specs.Prelude.{◌≡◌, ℕ, ◌+◌, ◌-◌, ◌*◌, ◌%◌, ◌==◌, ◌&&◌, nat_le, Bool, true, false, List, [], ◌∷◌}
use Rattle.idx_grid.specs.declared.grid.Grid.{Grid}

-- a coordinate is the first one plus a multiple, from 0, of the step
abbrev pub IsOnAxis : ℕ → ℕ → ℕ → Type 0
IsOnAxis first step x = (k : ℕ) × (x ≡ first + k * step)

-- so is each coordinate of a point, on its axis
abbrev pub IsOnAxes : List ℕ → List ℕ → List ℕ → Type 0
IsOnAxes [] [] [] = Unit {0}
IsOnAxes (first ∷ firsts) (step ∷ steps) (x ∷ xs) = IsOnAxis first step x × IsOnAxes firsts steps xs
IsOnAxes _ _ _ = ⊥

-- a point lies on a grid
abbrev pub LiesOn : Grid → List ℕ → Type 0
LiesOn grid p = IsOnAxes grid.first grid.step p

-- the same as tests: the distance from the first coordinate has no rest by the step, where a step of 0 leaves the whole
-- distance
abbrev pub is_on_axis : ℕ → ℕ → ℕ → Bool
is_on_axis first step x = nat_le first x && ((x - first) % step == 0)

abbrev pub is_on_axes : List ℕ → List ℕ → List ℕ → Bool
is_on_axes [] [] [] = true
is_on_axes (first ∷ firsts) (step ∷ steps) (x ∷ xs) = is_on_axis first step x && is_on_axes firsts steps xs
is_on_axes _ _ _ = false

abbrev pub lies_on : Grid → List ℕ → Bool
lies_on grid p = is_on_axes grid.first grid.step p
