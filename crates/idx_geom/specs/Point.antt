-- A point is the list of its coordinates, axis 0 first.
use Rattle.std.specs.Prelude.{ℕ, ◌<◌, ◌≤◌, ◌^◌, List, length, All}

-- a grid has two to five axes
abbrev pub IsAxes : ℕ → Type 0
IsAxes n = (2 ≤ n) × (n ≤ 5)

-- what a point may be made of: a coordinate is below 2^40
pub record IsCoordinates (p : List ℕ) : Type 0 where
  pub axes : IsAxes (length p)
  pub small : All (λ x. x < 2 ^ 40) p

-- what the step of a grid may be made of: 2^40 itself is there too
pub record IsPoint (p : List ℕ) : Type 0 where
  pub axes : IsAxes (length p)
  pub small : All (λ x. x ≤ 2 ^ 40) p
