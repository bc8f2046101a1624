-- The points of a region that are asked for, by their levels, and their order in the answer.
use Rattle.std.specs.Prelude.{ℕ, List, length, filter, take}
use Rattle.idx_geom.specs.Region.{points}
use Rattle.idx_hz.specs.Answer.{has_level}

-- what decides which points are asked for: the mask's digits, the region, and the coarsest and the finest level
pub record Asked : Type 0 where
  pub mask : List ℕ
  pub region : List (ℕ × ℕ)
  pub lo : ℕ
  pub hi : ℕ

-- the points, in row-major order
abbrev pub asked_points : Asked → List (List ℕ)
asked_points a = filter (has_level a.mask a.lo a.hi) (points a.region)

-- how many of them come before a place of the region's points
abbrev pub asked_before : Asked → ℕ → ℕ
asked_before a place = length (filter (has_level a.mask a.lo a.hi) (take place (points a.region)))
