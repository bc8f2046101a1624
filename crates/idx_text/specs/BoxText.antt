-- Regions as they stand in a text: a list of numbers, the lower and the upper end of each axis, axis 0 first.
use Rattle.std.specs.Prelude.{◌≡◌, ℕ, List, [], ◌∷◌, Some}
use Rattle.std.specs.List.{flat_map}
use Rattle.idx_geom.specs.Point.{IsCoordinates}
use Rattle.idx_geom.specs.Region.{AreEnds, lower_ends, upper_ends}
use Rattle.idx_text.specs.Numbers.{numbers_of}

-- the lower and the upper end of each axis, one after another
abbrev pub both_ends : List (ℕ × ℕ) → List ℕ
both_ends r = flat_map (λ b. b.0 ∷ b.1 ∷ []) r

-- The text lists the ends of this region: its lower ends are coordinates, so are its upper ends, and they make a region.
pub record SpellsRegion (text : List ℕ) (r : List (ℕ × ℕ)) : Type 0 where
  pub numbers : numbers_of text ≡ Some (both_ends r)
  pub lower : IsCoordinates (lower_ends r)
  pub upper : IsCoordinates (upper_ends r)
  pub ends : AreEnds (lower_ends r) (upper_ends r)
