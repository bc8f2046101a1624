-- A region is the list of its inclusive bounds (lo, hi) per axis, axis 0 first.
use Rattle.std.specs.Prelude.{◌≡◌, ℕ, ◌+◌, ◌-◌, ◌*◌, ◌/◌, ◌%◌, ◌^◌, ◌≤◌, ◌↔◌, min, max, List, [], ◌∷◌, length, map, All}
use Rattle.std.specs.List.{flat_map, range_with_len, zip}
use Rattle.idx_geom.specs.Point.{IsAxes}

-- how many coordinates lie between the bounds, both among them
abbrev pub extent : ℕ × ℕ → ℕ
extent b = b.1 + 1 - b.0

-- the points of a region in row-major order, axis 0 fastest
abbrev pub points : List (ℕ × ℕ) → List (List ℕ)
points [] = [] ∷ []
points (b ∷ bs) = flat_map (λ slower. map (λ x. x ∷ slower) (range_with_len b.0 (extent b))) (points bs)

-- a point lies in a region
abbrev pub LiesIn : List (ℕ × ℕ) → List ℕ → Type 0
LiesIn [] [] = Unit {0}
LiesIn (b ∷ bs) (x ∷ xs) = (b.0 ≤ x) × (x ≤ b.1) × LiesIn bs xs
LiesIn _ _ = ⊥

-- the lower ends of a region, and its upper ends
abbrev pub lower_ends : List (ℕ × ℕ) → List ℕ
lower_ends r = map (λ b. b.0) r

abbrev pub upper_ends : List (ℕ × ℕ) → List ℕ
upper_ends r = map (λ b. b.1) r

-- each point of the region s lies in the region r
abbrev pub HoldsAll : List (ℕ × ℕ) → List (ℕ × ℕ) → Type 0
HoldsAll r s = (p : List ℕ) → LiesIn s p → LiesIn r p

-- the row-major place of a point, axis 0 fastest
abbrev pub place_of : List (ℕ × ℕ) → List ℕ → ℕ
place_of (b ∷ bs) (x ∷ xs) = (x - b.0) + extent b * place_of bs xs
place_of _ _ = 0

-- the coordinates of the point at a place
abbrev pub point_of : List (ℕ × ℕ) → ℕ → List ℕ
point_of [] k = []
point_of (b ∷ bs) k = (b.0 + k % extent b) ∷ point_of bs (k / extent b)

-- the bounds of what two regions have in common
abbrev pub common_bounds : List (ℕ × ℕ) → List (ℕ × ℕ) → List (ℕ × ℕ)
common_bounds (a ∷ others) (b ∷ bs) = (max a.0 b.0, min a.1 b.1) ∷ common_bounds others bs
common_bounds _ _ = []

-- some point lies in both regions
abbrev pub HaveCommonPoint : List (ℕ × ℕ) → List (ℕ × ℕ) → Type 0
HaveCommonPoint r s = (p : List ℕ) × (LiesIn r p × LiesIn s p)

-- the points that lie in a region are those of which P holds
abbrev pub HasExactly : List (ℕ × ℕ) → (List ℕ → Type 0) → Type 0
HasExactly r P = (p : List ℕ) → LiesIn r p ↔ P p

-- what a region may be made of: as many lower ends as upper ones, none above its own, and at most 2^40 points
pub record AreEnds (lo hi : List ℕ) : Type 0 where
  pub same_axes : length lo ≡ length hi
  pub ordered : All (λ b. b.0 ≤ b.1) (zip lo hi)
  pub few : length (points (zip lo hi)) ≤ 2 ^ 40

-- what is true of each region
pub record IsRegion (r : List (ℕ × ℕ)) : Type 0 where
  pub axes : IsAxes (length r)
  pub ordered : All (λ b. b.0 ≤ b.1) r
  pub small : All (λ b. b.1 ≤ 2 ^ 40) r
  pub few : length (points r) ≤ 2 ^ 40
