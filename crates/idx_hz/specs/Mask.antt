-- A mask is the list of its digits, from coarsest to finest: which axis gives each binary digit of a Z address (the
-- bitmask of OpenVisus).
use Rattle.std.specs.Prelude.{ℕ, ◌+◌, ◌<◌, ◌≤◌, ◌^◌, ◌==◌, if◌then◌else◌, List, [], ◌∷◌, length, slice_index, All, EachIndex}

-- what is true of each mask: one to forty digits, each of them one of the axes 0 to 4
pub record IsMask (mask : List ℕ) : Type 0 where
  pub some : 1 ≤ length mask
  pub few : length mask ≤ 40
  pub digits : All (λ d. d < 5) mask

-- how many bits an axis has: the number of its digits
abbrev pub bit_count : ℕ → List ℕ → ℕ
bit_count axis [] = 0
bit_count axis (d ∷ ds) = (if d == axis then 1 else 0) + bit_count axis ds

-- each digit names one of so many axes
abbrev pub NamesAxes : List ℕ → ℕ → Type 0
NamesAxes mask axes = All (λ d. d < axes) mask

-- a point lies below the mask's size: each coordinate has at most as many bits as its axis
abbrev pub IsBelow : List ℕ → List ℕ → Type 0
IsBelow mask p = EachIndex p (λ axis. slice_index p axis < 2 ^ bit_count axis mask)

-- a point that has a Z address: it has each axis that the mask names, and lies below the mask's size
pub record HasAddress (mask p : List ℕ) : Type 0 where
  pub named : NamesAxes mask (length p)
  pub below : IsBelow mask p
