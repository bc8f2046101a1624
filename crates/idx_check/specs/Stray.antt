-- Bytes that should be zeros, and places at which two texts differ.
use Rattle.std.specs.Prelude.{◌≡◌, ◌≢◌, ℕ, ◌+◌, ◌/◌, ◌<◌, ◌≤◌, false, List, slice_index, min, Option, Some, None}
use Rattle.idx_check.specs.Wanted.{is_address_of}

-- A text says which byte stands at each place. It has samples of `size` bytes each, whose addresses rise from `first` on.

-- a byte is a zero, or its sample is one of the box
abbrev pub IsClean : List ℕ → List (ℕ × ℕ) → ℕ → ℕ → (ℕ → ℕ) → ℕ → Type 0
IsClean mask box size first text i = is_address_of mask box (first + i / size) ≡ false → text i ≡ 0

-- the least place, of so many, of a byte that should be a zero and is none
pub record IsStray (mask : List ℕ) (box : List (ℕ × ℕ)) (size first : ℕ) (text : ℕ → ℕ) (count at : ℕ) : Type 0 where
  pub within : at < count
  pub outside : is_address_of mask box (first + at / size) ≡ false
  pub other : text at ≢ 0
  pub before : (i : ℕ) → i < at → IsClean mask box size first text i

-- the same, if there is one
abbrev pub IsFirstStray : List ℕ → List (ℕ × ℕ) → ℕ → ℕ → (ℕ → ℕ) → ℕ → Option ℕ → Type 0
IsFirstStray mask box size first text count None = (i : ℕ) → i < count → IsClean mask box size first text i
IsFirstStray mask box size first text count (Some at) = IsStray mask box size first text count at

-- from one place on and before another, two texts differ here first
pub record DifferAt (xs ys : List ℕ) (from to at : ℕ) : Type 0 where
  pub after : from ≤ at
  pub within : at < to
  pub other : slice_index xs at ≢ slice_index ys at
  pub before : (i : ℕ) → from ≤ i → i < at → slice_index xs i ≡ slice_index ys i

-- the same, if they differ there; a text that has ended goes on with zeros
abbrev pub IsFirstBetween : List ℕ → List ℕ → ℕ → ℕ → Option ℕ → Type 0
IsFirstBetween xs ys from to None = (i : ℕ) → from ≤ i → i < to → slice_index xs i ≡ slice_index ys i
IsFirstBetween xs ys from to (Some at) = DifferAt xs ys from to at

-- the lesser of a place, if there is one, and an end
abbrev pub first_end : Option ℕ → ℕ → ℕ
first_end None end = end
first_end (Some at) end = min at end
