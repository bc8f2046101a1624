-- The counts of faults of the objects of a list, as `map V.faults raws.items`.
use Rattle.std.specs.Prelude.{◌≡◌, ℕ, ◌<◌, List, length, slice_index}
use Rattle.idx_outside.specs.Cause.{MeetsOnce, NeverFalls, Rose}

-- no count fell
pub record NoneFell (old new : List ℕ) : Type 0 where
  pub same_number : length new ≡ length old
  pub each : (i : ℕ) → NeverFalls (slice_index old i) (slice_index new i)

-- some count rose
pub record SomeRose (old new : List ℕ) : Type 0 where
  pub number : ℕ
  pub within : number < length old
  pub rose : Rose (slice_index old number) (slice_index new number)

-- each object met one fault at most
abbrev pub EachMeetsOnce : List ℕ → List ℕ → Type 0
EachMeetsOnce old new = (i : ℕ) → MeetsOnce (slice_index old i) (slice_index new i)
