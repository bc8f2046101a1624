-- Runs of blocks without a point of a box.
use Rattle.std.specs.Prelude.{◌≡◌, ℕ, ◌+◌, ◌-◌, ◌*◌, ◌^◌, ◌<◌, ◌≤◌, true, false, List, length}
use Rattle.idx_layout.specs.Placing.{has_point_in}
use Rattle.idx_layout.specs.declared.run.Run.{Run}

-- none of the blocks from one on and before an end has a point of the box
abbrev pub NoneBetween : List ℕ → List (ℕ × ℕ) → ℕ → ℕ → ℕ → Type 0
NoneBetween mask region bits first end = (block : ℕ) → first ≤ block → block < end → has_point_in mask region bits block ≡ false

-- the first block of a run
abbrev pub first_of_run : Run → ℕ
first_of_run run = run.number * 2 ^ run.height

-- a run of blocks of 2^bits addresses that has a point of the box: together they are a block of 2^(bits + height) addresses
pub record HasPoint (mask : List ℕ) (region : List (ℕ × ℕ)) (bits : ℕ) (run : Run) : Type 0 where
  pub within : bits + run.height ≤ length mask
  pub exists : run.number < 2 ^ (length mask - (bits + run.height))
  pub point : has_point_in mask region (bits + run.height) run.number ≡ true
