-- The samples of a walk, written over a list from a place on.
use Rattle.std.specs.Prelude.{◌≡◌, ℕ, ◌+◌, Bool, List, length}
use Rattle.idx_lanes.specs.Written.{written}
use Rattle.idx_stride.specs.declared.axis.Axis.{Axis}
use Rattle.idx_stride.specs.Places.{offsets, samples_at}

-- the piece was written at this place, and the next place is the one behind it
pub record WritesAt (at next : ℕ) (piece old new : List ℕ) : Type 0 where
  pub next_place : next ≡ at + length piece
  pub list : new ≡ written at piece old

-- the samples of a walk
abbrev pub gathered : ℕ → List ℕ → ℕ → Bool → List Axis → List ℕ
gathered size bytes base coarse axes = samples_at size bytes (offsets base coarse axes)
