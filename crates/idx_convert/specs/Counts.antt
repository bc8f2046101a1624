-- Counts of faults of several objects, before and after, in their order.
use Rattle.std.specs.Prelude.{ℕ, ◌<◌, List, length, slice_index}
use Rattle.idx_outside.specs.Cause.{Rose}

-- some object counted a fault
abbrev pub SomeRose : List ℕ → List ℕ → Type 0
SomeRose before after = (i : ℕ) × ((i < length before) × Rose (slice_index before i) (slice_index after i))

-- the count of some object is higher than before
abbrev pub SomeHigher : List ℕ → List ℕ → Type 0
SomeHigher before after = (i : ℕ) × ((i < length before) × (slice_index before i < slice_index after i))
