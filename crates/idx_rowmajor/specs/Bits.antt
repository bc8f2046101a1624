-- Permutations of the bits of a number.
use Rattle.std.specs.Prelude.{◌≡◌, ◌≢◌, ℕ, ◌<◌, ◌^◌, List, slice_index}
use Rattle.std.specs.Int.{bit_at}

-- each bit of a number has a place of its own
pub record ArePlaces (bits : ℕ) (places : List ℕ) : Type 0 where
  pub within : (i : ℕ) → i < bits → slice_index places i < bits
  pub apart : (i j : ℕ) → i < j → j < bits → slice_index places i ≢ slice_index places j
  pub onto : (m : ℕ) → m < bits → (i : ℕ) × (i < bits) × (slice_index places i ≡ m)

-- the number to has the bits of the number from, each at its place
pub record Carries (bits : ℕ) (places : List ℕ) (from to : ℕ) : Type 0 where
  pub small : to < 2 ^ bits
  pub each : (i : ℕ) → i < bits → bit_at to (slice_index places i) ≡ bit_at from i
