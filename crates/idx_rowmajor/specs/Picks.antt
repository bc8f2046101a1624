-- Places that are those of numbers' bits, eight at a time.
use Rattle.std.specs.Prelude.{◌≡◌, ℕ, ◌+◌, ◌*◌, ◌<◌, ◌≤◌, bit_and, bit_or, List, length, slice_index}

-- numbers that have no bit in common go where each of them goes
abbrev pub AddsBits : ℕ → (ℕ → ℕ) → Type 0
AddsBits count f = (a b : ℕ) → bit_and a b ≡ 0 → a + b < count → f (a + b) ≡ f a + f b

-- these are where the first eight numbers go
abbrev pub AreFirst : (ℕ → ℕ) → List ℕ → Type 0
AreFirst f places = (i : ℕ) → i < 8 → slice_index places i ≡ f i

-- Of each eight entries of a table that stand side by side, each is behind the first one what it is among the first eight of
-- all; the last of these is the greatest.
pub record GoByEights (low : List ℕ) (high : ℕ) (firsts : List ℕ) : Type 0 where
  pub behind : (k i : ℕ) → i < 8 → 8 * k + 7 < length low →
      bit_or (slice_index low (8 * k + i)) high ≡ bit_or (slice_index low (8 * k)) high + slice_index firsts i
  pub last : (i : ℕ) → i < 8 → 7 < length low → slice_index firsts i ≤ slice_index firsts 7
