-- Bits that go to their places, by two tables.
use Rattle.std.specs.Prelude.{◌≡◌, ◌≢◌, ℕ, ◌+◌, ◌/◌, ◌%◌, ◌^◌, ◌<◌, bit_or, List, slice_index}
use Rattle.std.specs.Int.{bit_at}
use Rattle.idx_rowmajor.specs.declared.bit_tables.BitTables.{BitTables}

-- the place that the tables give for a place
abbrev pub partner_of : BitTables → ℕ → ℕ
partner_of tables place = bit_or (slice_index tables.low (place % 1024)) (slice_index tables.high (place / 1024))

-- so many places from the first on are below 20 and differ
pub record AreApart (places : List ℕ) (first bits : ℕ) : Type 0 where
  pub small : (j : ℕ) → j < bits → slice_index places (first + j) < 20
  pub apart : (i j : ℕ) → i < j → j < bits → slice_index places (first + i) ≢ slice_index places (first + j)

-- a number has the bits of another one of so many bits, each at its place among the places from the first on, and no
-- others
pub record IsEntry (places : List ℕ) (first bits from to : ℕ) : Type 0 where
  pub each : (j : ℕ) → j < bits → bit_at to (slice_index places (first + j)) ≡ bit_at from j
  pub others : (m : ℕ) → ((j : ℕ) → j < bits → slice_index places (first + j) ≢ m) → bit_at to m ≡ 0

-- so does each entry of a table for the number that it stands at
abbrev pub AreEntries : List ℕ → ℕ → ℕ → List ℕ → Type 0
AreEntries places first bits entries =
    (from : ℕ) → from < 2 ^ bits → IsEntry places first bits from (slice_index entries from)
