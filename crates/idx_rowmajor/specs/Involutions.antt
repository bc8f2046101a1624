-- A permutation of bits as two that take themselves back.
use Rattle.std.specs.Prelude.{◌≡◌, ◌≢◌, ℕ, ◌<◌, List, length, slice_index}

-- each of so many places has another one, or itself, whose place it is
abbrev pub IsInvolution : ℕ → List ℕ → Type 0
IsInvolution bits places =
    (i : ℕ) → i < bits → (slice_index places i < bits) × (slice_index places (slice_index places i) ≡ i)

-- two such permutations that give the targets, one after the other
pub record AreInvolutions (bits : ℕ) (targets inner outer : List ℕ) : Type 0 where
  pub first : IsInvolution bits inner
  pub second : IsInvolution bits outer
  pub both : (i : ℕ) → i < bits → slice_index outer (slice_index inner i) ≡ slice_index targets i

-- ---- while they are made: 20 stands where a bit has no place yet

-- a bit has its places, and so have the bits that it goes to and comes from
pub record IsSplitAt (bits : ℕ) (targets inverse inner outer : List ℕ) (i : ℕ) : Type 0 where
  pub first_in : slice_index inner i < bits
  pub first_back : slice_index inner (slice_index inner i) ≡ i
  pub second_in : slice_index outer i < bits
  pub second_back : slice_index outer (slice_index outer i) ≡ i
  pub second_has : slice_index inner (slice_index outer i) ≢ 20
  pub both : slice_index outer (slice_index inner i) ≡ slice_index targets i
  pub next_has : slice_index inner (slice_index targets i) ≢ 20
  pub last_has : slice_index inner (slice_index inverse i) ≢ 20

-- so has each bit that has a place in the first permutation
pub record AreSplit (bits : ℕ) (targets inverse inner outer : List ℕ) : Type 0 where
  pub first_room : length inner ≡ 20
  pub second_room : length outer ≡ 20
  pub each : (i : ℕ) → i < bits → slice_index inner i ≢ 20 → IsSplitAt bits targets inverse inner outer i

-- two places change places in a list, which is else as it was
pub record ArePaired (a b : ℕ) (old new : List ℕ) : Type 0 where
  pub first : slice_index new a ≡ b
  pub second : slice_index new b ≡ a
  pub others : (i : ℕ) → i ≢ a → i ≢ b → slice_index new i ≡ slice_index old i
