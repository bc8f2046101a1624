-- What refusals say of the counts of faults of the raw volumes, and how much each volume is asked for. The lists go by
-- rank, before and after.
use Rattle.std.specs.Prelude.{◌≡◌, ℕ, ◌<◌, List, length, slice_index}
use Rattle.idx_outside.specs.Cause.{Rose}
use Rattle.idx_pieces.specs.RawReads.{AsksAtMost}
use Rattle.idx_ranks.specs.declared.ranks_fault.RanksFault.{RanksFault}
use Rattle.idx_ranks.specs.declared.ranks_fault.RanksFault.TheVariants.{RawFault, NoMemory}

-- the least rank whose count rose, and its count now
pub record IsLeastRise (before after : List ℕ) (rank faults : ℕ) : Type 0 where
  pub within : rank < length before
  pub is : faults ≡ slice_index after rank
  pub rose : Rose (slice_index before rank) (slice_index after rank)
  pub least : (i : ℕ) → i < rank → slice_index after i ≡ slice_index before i

-- a fault names the least rank whose count rose; without memory no count has changed
abbrev pub IsRefusedBy : List ℕ → List ℕ → RanksFault → Type 0
IsRefusedBy before after (RawFault rank faults) = IsLeastRise before after rank faults
IsRefusedBy before after NoMemory = after ≡ before

-- each one was asked for at most so many bytes
pub record EachAsksAtMost (before after : List ℕ) (most : ℕ) : Type 0 where
  pub same_number : length after ≡ length before
  pub each : (i : ℕ) → i < length before → AsksAtMost (slice_index before i) (slice_index after i) most
