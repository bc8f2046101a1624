-- Which reading of several failed.
use Rattle.std.specs.Prelude.{◌≡◌, ℕ, ◌<◌, List, Option, Some, None, Result, Ok, Err, length, slice_index_or}
use Rattle.std.specs.Global.{Vec}
use Rattle.idx_pieces.specs.declared.parcel.Parcel.{Parcel}
use Rattle.idx_pieces.specs.declared.raw_refusal.RawRefusal.{RawRefusal}
use Rattle.idx_pieces.specs.declared.raw_refusal.RawRefusal.TheVariants.{RawFault as CallFailed, NoMemory as NoRoom}
use Rattle.idx_ranks.specs.declared.ranks_fault.RanksFault.{RanksFault}
use Rattle.idx_ranks.specs.declared.ranks_fault.RanksFault.TheVariants.{RawFault, NoMemory}

-- the count of faults that a reading gave up with, if a call on its raw volume failed
abbrev pub failed_with : Result (Vec Parcel) RawRefusal → Option ℕ
failed_with (Ok parcels) = None
failed_with (Err (CallFailed faults)) = Some faults
failed_with (Err NoRoom) = None

-- no such reading is among the first ones
abbrev pub NoneFailed : List (Result (Vec Parcel) RawRefusal) → ℕ → Type 0
NoneFailed reads count = (i : ℕ) (r : Result (Vec Parcel) RawRefusal) → i < count → failed_with (slice_index_or reads i r) ≡ None

-- the first one, and its count
pub record IsLeastFault (reads : List (Result (Vec Parcel) RawRefusal)) (rank faults : ℕ) : Type 0 where
  pub within : rank < length reads
  pub failed : (r : Result (Vec Parcel) RawRefusal) → failed_with (slice_index_or reads rank r) ≡ Some faults
  pub least : NoneFailed reads rank

-- why not all is read: the first failed call, and want of memory only where no call failed
abbrev pub IsWhy : List (Result (Vec Parcel) RawRefusal) → RanksFault → Type 0
IsWhy reads (RawFault rank faults) = IsLeastFault reads rank faults
IsWhy reads NoMemory = NoneFailed reads (length reads)
