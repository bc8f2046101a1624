-- What gathering a step promises, by its header, what is known of the raw volume and of the committed files, and the counts
-- of faults.
use Rattle.std.specs.Prelude.{◌≡◌, ◌≢◌, ◌⊎◌, ℕ, ◌^◌, ◌<◌, nat_lt, if◌then◌else◌, Bool, List, drop, find, length, map, slice_index, take, Option, Some, None, IfSome, IsSome, IsSomeAnd, Result, Err}
use Rattle.std.specs.Option.{ForSome}
use Rattle.idx_outside.specs.Cause.{NeverFalls, Rose}
use Rattle.idx_outside.specs.Files.{added, file_at, files_of}
use Rattle.idx_outside.specs.Objects.{contents_at}
use Rattle.idx_outside.specs.Shape.{Shape}
use Rattle.idx_outside.specs.declared.bay_call.BayCall.{BayCall}
use Rattle.idx_outside.specs.declared.bay_call.BayCall.TheVariants as calls
use Rattle.idx_outside.specs.declared.mem_file.MemFile.{MemFile}
use Rattle.idx_header.specs.Header.{HeaderValue, HasTime, volume_bytes}
use Rattle.idx_header.specs.Names.{file_name, step_folder}
use Rattle.idx_rowmajor.specs.declared.layout.Layout.{Layout}
use Rattle.idx_rowmajor.specs.declared.layout.Layout.TheVariants.{Hz}
use Rattle.idx_layout.specs.Files.{length_of_file}
use Rattle.idx_layout.specs.Placing.{file_numbers, is_present}
use Rattle.idx_layout.specs.OfHeader.{placing_of}
use Rattle.idx_layout.specs.Shape.{shape_of}
use Rattle.idx_layout.specs.Step.{step_files, volume_of_raw}
use Rattle.idx_edition.specs.Loaded.{HoldsStored, IsWrittenBlock, OfBlocks}
use Rattle.idx_gather.specs.declared.gather_fault.GatherFault.{GatherFault}
use Rattle.idx_gather.specs.declared.gather_fault.GatherFault.TheVariants.{RawWrongSize, RawFault, StoreFault, NoMemory}

-- the header has a time, and this step
pub record HasFolder (h : HeaderValue) (step : ℕ) : Type 0 where
  pub timed : IsSome h.steps
  pub has : HasTime h step

-- how many bytes each file of a step has, in the order of their numbers
abbrev pub file_lengths : HeaderValue → List ℕ
file_lengths h = map (length_of_file (placing_of h)) (file_numbers (placing_of h))

-- a step that is too large to write: how many bytes its samples take, where they are more than 2^36; else how many the first file
-- has, by rising number, that has more than 2^32
abbrev pub too_large : HeaderValue → Option ℕ
too_large h = if nat_lt (2 ^ 36) (volume_bytes h) then Some (volume_bytes h) else find (nat_lt (2 ^ 32)) (file_lengths h)

-- a raw volume whose bytes are known has as many as the samples of the box take
abbrev pub HasVolume : HeaderValue → Option (List ℕ) → Type 0
HasVolume h raw = IfSome raw (λ bytes. length bytes ≡ volume_bytes h)

-- The committed files are those from before with the files of the step of this raw volume, in a layout, behind them, under their
-- names.
abbrev pub StepAddedAs : Layout → HeaderValue → ℕ → Option (List MemFile) → Option (List MemFile) → List ℕ → Type 0
StepAddedAs layout h step old new raw =
    IfSome (step_folder h step) (λ folder. new ≡ added old (files_of folder (step_files layout h (volume_of_raw h raw) step)))

-- The same in hierarchical order.
abbrev pub StepAdded : HeaderValue → ℕ → Option (List MemFile) → Option (List MemFile) → List ℕ → Type 0
StepAdded = StepAddedAs Hz

-- The same of some bytes, as many as a volume has; they are those of the raw volume where these are known.
abbrev pub SomeStepAddedAs : Layout → HeaderValue → ℕ → Option (List ℕ) → Option (List MemFile) → Option (List MemFile) → Type 0
SomeStepAddedAs layout h step raw old new =
    (bytes : List ℕ) × ((length bytes ≡ volume_bytes h) × IfSome raw (λ known. bytes ≡ known) × StepAddedAs layout h step old new bytes)

abbrev pub SomeStepAdded : HeaderValue → ℕ → Option (List ℕ) → Option (List MemFile) → Option (List MemFile) → Type 0
SomeStepAdded = SomeStepAddedAs Hz

-- the bytes of no raw volume are known, or those of all, and then they are the same
abbrev pub HaveSame : {V : Type 0} → (V → Option (List ℕ)) → List V → Type 0
HaveSame contents raws = (i : ℕ) → i < length raws → contents_at contents raws i ≡ contents_at contents raws 0

-- of some counts of faults, before and after, none falls
abbrev pub NoneFalls : List ℕ → List ℕ → Type 0
NoneFalls before after =
    (length after ≡ length before) × ((i : ℕ) → i < length before → NeverFalls (slice_index before i) (slice_index after i))

-- The raw volume of this rank counted a fault, and this is its count now. No lesser rank's did.
pub record IsRankFault (before after : List ℕ) (rank faults : ℕ) : Type 0 where
  pub within : rank < length before
  pub count_is : faults ≡ slice_index after rank
  pub rose : Rose (slice_index before rank) (slice_index after rank)
  pub lesser : take rank after ≡ take rank before

-- What each fault says of the raw volumes, and of the counts of the raw volumes and of the bay before and after.
abbrev pub IsCaused : HeaderValue → Option (List ℕ) → List ℕ → List ℕ → ℕ → ℕ → GatherFault → Type 0
IsCaused h raw raws_before raws_after before after (RawWrongSize want found) =
    (want ≡ volume_bytes h) × (found ≢ want) × IfSome raw (λ bytes. found ≡ length bytes)
    × (raws_after ≡ raws_before) × (after ≡ before)
IsCaused h raw raws_before raws_after before after (RawFault rank faults) =
    IsRankFault raws_before raws_after rank faults × (after ≡ before)
IsCaused h raw raws_before raws_after before after (StoreFault faults) =
    HasVolume h raw × (faults ≡ after) × Rose before after × (raws_after ≡ raws_before)
IsCaused h raw raws_before raws_after before after NoMemory =
    HasVolume h raw × (raws_after ≡ raws_before) × (after ≡ before)

-- What a refusal of the store says of its count before and after, where the raw volumes have no part in it.
abbrev pub IsStoreFault : ℕ → ℕ → GatherFault → Type 0
IsStoreFault before after (RawWrongSize want found) = ⊥
IsStoreFault before after (RawFault rank faults) = ⊥
IsStoreFault before after (StoreFault faults) = (faults ≡ after) × Rose before after
IsStoreFault before after NoMemory = after ≡ before

-- What each fault leaves of the committed files: they are those from before. A store's fault may come of the commit itself,
-- which then may have added the step, whole.
abbrev pub LeavesAs : Layout → HeaderValue → ℕ → Option (List ℕ) → Option (List MemFile) → Option (List MemFile) → GatherFault → Type 0
LeavesAs layout h step raw old new (StoreFault faults) = (new ≡ old) ⊎ SomeStepAddedAs layout h step raw old new
LeavesAs layout h step raw old new fault = new ≡ old

abbrev pub Leaves : HeaderValue → ℕ → Option (List ℕ) → Option (List MemFile) → Option (List MemFile) → GatherFault → Type 0
Leaves = LeavesAs Hz

-- The bytes of the raw volume are known, and have another length than the samples of the box take.
abbrev pub LacksVolume : HeaderValue → Option (List ℕ) → Type 0
LacksVolume h raw = IsSomeAnd raw (λ bytes. length bytes ≢ volume_bytes h)

-- The call that counted a fault of the bay makes a file, gives up a draft or commits. The committed files are then those from
-- before, unless it commits.
abbrev pub IsFailedCall : Option (List MemFile) → Option (List MemFile) → Option BayCall → Type 0
IsFailedCall old new (Some calls.Create) = new ≡ old
IsFailedCall old new (Some calls.Retire) = new ≡ old
IsFailedCall old new (Some calls.Commit) = Unit {0}
IsFailedCall old new call = ⊥

-- Which call counted the last fault, before and after: at a fault of the store one of this gathering, and else the one from
-- before.
abbrev pub LeavesFailed : {T : Type 0} → Option (List MemFile) → Option (List MemFile) → Option BayCall → Option BayCall → Result T GatherFault → Type 0
LeavesFailed old new before after (Err (StoreFault faults)) = IsFailedCall old new after
LeavesFailed old new before after result = after ≡ before

-- `shape`, `has` and `stored` are what an edition tells: how many blocks there are and how long, which of them it has, and their
-- bytes, where these are known. `leaves` are its files, each with what is known of its bytes.

-- an edition has exactly the present blocks
abbrev pub HasPresent : HeaderValue → (ℕ → ℕ → Bool) → Type 0
HasPresent h has = OfBlocks (shape_of h) (λ field block. has field block ≡ is_present (placing_of h) block)

-- where the bytes of its blocks are known, they are those of the volume with this raw input
abbrev pub HasBlocksOf : HeaderValue → List ℕ → Option (ℕ → ℕ → List ℕ) → Type 0
HasBlocksOf h raw stored =
    ForSome stored (λ stored. OfBlocks (shape_of h) (λ field block.
    IsWrittenBlock h (volume_of_raw h raw) field block (stored field block)))

-- none of these files stands under a path of the step
abbrev pub LackPaths : HeaderValue → ℕ → List MemFile → Type 0
LackPaths h step files = (file : ℕ) → file_at (file_name h step file) files ≡ None

-- Where the committed files before and after are known, an edition holds what those store that were added, and what all of them
-- store, if none from before stood under a path of the step.
pub record HoldsAdded (h : HeaderValue) (step : ℕ) (old new : Option (List MemFile)) (shape : Shape) (has : ℕ → ℕ → Bool)
    (stored : Option (ℕ → ℕ → List ℕ)) (leaves : List (List ℕ × Option (List ℕ))) : Type 0 where
  pub own : ForSome old (λ before. ForSome new (λ after. HoldsStored h step (drop (length before) after) shape has stored leaves))
  pub all : ForSome old (λ before. ForSome new (λ after. LackPaths h step before → HoldsStored h step after shape has stored leaves))
