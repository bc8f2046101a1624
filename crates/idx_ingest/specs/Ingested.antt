-- How gathering and publishing a step ends, by what a seat has seen and what is known of the raw volumes and of the bay, before and
-- after.
use Rattle.std.specs.Prelude.{◌≡◌, ◌≢◌, ◌⊎◌, ◌++◌, ◌∷◌, [], ℕ, Bool, List, Option, IfSome, length}
use Rattle.idx_outside.specs.declared.bay_call.BayCall.{BayCall}
use Rattle.idx_outside.specs.declared.mem_file.MemFile.{MemFile}
use Rattle.idx_header.specs.Header.{HeaderValue}
use Rattle.idx_layout.specs.Shape.{shape_of}
use Rattle.idx_hall.specs.Posts.{Post, post_of}
use Rattle.idx_gather.specs.Gather.{HasBlocksOf, HasPresent, HasVolume, HoldsAdded, IsCaused, IsFailedCall, Leaves, SomeStepAdded}
use Rattle.idx_gather.specs.declared.gather_fault.GatherFault.TheVariants.{NoMemory, StoreFault}
use Rattle.idx_ingest.specs.declared.ingest_end.IngestEnd.{IngestEnd}
use Rattle.idx_ingest.specs.declared.ingest_end.IngestEnd.TheVariants as ends

-- What is known: the raw volumes' bytes and their counts of faults, the committed files, and the count of the bay.
pub record Known : Type 0 where
  pub raw : Option (List ℕ)
  pub raw_before : List ℕ
  pub raw_after : List ℕ
  pub files : Option (List MemFile)
  pub files_after : Option (List MemFile)
  pub bay_before : ℕ
  pub bay_after : ℕ

-- the same of its parts
abbrev pub known : Option (List ℕ) → List ℕ → List ℕ → Option (List MemFile) → Option (List MemFile) → ℕ → ℕ → Known
known raw raw_before raw_after files files_after bay_before bay_after = record {
  raw = raw;
  raw_before = raw_before;
  raw_after = raw_after;
  files = files;
  files_after = files_after;
  bay_before = bay_before;
  bay_after = bay_after;
}

-- The step is the next post: all that its seat had seen is before it, and it has exactly the present blocks. Where the committed files
-- are known, before and after, so are the bytes of its blocks: they are those that the files store that were added. Where these bytes
-- and those of the raw volumes are known they are theirs.
pub record IsNextPost (h : HeaderValue) (time : ℕ) (raw : Option (List ℕ)) (old new : Option (List MemFile)) (before after : List Post)
    (number : ℕ) : Type 0 where
  pub has : ℕ → ℕ → Bool
  pub stored : Option (ℕ → ℕ → List ℕ)
  pub leaves : List (List ℕ × Option (List ℕ))
  pub present : HasPresent h has
  pub holds : HoldsAdded h time old new (shape_of h) has stored leaves
  pub blocks : IfSome raw (λ bytes. HasBlocksOf h bytes stored)
  pub is : after ≡ before ++ post_of (shape_of h) time has stored ∷ []
  pub number_is : number ≡ length before

-- What each end says: of a step that was published, that the raw volume has the right length, that exactly the step's files were added
-- and that it is the next post; of a refusal, its cause and what it leaves, as of gathering, and that it is not want of memory; of want
-- of memory, that the step stands whole or not at all. Where it is not published, nothing is.
abbrev pub IsIngested : HeaderValue → ℕ → Known → List Post → List Post → IngestEnd → Type 0
IsIngested h time k before after (ends.Published post) =
    HasVolume h k.raw × SomeStepAdded h time k.raw k.files k.files_after × IsNextPost h time k.raw k.files k.files_after before after post
    × (k.raw_after ≡ k.raw_before) × (k.bay_after ≡ k.bay_before)
IsIngested h time k before after (ends.Refused why) =
    (after ≡ before) × IsCaused h k.raw k.raw_before k.raw_after k.bay_before k.bay_after why
    × Leaves h time k.raw k.files k.files_after why × (why ≢ NoMemory)
IsIngested h time k before after ends.NoMemory =
    (after ≡ before) × ((k.files_after ≡ k.files) ⊎ SomeStepAdded h time k.raw k.files k.files_after)
    × (k.raw_after ≡ k.raw_before) × (k.bay_after ≡ k.bay_before)

-- Which call of the bay counted the last fault, before and after, by the committed files: at a fault of the store one of this
-- gathering, and else the one from before.
abbrev pub EndsFailed : Option (List MemFile) → Option (List MemFile) → Option BayCall → Option BayCall → IngestEnd → Type 0
EndsFailed old new before after (ends.Refused (StoreFault faults)) = IsFailedCall old new after
EndsFailed old new before after end = after ≡ before
