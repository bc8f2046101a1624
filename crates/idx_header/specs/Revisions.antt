-- Revisions of a step: each writing of it is one more, counted from 0. Which stand, which is written next, and which stands
-- last; and what asking a bay for them promises.
use Rattle.std.specs.Prelude.{◌≡◌, ℕ, zero, suc, ◌<◌, ◌==◌, nat_lt, if◌then◌else◌, Bool, List, Option, Some, None, Result, OnOk, IsErrOf}
use Rattle.std.specs.List.{prefix_len, range_with_len}
use Rattle.idx_outside.specs.Calls.{counts_none, last_failed}
use Rattle.idx_outside.specs.Cause.{MeetsOnce, NeverFalls, OnlyWhereRose}
use Rattle.idx_outside.specs.Files.{StillAdmits, has_folder}
use Rattle.idx_outside.specs.declared.bay_call.BayCall.{BayCall}
use Rattle.idx_outside.specs.declared.bay_call.BayCall.TheVariants.{HasStep}
use Rattle.idx_outside.specs.declared.bay_fault.BayFault.{BayFault}
use Rattle.idx_outside.specs.declared.bay_fault.BayFault.TheVariants.{Outage, NoMemory}
use Rattle.idx_outside.specs.declared.mem_file.MemFile.{MemFile}
use Rattle.idx_header.specs.Header.{HeaderValue, at_revision}
use Rattle.idx_header.specs.Names.{step_folder}

-- some committed file is of the folder; where there is no folder, revision 0 stands alone
abbrev pub stands_in : Option (List ℕ) → List MemFile → ℕ → Bool
stands_in None files r = r == 0
stands_in (Some folder) files r = has_folder folder files

-- some committed file is of the folder of a step at a revision
abbrev pub stands_at : HeaderValue → ℕ → List MemFile → ℕ → Bool
stands_at h step files r = stands_in (step_folder (at_revision r h) step) files r

-- the least revision, from 0 to 255, of which no step stands, or 256 where there is none; 1 for a header without a time
unfoldable pub next_revision : HeaderValue → ℕ → List MemFile → ℕ
next_revision h step files = prefix_len (stands_at h step files) (range_with_len 0 256)

-- the header at this revision, if there is such a revision
abbrev pub header_at : HeaderValue → ℕ → Option HeaderValue
header_at h r = if nat_lt r 256 then Some (at_revision r h) else None

-- the header at the last of so many revisions, if there is one
abbrev pub last_header : HeaderValue → ℕ → Option HeaderValue
last_header h zero = None
last_header h (suc r) = Some (at_revision r h)

-- the header at the revision that is written next, if one is left
abbrev pub header_to_write : HeaderValue → ℕ → List MemFile → Option HeaderValue
header_to_write h step files = header_at h (next_revision h step files)

-- the header at the newest revision that stands, if one does
abbrev pub header_that_stands : HeaderValue → ℕ → List MemFile → Option HeaderValue
header_that_stands h step files = last_header h (next_revision h step files)

-- one is the other at some revision
pub record IsRevisionOf (h revised : HeaderValue) : Type 0 where
  pub number : ℕ
  pub few : number < 256
  pub same : revised ≡ at_revision number h

-- What a call that asks a bay which steps stand, and for nothing else, leaves of the bay, and how it answers a fault of it.
-- The first seven are the ghost members of bays.
pub record AsksSteps {S T : Type 0} (header : S → Option (List ℕ)) (files : S → Option (List MemFile))
    (admits : S → List ℕ → Type 0) (begun : S → Option (List ℕ)) (changes : S → ℕ) (failed : S → Option BayCall)
    (faults : S → ℕ) (old new : S) (result : Result T BayFault) : Type 0 where
  pub header_same : header new ≡ header old
  pub files_same : files new ≡ files old
  pub admits_still : StillAdmits admits old new
  pub begun_same : begun new ≡ begun old
  pub changes_same : changes new ≡ changes old
  pub failed_is : failed new ≡ last_failed HasStep (counts_none result) (failed old)
  pub count : NeverFalls (faults old) (faults new)
  pub once : MeetsOnce (faults old) (faults new)
  pub quiet : OnOk result (faults new ≡ faults old)
  pub no_memory : IsErrOf result NoMemory → faults new ≡ faults old
  pub cause : OnlyWhereRose result Outage (faults old) (faults new)
