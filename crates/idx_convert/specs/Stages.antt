-- What is said between the stages of a conversion.
use Rattle.std.specs.Prelude.{◌≡◌, ◌≢◌, ℕ, ◌<◌, List, length, Option, Some, None, IfSome, Result, Err, OnOk}
use Rattle.idx_outside.specs.Cause.{MeetsOnce, NeverFalls, Rose}
use Rattle.idx_outside.specs.Files.{StillAdmits}
use Rattle.idx_outside.specs.declared.bay_call.BayCall.{BayCall}
use Rattle.idx_outside.specs.declared.bay_call.BayCall.TheVariants as calls
use Rattle.idx_outside.specs.declared.bay_fault.BayFault.{BayFault}
use Rattle.idx_outside.specs.declared.bay_fault.BayFault.TheVariants as bay_faults
use Rattle.idx_outside.specs.declared.mem_file.MemFile.{MemFile}
use Rattle.idx_header.specs.declared.header_kind.HeaderKind.TheVariants as kinds
use Rattle.idx_header.specs.declared.header_refusal.HeaderRefusal.{HeaderRefusal}
use Rattle.idx_header.specs.declared.header_refusal.HeaderRefusal.TheVariants as refusals
use Rattle.idx_header.specs.Header.{HeaderValue, volume_bytes}
use Rattle.idx_header.specs.OfBay.{IsFaultOfSome}
use Rattle.idx_header.specs.Revisions.{header_to_write}
use Rattle.idx_gather.specs.declared.gather_fault.GatherFault.{GatherFault}
use Rattle.idx_gather.specs.declared.gather_fault.GatherFault.TheVariants as gather_faults
use Rattle.idx_convert.specs.declared.convert_fault.ConvertFault.{ConvertFault}
use Rattle.idx_convert.specs.declared.convert_fault.ConvertFault.TheVariants as faults
use Rattle.idx_convert.specs.Convert.{Suits, Differs, Takes}
use Rattle.idx_convert.specs.Counts.{SomeRose}
use Rattle.idx_convert.specs.Known.{Known}

-- the fault that is answered where a bay gives no header
abbrev pub cause_of_refusal : HeaderRefusal → ConvertFault
cause_of_refusal (refusals.Fault line kind) = faults.Header line kind
cause_of_refusal refusals.Outage = faults.StoreFault
cause_of_refusal refusals.NoMemory = faults.NoMemory

-- the fault that is answered where a bay does not say which revisions of a step stand
abbrev pub cause_of_bay : BayFault → ConvertFault
cause_of_bay bay_faults.Outage = faults.StoreFault
cause_of_bay bay_faults.NoMemory = faults.NoMemory

-- the fault that is answered where gathering is refused
abbrev pub cause_of_gather : GatherFault → ConvertFault
cause_of_gather (gather_faults.RawWrongSize want found) = faults.RawWrongSize want found
cause_of_gather (gather_faults.RawFault rank count) = faults.RawFault
cause_of_gather (gather_faults.StoreFault count) = faults.StoreFault
cause_of_gather gather_faults.NoMemory = faults.NoMemory

-- The call of the bay that failed before the first change: the header that stands is asked for first, and the revisions of the
-- step only where that header suits.
abbrev pub IsFirstCall : HeaderValue → Known → Option BayCall → Type 0
IsFirstCall h k (Some calls.Header) = Unit {0}
IsFirstCall h k (Some calls.HasStep) = IfSome k.header (Suits h)
IsFirstCall h k call = ⊥

-- What each fault says of the header that was asked for, once its text, its step and its size were accepted.
abbrev pub IsStop : HeaderValue → ℕ → Known → ConvertFault → Type 0
IsStop h step k (faults.Header line kind) =
    (kind ≢ kinds.NoMemory) × IfSome k.header (λ known. IsFaultOfSome known line kind)
IsStop h step k faults.NoStep = ⊥
IsStop h step k (faults.TooLarge bytes) = ⊥
IsStop h step k faults.OtherHeader = IfSome k.header (Differs h)
IsStop h step k faults.AlreadyPublished = IfSome k.header (Suits h) × IfSome k.files (λ files. header_to_write h step files ≡ None)
IsStop h step k (faults.RawWrongSize want found) =
    Takes h step k.header k.files × (want ≡ volume_bytes h) × (found ≢ want) × IfSome k.raw (λ bytes. found ≡ length bytes)
IsStop h step k faults.RawFault = Takes h step k.header k.files × SomeRose k.raw_before k.raw_after
IsStop h step k faults.StoreFault = Rose k.bay_before k.bay_after × IsFirstCall h k k.failed_after
IsStop h step k faults.NoMemory = Unit {0}

-- What is known, with this of the bay: its header text and its committed files, which call counted the last fault after, and
-- its counts of faults.
abbrev pub with_bay : Option (List ℕ) → Option (List MemFile) → Option BayCall → ℕ → ℕ → Known → Known
with_bay header files failed_after before after k =
    record k { header = header; files = files; failed_after = failed_after; bay_before = before; bay_after = after }

-- What is known, with this of the raw volumes: their bytes, and their counts of faults.
abbrev pub with_raw : Option (List ℕ) → List ℕ → List ℕ → Known → Known
with_raw raw before after k = record k { raw = raw; raw_before = before; raw_after = after }

-- What a stage that changes nothing leaves of the bay, and how it answers a fault of it. The first seven are the ghost members
-- of bays.
pub record OnlyLooks {S T : Type 0} (header : S → Option (List ℕ)) (files : S → Option (List MemFile))
    (begun : S → Option (List ℕ)) (changes : S → ℕ) (failed : S → Option BayCall) (admits : S → List ℕ → Type 0) (counts : S → ℕ)
    (old new : S) (result : Result T ConvertFault) : Type 0 where
  pub header_same : header new ≡ header old
  pub files_same : files new ≡ files old
  pub begun_same : begun new ≡ begun old
  pub changes_same : changes new ≡ changes old
  pub admits_still : StillAdmits admits old new
  pub unfailed : result ≢ Err faults.StoreFault → failed new ≡ failed old
  pub quiet : OnOk result (counts new ≡ counts old)
  pub answered : counts old < counts new → result ≡ Err faults.StoreFault
  pub count : NeverFalls (counts old) (counts new)
  pub once : MeetsOnce (counts old) (counts new)
