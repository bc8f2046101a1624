-- What checking a step of a dataset promises: by the step's number, what is known of the header text and of the committed files, and
-- the counts of faults.
use Rattle.std.specs.Prelude.{◌≡◌, ◌≢◌, ◌⊎◌, ℕ, List, Option, Some, None, IfSome, IsSome}
use Rattle.idx_outside.specs.Cause.{Rose}
use Rattle.idx_outside.specs.declared.bay_call.BayCall.{BayCall}
use Rattle.idx_outside.specs.declared.bay_call.BayCall.TheVariants as calls
use Rattle.idx_outside.specs.declared.mem_file.MemFile.{MemFile}
use Rattle.idx_header.specs.Header.{HasTime, HeaderValue}
use Rattle.idx_header.specs.OfBay.{Gives, IsFaultOf}
use Rattle.idx_header.specs.declared.header_kind.HeaderKind.TheVariants as kinds
use Rattle.idx_edition.specs.Loaded.{Counts, IsBayFault, IsReaderFault, counts}
use Rattle.idx_edition.specs.Stored.{IsAbsent, StandsAs}
use Rattle.idx_check.specs.Verdict.{verdict_of}
use Rattle.idx_check.specs.declared.refused_check.RefusedCheck.{RefusedCheck}
use Rattle.idx_check.specs.declared.refused_check.RefusedCheck.TheVariants as refusals
use Rattle.idx_check.specs.declared.verdict.Verdict.{Verdict}

-- The header text, where it is known, is that of a header of which this holds.
abbrev pub Under : Option (List ℕ) → (HeaderValue → Type 0) → Type 0
Under known P = (h : HeaderValue) × (Gives known h × P h)

-- The step stands, and this is the verdict on the files of its newest revision.
pub record IsVerdict (h : HeaderValue) (step : ℕ) (files : List MemFile) (said : Verdict) : Type 0 where
  pub revised : HeaderValue
  pub stands : StandsAs h step files revised
  pub same : said ≡ verdict_of revised step files

-- The header has a time with the step, and where the committed files are known this is the verdict.
pub record IsChecked (h : HeaderValue) (step : ℕ) (files : Option (List MemFile)) (said : Verdict) : Type 0 where
  pub timed : IsSome h.steps
  pub has : HasTime h step
  pub verdict : IfSome files (λ files. IsVerdict h step files said)

abbrev pub Checked : ℕ → Option (List ℕ) → Option (List MemFile) → Verdict → Type 0
Checked step header files said = Under header (λ h. IsChecked h step files said)

-- The header has no time, or the step does not stand.
abbrev pub LacksStep : HeaderValue → ℕ → Option (List MemFile) → Type 0
LacksStep h step files = (h.steps ≡ None) ⊎ IfSome files (IsAbsent h step)

-- What is known of a dataset, its header text and its committed files, and what its bay and the reader counted.
pub record Known : Type 0 where
  pub header : Option (List ℕ)
  pub files : Option (List MemFile)
  pub counts : Counts

-- the same of a bay and a reader, by the ghost members of their traits
abbrev pub known : {B R : Type 0} → (B → Option (List ℕ)) → (B → Option (List MemFile)) → (B → ℕ) → (B → Option BayCall) → (R → ℕ) → B → B → R → R → Known
known header files bay_faults failed reader_faults bay_old bay_new reader_old reader_new =
    record {
      header = header bay_old;
      files = files bay_old;
      counts = counts bay_faults failed reader_faults bay_old bay_new reader_old reader_new;
    }

-- the bay counted a fault when it was asked for the header, and the reader none
pub record IsHeaderFault (c : Counts) : Type 0 where
  pub rose : Rose c.bay_before c.bay_after
  pub call : c.failed_after ≡ Some calls.Header
  pub reader : c.reader_after ≡ c.reader_before

-- The header has a time with the step, and the bay counted a fault when it was asked for the step or for a file of it, or the
-- reader did.
pub record IsStepFault (h : HeaderValue) (step : ℕ) (c : Counts) : Type 0 where
  pub timed : IsSome h.steps
  pub has : HasTime h step
  pub fault : IsBayFault c ⊎ IsReaderFault c

-- What each refusal says under a header that was read.
abbrev pub IsCauseUnder : HeaderValue → ℕ → Known → RefusedCheck → Type 0
IsCauseUnder h step k (refusals.Header line kind) = ⊥
IsCauseUnder h step k refusals.NotPublished = LacksStep h step k.files
IsCauseUnder h step k refusals.StoreFault = IsStepFault h step k.counts
IsCauseUnder h step k refusals.NoMemory = Unit {0}

-- What each refusal says. A fault of the store comes also where the bay counted one when it was asked for the header.
abbrev pub IsCause : ℕ → Known → RefusedCheck → Type 0
IsCause step k (refusals.Header line kind) =
    (kind ≢ kinds.NoMemory) × IfSome k.header (λ text. IsFaultOf text line kind)
IsCause step k refusals.NotPublished = Under k.header (λ h. LacksStep h step k.files)
IsCause step k refusals.StoreFault =
    IsHeaderFault k.counts ⊎ Under k.header (λ h. IsStepFault h step k.counts)
IsCause step k refusals.NoMemory = Unit {0}

-- The refusal is one of the header or of the step's standing: it comes before the first read.
abbrev pub IsUnread : RefusedCheck → Type 0
IsUnread (refusals.Header line kind) = Unit {0}
IsUnread refusals.NotPublished = Unit {0}
IsUnread refusals.StoreFault = ⊥
IsUnread refusals.NoMemory = ⊥
