-- What converting a raw volume promises: by the header text that is asked for, the step, and what is known of the raw volumes
-- and of the bay before and after.
use Rattle.std.specs.Prelude.{◌≡◌, ◌≢◌, ◌⊎◌, ℕ, ◌<◌, List, [], ◌∷◌, length, Option, Some, None, IfSome, IsSome, IsSomeAnd, Result, Ok, Err, OnOk, IfErr}
use Rattle.idx_outside.specs.Cause.{NeverFalls, Rose}
use Rattle.idx_outside.specs.Files.{known_with}
use Rattle.idx_outside.specs.declared.bay_call.BayCall.{BayCall}
use Rattle.idx_outside.specs.declared.bay_call.BayCall.TheVariants as calls
use Rattle.idx_outside.specs.declared.mem_file.MemFile.{MemFile}
use Rattle.idx_header.specs.declared.header_kind.HeaderKind.TheVariants as kinds
use Rattle.idx_header.specs.Header.{HeaderValue, Agree, volume_bytes}
use Rattle.idx_header.specs.HeaderOf.{header_of}
use Rattle.idx_header.specs.Names.{step_folder}
use Rattle.idx_header.specs.OfBay.{IsFaultOf, IsFaultOfSome}
use Rattle.idx_header.specs.Revisions.{IsRevisionOf, header_to_write}
use Rattle.idx_rowmajor.specs.declared.layout.Layout.{Layout}
use Rattle.idx_gather.specs.Gather.{HasFolder, HasVolume, LacksVolume, SomeStepAddedAs, too_large}
use Rattle.idx_convert.specs.declared.convert_fault.ConvertFault.{ConvertFault}
use Rattle.idx_convert.specs.declared.convert_fault.ConvertFault.TheVariants as faults
use Rattle.idx_convert.specs.Counts.{SomeHigher, SomeRose}
use Rattle.idx_convert.specs.Known.{KeepsBay, Known}

-- The text is that of this header, which has a time and this step, and of which no step is too large to write.
pub record AsksFor (text : List ℕ) (step : ℕ) (h : HeaderValue) : Type 0 where
  pub reads : header_of text ≡ Ok h
  pub folder : HasFolder h step
  pub small : too_large h ≡ None

-- No header stands, or its text is that of one that agrees with this one.
abbrev pub Suits : HeaderValue → List ℕ → Type 0
Suits h standing = (standing ≡ []) ⊎ ((other : HeaderValue) × ((header_of standing ≡ Ok other) × Agree other h))

-- A header stands, and its text is that of one that does not agree with this one.
abbrev pub Differs : HeaderValue → List ℕ → Type 0
Differs h standing = (standing ≢ []) × ((other : HeaderValue) × ((header_of standing ≡ Ok other) × (¬ Agree other h)))

-- The dataset, as far as it is known, takes the step: what stands suits the header, and a revision of the step is left to write.
pub record Takes (h : HeaderValue) (step : ℕ) (standing : Option (List ℕ)) (files : Option (List MemFile)) : Type 0 where
  pub suits : IfSome standing (Suits h)
  pub next : IfSome files (λ files. IsSome (header_to_write h step files))

-- The step is written under this header, the one at the next revision, as far as the committed files are known.
abbrev pub IsNext : HeaderValue → ℕ → Option (List MemFile) → HeaderValue → Type 0
IsNext h step files written = IfSome files (λ files. header_to_write h step files ≡ Some written)

-- the header text with this one put where none stood
abbrev pub put_where_none : List ℕ → Option (List ℕ) → Option (List ℕ)
put_where_none text None = None
put_where_none text (Some []) = Some text
put_where_none text (Some (byte ∷ bytes)) = Some (byte ∷ bytes)

-- The text asks for a step of a header of which this holds.
abbrev pub Asks : List ℕ → ℕ → (HeaderValue → Type 0) → Type 0
Asks text step P = (h : HeaderValue) × (AsksFor text step h × P h)

-- The text is that of a header of which this holds.
abbrev pub Reads : List ℕ → (HeaderValue → Type 0) → Type 0
Reads text P = (h : HeaderValue) × ((header_of text ≡ Ok h) × P h)

-- The folder that was last begun is that of the step under this header, known where the committed files are.
abbrev pub BeginsAt : HeaderValue → ℕ → Known → Type 0
BeginsAt written step k = IsSomeAnd (step_folder written step) (λ folder. k.begun_after ≡ known_with k.files folder)

-- The same under this header at some revision, where the committed files are known at the next one.
abbrev pub Begins : HeaderValue → ℕ → Known → Type 0
Begins h step k = (written : HeaderValue) × (IsRevisionOf h written × IsNext h step k.files written × BeginsAt written step k)

-- The step was written: all was as it has to be, exactly the files of the step at the next revision were added, in a layout, and
-- the header text was put where none stood. For that the step was begun.
pub record Converted (layout : Layout) (text : List ℕ) (step : ℕ) (k : Known) : Type 0 where
  -- the header of the text, and that header at the revision that was written
  pub header : HeaderValue
  pub written : HeaderValue
  pub asked : AsksFor text step header
  pub taken : Takes header step k.header k.files
  pub size : HasVolume header k.raw
  pub revised : IsRevisionOf header written
  pub next : IsNext header step k.files written
  pub added : SomeStepAddedAs layout written step k.raw k.files k.files_after
  pub put : k.header_after ≡ put_where_none text k.header
  pub begun : BeginsAt written step k

-- What each fault says.
abbrev pub IsCause : List ℕ → ℕ → Known → ConvertFault → Type 0
IsCause text step k (faults.Header line kind) =
    (kind ≢ kinds.NoMemory)
    × (IsFaultOf text line kind
    ⊎ Asks text step (λ h. IfSome k.header (λ known. IsFaultOfSome known line kind)))
IsCause text step k faults.NoStep = Reads text (λ h. ¬ HasFolder h step)
IsCause text step k (faults.TooLarge bytes) =
    Reads text (λ h. HasFolder h step × (too_large h ≡ Some bytes))
IsCause text step k faults.OtherHeader = Asks text step (λ h. IfSome k.header (Differs h))
IsCause text step k faults.AlreadyPublished =
    Asks text step (λ h. IfSome k.header (Suits h) × IfSome k.files (λ files. header_to_write h step files ≡ None))
IsCause text step k (faults.RawWrongSize want found) =
    Asks text step (λ h. Takes h step k.header k.files
    × (want ≡ volume_bytes h) × (found ≢ want) × IfSome k.raw (λ bytes. found ≡ length bytes))
IsCause text step k faults.RawFault = Asks text step (λ h. Takes h step k.header k.files × SomeRose k.raw_before k.raw_after)
IsCause text step k faults.StoreFault = Asks text step (λ h. Rose k.bay_before k.bay_after)
IsCause text step k faults.NoMemory = Unit {0}

-- What each fault leaves of the header text. What can be known before the header is put leaves it as it was; of a raw volume
-- whose bytes are not known, the length may be another when it is asked again.
abbrev pub LeavesHeader : List ℕ → Known → ConvertFault → Type 0
LeavesHeader text k (faults.RawWrongSize want found) =
    (k.header_after ≡ k.header) ⊎ ((k.raw ≡ None) × (k.header_after ≡ put_where_none text k.header))
LeavesHeader text k faults.RawFault = (k.header_after ≡ k.header) ⊎ (k.header_after ≡ put_where_none text k.header)
LeavesHeader text k faults.StoreFault = (k.header_after ≡ k.header) ⊎ (k.header_after ≡ put_where_none text k.header)
LeavesHeader text k faults.NoMemory = (k.header_after ≡ k.header) ⊎ (k.header_after ≡ put_where_none text k.header)
LeavesHeader text k fault = k.header_after ≡ k.header

-- What each fault leaves of the committed files: they are those from before. A store's fault may come of the commit itself,
-- which then may have added the step: whole, where all is as at success.
abbrev pub LeavesFiles : Layout → List ℕ → ℕ → Known → ConvertFault → Type 0
LeavesFiles layout text step k faults.StoreFault = (k.files_after ≡ k.files) ⊎ Converted layout text step k
LeavesFiles layout text step k fault = k.files_after ≡ k.files

-- The fault can be known before the first change: it is one of what is asked for, of what stands, or of the length of a raw
-- volume whose bytes are known.
abbrev pub IsEarly : Option (List ℕ) → ConvertFault → Type 0
IsEarly raw (faults.Header line kind) = Unit {0}
IsEarly raw faults.NoStep = Unit {0}
IsEarly raw (faults.TooLarge bytes) = Unit {0}
IsEarly raw faults.OtherHeader = Unit {0}
IsEarly raw faults.AlreadyPublished = Unit {0}
IsEarly raw (faults.RawWrongSize want found) = IsSome raw
IsEarly raw fault = ⊥

-- What each fault leaves of the bytes asked of the raw volumes: none were asked, but where these may have been read. A raw volume
-- whose bytes are not known may have another length when it is asked again, after some were read.
abbrev pub LeavesAsked : Known → ConvertFault → Type 0
LeavesAsked k (faults.RawWrongSize want found) = IfSome k.raw (λ _. k.asked_after ≡ k.asked_before)
LeavesAsked k faults.RawFault = Unit {0}
LeavesAsked k faults.StoreFault = Unit {0}
LeavesAsked k faults.NoMemory = Unit {0}
LeavesAsked k fault = k.asked_after ≡ k.asked_before

-- All that can be known before the first change is as it has to be.
abbrev pub IsRight : HeaderValue → ℕ → Known → Type 0
IsRight h step k = Takes h step k.header k.files × HasVolume h k.raw

-- The header text stands that was to stand.
abbrev pub HasPut : List ℕ → Known → Type 0
HasPut text k = k.header_after ≡ put_where_none text k.header

-- What the call of the bay that failed tells, in the order of the calls: the header that stands and the revisions of the step are
-- asked for first, and only then the bay is changed, by putting the header text, beginning the step, making its files and giving up a
-- draft, and by the commit, which alone may have added the step. No leaf is asked for.
abbrev pub IsFailedCall : Layout → List ℕ → ℕ → Known → Option BayCall → Type 0
IsFailedCall layout text step k (Some calls.Header) = KeepsBay k
IsFailedCall layout text step k (Some calls.HasStep) = KeepsBay k × Asks text step (λ h. IfSome k.header (Suits h))
IsFailedCall layout text step k (Some calls.SetHeader) =
    (k.files_after ≡ k.files) × (k.begun_after ≡ k.begun) × Asks text step (λ h. IsRight h step k)
IsFailedCall layout text step k (Some calls.BeginStep) =
    (k.files_after ≡ k.files) × (k.begun_after ≡ k.begun) × HasPut text k × Asks text step (λ h. IsRight h step k)
IsFailedCall layout text step k (Some calls.Create) =
    (k.files_after ≡ k.files) × HasPut text k × Asks text step (λ h. IsRight h step k × Begins h step k)
IsFailedCall layout text step k (Some calls.Retire) =
    (k.files_after ≡ k.files) × HasPut text k × Asks text step (λ h. IsRight h step k × Begins h step k)
IsFailedCall layout text step k (Some calls.Commit) =
    ((k.files_after ≡ k.files) ⊎ Converted layout text step k)
    × HasPut text k × Asks text step (λ h. IsRight h step k × Begins h step k)
IsFailedCall layout text step k (Some calls.Leaf) = ⊥
IsFailedCall layout text step k None = ⊥

-- Which call of the bay counted the last fault: at a fault of the store one of this conversion, and else the one from before.
abbrev pub LeavesFailed : {T : Type 0} → Layout → List ℕ → ℕ → Known → Result T ConvertFault → Type 0
LeavesFailed layout text step k (Err faults.StoreFault) = IsFailedCall layout text step k k.failed_after
LeavesFailed layout text step k result = k.failed_after ≡ k.failed

-- How a conversion ends with this answer.
pub record Ends {T : Type 0} (layout : Layout) (text : List ℕ) (step : ℕ) (k : Known) (result : Result T ConvertFault) : Type 0 where
  -- the step was added, and the header text put where none stood
  pub converted : OnOk result (Converted layout text step k)
  -- each refusal has its cause, and leaves the header text and the committed files as its definition says
  pub cause : IfErr result (IsCause text step k)
  pub header : IfErr result (LeavesHeader text k)
  pub files : IfErr result (LeavesFiles layout text step k)
  -- what can be known before the first change leaves the bay unchanged
  pub early : IfErr result (λ fault. IsEarly k.raw fault → KeepsBay k)
  -- a refusal for what is asked for, for what stands or for a known length comes before a byte is asked of a raw volume; and none
  -- is asked where they are known to have another length
  pub asked : IfErr result (LeavesAsked k)
  pub unasked : Asks text step (λ h. LacksVolume h k.raw) → k.asked_after ≡ k.asked_before
  -- no step is begun but the one that is asked for, at its next revision
  pub begun : (k.begun_after ≡ k.begun) ⊎ Asks text step (λ h. Begins h step k)
  -- the calls of the bay come in their order, as the one that failed tells
  pub failed : LeavesFailed layout text step k result
  -- a fault that was counted is answered, at success no raw volume counted one, and the bay's count never falls
  pub raw_answered : SomeHigher k.raw_before k.raw_after → result ≡ Err faults.RawFault
  pub raw_quiet : OnOk result (k.raw_after ≡ k.raw_before)
  pub store_answered : k.bay_before < k.bay_after → result ≡ Err faults.StoreFault
  pub count : NeverFalls k.bay_before k.bay_after
