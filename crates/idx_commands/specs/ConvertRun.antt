-- How a run of `convert` ends, by what is seen of the raw volumes and of the bay.
use Rattle.std.specs.Prelude.{◌≡◌, ◌⊎◌, ℕ, ◌<◌, List, Option, Some, Err, IsSome, drop, length, min}
use Rattle.idx_outside.specs.Cause.{NeverFalls, Rose}
use Rattle.idx_outside.specs.Counts.{EachMeetsOnce}
use Rattle.idx_outside.specs.Objects.{SameContents}
use Rattle.idx_outside.specs.declared.bay_call.BayCall.{BayCall}
use Rattle.idx_outside.specs.declared.bay_call.BayCall.TheVariants as calls
use Rattle.idx_seal.specs.Rows.{MeetsOnceOrRow}
use Rattle.idx_rowmajor.specs.declared.layout.Layout.{Layout}
use Rattle.idx_gather.specs.Gather.{LacksVolume, NoneFalls}
use Rattle.idx_words.specs.ConvertValue.{ConvertValue}
use Rattle.idx_words.specs.Built.{IsBuilt}
use Rattle.idx_convert.specs.declared.convert_fault.ConvertFault.{ConvertFault}
use Rattle.idx_convert.specs.declared.convert_fault.ConvertFault.TheVariants as faults
use Rattle.idx_convert.specs.Convert.{Asks, Begins, Converted, IsCause, IsFailedCall, LeavesAsked, LeavesFailed, LeavesFiles, LeavesHeader, put_where_none}
use Rattle.idx_convert.specs.Counts.{SomeHigher, SomeRose}
use Rattle.idx_convert.specs.Known.{Known}
use Rattle.idx_commands.specs.declared.causes.Cause.{Cause}
use Rattle.idx_commands.specs.declared.causes.Cause.TheVariants as causes
use Rattle.idx_commands.specs.Cause.{status_of}
use Rattle.idx_commands.specs.Due.{HasOtherLength, HasRightLength, IsBadText, IsFree, IsTooLarge, LacksStep, MeetsBadHeader, MeetsOtherHeader, MeetsStep}
use Rattle.idx_commands.specs.Known.{known}
use Rattle.idx_commands.specs.Seen.{BaySeen, IsUnchanged, RawsSeen, bay_after, bay_before, raw_bytes, raws_after, raws_asked_after, raws_asked_before, raws_before}

-- the cause of a run that ends with this fault
abbrev pub cause_of_fault : ℕ → ConvertFault → Cause
cause_of_fault step (faults.Header line kind) = causes.Header line kind
cause_of_fault step faults.NoStep = causes.NoStep step
cause_of_fault step (faults.TooLarge bytes) = causes.TooLarge bytes
cause_of_fault step faults.OtherHeader = causes.OtherHeader
cause_of_fault step faults.AlreadyPublished = causes.AlreadyPublished step
cause_of_fault step (faults.RawWrongSize want found) = causes.RawWrongSize want found
cause_of_fault step faults.RawFault = causes.RawFault
cause_of_fault step faults.StoreFault = causes.StoreFault
cause_of_fault step faults.NoMemory = causes.NoMemory

-- The words ask for a header text of which this holds.
abbrev pub AsksForText : ConvertValue → (List ℕ → Type 0) → Type 0
AsksForText c P = (text : List ℕ) × (IsBuilt c text × P text)

-- Nothing was written, but perhaps the header text where none stood, or the step whole where a call on the bay failed: this
-- fault has its cause, leaves what it may, also of the bytes asked of the raw volumes, and tells which call of the bay failed.
pub record Fails (layout : Layout) (text : List ℕ) (step : ℕ) (k : Known) (cause : Cause) : Type 0 where
  pub fault : ConvertFault
  pub is : cause ≡ cause_of_fault step fault
  pub caused : IsCause text step k fault
  pub header : LeavesHeader text k fault
  pub files : LeavesFiles layout text step k fault
  pub asked : LeavesAsked k fault
  pub failed : LeavesFailed {T = Unit {0}} layout text step k (Err fault)

-- There was not enough memory. No file was added, and the header text is the one that stood, or the text where none stood; and no
-- call of the bay failed.
pub record Starves (c : ConvertValue) (k : Known) : Type 0 where
  pub files : k.files_after ≡ k.files
  pub header : (k.header_after ≡ k.header) ⊎ AsksForText c (λ text. k.header_after ≡ put_where_none text k.header)
  pub failed : k.failed_after ≡ k.failed

-- what each cause says; no other cause comes
abbrev pub ConvertMeans : ConvertValue → Known → Cause → Type 0
ConvertMeans c k causes.Done = AsksForText c (λ text. Converted c.layout text c.step k)
ConvertMeans c k (causes.Usage at) = ⊥
ConvertMeans c k causes.SinkFault = ⊥
ConvertMeans c k causes.DoorFault = ⊥
ConvertMeans c k causes.NoMemory = Starves c k
ConvertMeans c k cause = AsksForText c (λ text. Fails c.layout text c.step k cause)

-- The run ended for what can be known before the first change: for the header that is asked for, for what stands, or for the
-- length of a raw volume whose bytes are known.
abbrev pub IsEarlyCause : Option (List ℕ) → Cause → Type 0
IsEarlyCause raw (causes.Header line kind) = Unit {0}
IsEarlyCause raw (causes.NoStep time) = Unit {0}
IsEarlyCause raw (causes.TooLarge bytes) = Unit {0}
IsEarlyCause raw causes.OtherHeader = Unit {0}
IsEarlyCause raw (causes.AlreadyPublished time) = Unit {0}
IsEarlyCause raw (causes.RawWrongSize want found) = IsSome raw
IsEarlyCause raw cause = ⊥

-- The store failed as it was asked for the header that stands; or so, or as it was asked for the revisions of the step.
abbrev pub FailsAtHeader : ℕ → Option BayCall → Type 0
FailsAtHeader status failed = (status ≡ 5) × (failed ≡ Some calls.Header)

abbrev pub FailsFirst : ℕ → Option BayCall → Type 0
FailsFirst status failed = (status ≡ 5) × ((failed ≡ Some calls.Header) ⊎ (failed ≡ Some calls.HasStep))

-- the words ask for a header text and a step of which this holds
abbrev pub AsksToConvert : ConvertValue → (List ℕ → ℕ → Type 0) → Type 0
AsksToConvert c P = AsksForText c (λ text. P text c.step)

-- How a run ends with this cause.
pub record ConvertEnds {V B : Type 0} (c : ConvertValue) (raws : RawsSeen V) (bay : BaySeen B) (cause : Cause) : Type 0 where
  -- What the cause says: at Done exactly the files of the step at the next revision were added, in the layout that the words ask
  -- for, and the header text put where none stood; at each other one no file was, but at StoreFault all of them may be, and the cause is there. Of a raw volume
  -- whose bytes are known none is asked for where its length is wrong, or something that comes before.
  pub means : ConvertMeans c (known raws bay) cause
  -- each refusal comes where it is due, but for faults that come before, and want of memory
  pub bad_text : AsksToConvert c IsBadText → (status_of cause ≡ 2) ⊎ (status_of cause ≡ 11)
  pub no_step : AsksToConvert c LacksStep → (status_of cause ≡ 8) ⊎ (status_of cause ≡ 11)
  pub too_large : AsksToConvert c IsTooLarge → (status_of cause ≡ 8) ⊎ (status_of cause ≡ 11)
  pub bad_standing : AsksToConvert c (MeetsBadHeader (bay.header bay.old)) →
      (status_of cause ≡ 2) ⊎ (FailsAtHeader (status_of cause) (bay.failed bay.new) ⊎ (status_of cause ≡ 11))
  pub other_header : AsksToConvert c (MeetsOtherHeader (bay.header bay.old)) →
      (status_of cause ≡ 6) ⊎ (FailsAtHeader (status_of cause) (bay.failed bay.new) ⊎ (status_of cause ≡ 11))
  pub published : AsksToConvert c (MeetsStep (bay.header bay.old) (bay.files bay.old)) →
      (status_of cause ≡ 6) ⊎ (FailsFirst (status_of cause) (bay.failed bay.new) ⊎ (status_of cause ≡ 11))
  pub other_length : AsksToConvert c (IsFree (bay.header bay.old) (bay.files bay.old) (raw_bytes raws) HasOtherLength) →
      (status_of cause ≡ 3) ⊎ ((status_of cause ≡ 4) ⊎ (FailsFirst (status_of cause) (bay.failed bay.new) ⊎ (status_of cause ≡ 11)))
  -- where nothing is wrong and no fault was counted, the step is written, unless there is not enough memory
  pub complete : AsksToConvert c (IsFree (bay.header bay.old) (bay.files bay.old) (raw_bytes raws) HasRightLength) →
      ¬ SomeRose (raws_before raws) (raws_after raws) → ¬ Rose (bay_before bay) (bay_after bay) →
      (status_of cause ≡ 0) ⊎ (status_of cause ≡ 11)
  -- a fault that was counted is answered
  pub raw_answered : SomeHigher (raws_before raws) (raws_after raws) → cause ≡ causes.RawFault
  pub store_answered : bay_before bay < bay_after bay → cause ≡ causes.StoreFault
  -- what can be known before the first change is found before the bay is changed
  pub unbegun : IsEarlyCause (raw_bytes raws) cause → IsUnchanged bay
  -- raw volumes that are known to have another length than the samples take are not read, whatever the answer
  pub unread : AsksForText c (λ text. Asks text c.step (λ h. LacksVolume h (raw_bytes raws))) →
      raws_asked_after raws ≡ raws_asked_before raws
  -- the calls of the bay come in their order, as the one that failed tells; at any other cause none failed
  pub failed : status_of cause ≡ 5 → AsksForText c (λ text. IsFailedCall c.layout text c.step (known raws bay) (bay.failed bay.new))
  pub unfailed : ¬ (status_of cause ≡ 5) → bay.failed bay.new ≡ bay.failed bay.old
  -- no step is begun but the one that is asked for, at some revision, and the next one where the committed files are known
  pub begun : (bay.begun bay.new ≡ bay.begun bay.old)
      ⊎ AsksForText c (λ text. Asks text c.step (λ h. Begins h c.step (known raws bay)))
  -- what is known of the raw volumes' bytes stays, those behind the first, one for each rank, were not touched, and no count fell
  pub raws_kept : SameContents raws.contents raws.old raws.new
  pub raws_idle : drop (min c.ranks (length raws.old)) raws.new ≡ drop (min c.ranks (length raws.old)) raws.old
  pub raw_counts : NoneFalls (raws_before raws) (raws_after raws)
  pub bay_count : NeverFalls (bay_before bay) (bay_after bay)
  -- each fault was met once, but for those of one row of files, which are written side by side, one for each rank
  pub raws_once : EachMeetsOnce (raws_before raws) (raws_after raws)
  pub bay_once : MeetsOnceOrRow (bay.failed bay.new) c.ranks (bay_before bay) (bay_after bay)
