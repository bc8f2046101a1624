-- How a run of `serve` ends, by what is seen of the bay, of the readers, of the sink and of the doors.
use Rattle.std.specs.Prelude.{◌≡◌, ◌≢◌, ◌⊎◌, ℕ, ◌<◌, List, Option, Some, None, IsSomeAnd, length, min}
use Rattle.idx_outside.specs.Cause.{MeetsOnce, NeverFalls, Rose}
use Rattle.idx_outside.specs.Counts.{EachMeetsOnce}
use Rattle.idx_outside.specs.Contents.{appended, AppendsPrefix}
use Rattle.idx_outside.specs.Objects.{OthersUntouched}
use Rattle.idx_outside.specs.declared.bay_call.BayCall.TheVariants as calls
use Rattle.idx_outside.specs.declared.mem_file.MemFile.{MemFile}
use Rattle.idx_table.specs.declared.table_fault.TableKind.{TableKind}
use Rattle.idx_edition.specs.declared.load_fault.LoadFault.TheVariants as loads
use Rattle.idx_gather.specs.Gather.{NoneFalls}
use Rattle.idx_convert.specs.Counts.{SomeHigher, SomeRose}
use Rattle.idx_serve.specs.declared.door.ServeEnd.TheVariants as ends
use Rattle.idx_serve.specs.declared.door.Summary.{Summary}
use Rattle.idx_workers.specs.Workers.{KeepsBehind, Tells, tells}
use Rattle.idx_board.specs.Standing.{first_bad_row}
use Rattle.idx_host.specs.Host.{Hosted, IsCause}
use Rattle.idx_host.specs.declared.host_fault.HostFault.{HostFault}
use Rattle.idx_host.specs.declared.host_fault.HostFault.TheVariants as faults
use Rattle.idx_words.specs.ServeValue.{ServeValue}
use Rattle.idx_commands.specs.declared.causes.Cause.{Cause}
use Rattle.idx_commands.specs.declared.causes.Cause.TheVariants as causes
use Rattle.idx_commands.specs.Cause.{status_of}
use Rattle.idx_commands.specs.InfoRun.{HasBadHeader}
use Rattle.idx_commands.specs.QueryRun.{IsBayOutage, IsReaderOutage, ReadsAs, known_of}
use Rattle.idx_commands.specs.Seen.{BaySeen, DoorsSeen, IsUnchanged, ReadersSeen, SinkSeen, bay_after, bay_before, doors_after, doors_before, reader_after, reader_before, reader_counts, readers_after, readers_before, sink_after, sink_before}
use Rattle.idx_commands.specs.SiteName.{site_name}
use Rattle.idx_commands.specs.Totals.{totals}

-- the cause of a run whose dataset is not served
abbrev pub cause_of_host : HostFault → Cause
cause_of_host (faults.Header line kind) = causes.Header line kind
cause_of_host (faults.BadTable file row kind) = causes.BadTable file row kind
cause_of_host faults.StoreFault = causes.StoreFault
cause_of_host faults.NoMemory = causes.NoMemory

-- so many workers serve: as many as the words say, and no more than there are doors and readers
abbrev pub workers_in : {R D L : Type 0} → ServeValue → ReadersSeen R → DoorsSeen D L → ℕ
workers_in v readers doors = min v.workers (min (length doors.old) (length readers.old))

-- what links, doors and readers tell
abbrev pub tells_of : {R D L : Type 0} → ReadersSeen R → DoorsSeen D L → Tells L D R
tells_of readers doors = tells doors.links doors.told doors.faults readers.faults readers.reads

-- The steps that stand were published, and the workers served out of them: each link that a door handed out came back; of what
-- came of it this holds.
abbrev pub HasServed : {B R D L : Type 0} → ServeValue → BaySeen B → ReadersSeen R → DoorsSeen D L → (Summary → Type 0) → Type 0
HasServed v bay readers doors P =
    (summary : Summary)
    × Hosted (tells_of readers doors) (site_name v.dataset) (bay.header bay.old) (bay.files bay.old) v.cache (workers_in v readers doors)
    doors.old doors.new readers.old readers.new summary
    × P summary

-- The run ended before a link was asked for: the doors are as they were, no reader but the first was touched, and nothing was
-- written.
pub record IsBefore {R K D L : Type 0} (readers : ReadersSeen R) (sink : SinkSeen K) (doors : DoorsSeen D L) : Type 0 where
  pub unopened : doors.new ≡ doors.old
  pub others : OthersUntouched readers.old readers.new 0
  pub reader_list : length readers.new ≡ length readers.old
  pub reader_count : NeverFalls (reader_before readers) (reader_after readers)
  pub reader_once : MeetsOnce (reader_before readers) (reader_after readers)
  pub silent : sink.new ≡ sink.old

-- the same, and the first reader counted no fault
pub record IsQuietBefore {R K D L : Type 0} (readers : ReadersSeen R) (sink : SinkSeen K) (doors : DoorsSeen D L) : Type 0 where
  pub before : IsBefore readers sink doors
  pub quiet : reader_after readers ≡ reader_before readers

-- a refusal has its cause
abbrev pub HasHostCause : {B R : Type 0} → BaySeen B → ReadersSeen R → HostFault → Type 0
HasHostCause bay readers fault = IsCause (known_of bay (reader_counts readers)) fault

-- What each cause says. No other cause comes.
abbrev pub ServeMeans : {B R K D L : Type 0} → ServeValue → BaySeen B → ReadersSeen R → SinkSeen K → DoorsSeen D L → Cause → Type 0
ServeMeans v bay readers sink doors causes.Done =
    HasServed v bay readers doors (λ s. (s.end ≡ ends.Done)
    × (sink.contents sink.new ≡ appended (sink.contents sink.old) (totals s.links s.replies)))
ServeMeans v bay readers sink doors causes.SinkFault =
    Rose (sink_before sink) (sink_after sink)
    × HasServed v bay readers doors (λ s. (s.end ≡ ends.Done)
    × AppendsPrefix (sink.contents sink.old) (sink.contents sink.new) (totals s.links s.replies))
ServeMeans v bay readers sink doors causes.DoorFault =
    HasServed v bay readers doors (λ s. (faults : ℕ) × (s.end ≡ ends.DoorFault faults)) × (sink.new ≡ sink.old)
ServeMeans v bay readers sink doors (causes.Header line kind) =
    HasHostCause bay readers (faults.Header line kind) × IsQuietBefore readers sink doors
ServeMeans v bay readers sink doors (causes.BadTable file row kind) =
    HasHostCause bay readers (faults.BadTable file row kind) × IsQuietBefore readers sink doors
ServeMeans v bay readers sink doors causes.StoreFault =
    HasHostCause bay readers faults.StoreFault × IsBefore readers sink doors
ServeMeans v bay readers sink doors causes.NoMemory =
    IsQuietBefore readers sink doors
    ⊎ (HasServed v bay readers doors (λ s. (s.end ≡ ends.Done) ⊎ (s.end ≡ ends.NoMemory)) × (sink.new ≡ sink.old))
ServeMeans v bay readers sink doors _ = ⊥

-- The header reads, and no row of the steps that stand is faulty.
abbrev pub HasSoundSteps : Option (List ℕ) → Option (List MemFile) → Type 0
HasSoundSteps header files = ReadsAs header (λ h. IsSomeAnd files (λ files. first_bad_row h files ≡ None))

-- The header reads, and this is the first faulty row of the steps that stand.
abbrev pub HasBadRow : Option (List ℕ) → Option (List MemFile) → ℕ → ℕ → TableKind → Type 0
HasBadRow header files file row kind =
    ReadsAs header (λ h. IsSomeAnd files (λ files. first_bad_row h files ≡ Some (loads.BadTable file row kind)))

-- How a run ends with this cause.
pub record ServeEnds {B R K D L : Type 0} (v : ServeValue) (bay : BaySeen B) (readers : ReadersSeen R) (sink : SinkSeen K) (doors : DoorsSeen D L) (cause : Cause) : Type 0 where
  -- what the cause says
  pub means : ServeMeans v bay readers sink doors cause
  -- each refusal comes where it is due, but for a fault of the store that comes before, and want of memory
  pub bad_header : HasBadHeader (bay.header bay.old) →
      (status_of cause ≡ 2) ⊎ ((status_of cause ≡ 5) ⊎ (status_of cause ≡ 11))
  pub bad_row : (file row : ℕ) (kind : TableKind) → HasBadRow (bay.header bay.old) (bay.files bay.old) file row kind →
      (cause ≡ causes.BadTable file row kind) ⊎ ((status_of cause ≡ 5) ⊎ (status_of cause ≡ 11))
  -- before a refusal of the header the bay is asked for the header alone
  pub bad_header_store : HasBadHeader (bay.header bay.old) → status_of cause ≡ 5 → bay.failed bay.new ≡ Some calls.Header
  -- where nothing is wrong and no fault was counted, all is served and the line is written, unless there is not enough memory
  pub complete : HasSoundSteps (bay.header bay.old) (bay.files bay.old) →
      ¬ Rose (bay_before bay) (bay_after bay) → ¬ Rose (reader_before readers) (reader_after readers) →
      ¬ Rose (sink_before sink) (sink_after sink) → ¬ SomeRose (doors_before doors) (doors_after doors) →
      (status_of cause ≡ 0) ⊎ (status_of cause ≡ 11)
  -- a fault that was counted is answered: one of a reader while the steps are loaded, and one of a door unless there was no memory
  -- for some head or for the workers
  pub store_answered : bay_before bay < bay_after bay → cause ≡ causes.StoreFault
  pub reader_answered : SomeHigher (readers_before readers) (readers_after readers) →
      (cause ≡ causes.StoreFault) ⊎ HasServed v bay readers doors (λ s. Unit {0})
  pub sink_answered : sink_before sink < sink_after sink → cause ≡ causes.SinkFault
  pub door_answered : SomeHigher (doors_before doors) (doors_after doors) → (cause ≡ causes.DoorFault) ⊎ (cause ≡ causes.NoMemory)
  -- a fault of the store is one of these, and at every other end no call of the bay counted one
  pub store_outage : status_of cause ≡ 5 → IsBayOutage bay ⊎ IsReaderOutage bay readers
  pub unfailed : status_of cause ≢ 5 → bay.failed bay.new ≡ bay.failed bay.old
  -- a fault of a door was counted
  pub door_rose : status_of cause ≡ 12 → SomeRose (doors_before doors) (doors_after doors)
  -- the bay was not changed, no reader and no door was touched but those of the workers, and no count fell; each fault was met once,
  -- and one of a reader once a reply, as `HasServed` says
  pub unchanged : IsUnchanged bay
  pub bay_count : NeverFalls (bay_before bay) (bay_after bay)
  pub bay_once : MeetsOnce (bay_before bay) (bay_after bay)
  pub idle_readers : KeepsBehind (workers_in v readers doors) readers.old readers.new
  pub reader_counts : NoneFalls (readers_before readers) (readers_after readers)
  pub sink_count : NeverFalls (sink_before sink) (sink_after sink)
  pub sink_once : MeetsOnce (sink_before sink) (sink_after sink)
  pub idle_doors : KeepsBehind (workers_in v readers doors) doors.old doors.new
  pub door_counts : NoneFalls (doors_before doors) (doors_after doors)
  pub doors_once : EachMeetsOnce (doors_before doors) (doors_after doors)
