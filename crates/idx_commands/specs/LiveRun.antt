-- How a run of `serve` ends that gathers and publishes a step meanwhile, by what is seen of the raw volumes, of the bay, of the readers,
-- of the sink and of the doors.
use Rattle.std.specs.Prelude.{◌≡◌, ◌≢◌, ◌⊎◌, ℕ, ◌<◌, ◌≤◌, List, ◌++◌, Option, Some, None, IsSome, IsSomeAnd, drop, length, min}
use Rattle.idx_outside.specs.Cause.{MeetsOnce, NeverFalls, Rose}
use Rattle.idx_outside.specs.Counts.{EachMeetsOnce}
use Rattle.idx_outside.specs.Contents.{appended, AppendsPrefix}
use Rattle.idx_outside.specs.Objects.{SameContents}
use Rattle.idx_outside.specs.declared.mem_file.MemFile.{MemFile}
use Rattle.idx_seal.specs.Rows.{MeetsOnceOrRow}
use Rattle.idx_header.specs.Header.{HeaderValue, volume_bytes}
use Rattle.idx_header.specs.Revisions.{header_to_write}
use Rattle.idx_table.specs.declared.table_fault.TableKind.{TableKind}
use Rattle.idx_edition.specs.declared.load_fault.LoadFault.TheVariants as loads
use Rattle.idx_gather.specs.Gather.{HasFolder, NoneFalls, too_large}
use Rattle.idx_gather.specs.declared.gather_fault.GatherFault.TheVariants as gathers
use Rattle.idx_convert.specs.Counts.{SomeHigher, SomeRose}
use Rattle.idx_extract.specs.Extract.{Under}
use Rattle.idx_serve.specs.declared.door.ServeEnd.TheVariants as ends
use Rattle.idx_ingest.specs.declared.ingest_end.IngestEnd.{IngestEnd}
use Rattle.idx_ingest.specs.declared.ingest_end.IngestEnd.TheVariants as ingests
use Rattle.idx_workers.specs.Workers.{KeepsBehind}
use Rattle.idx_board.specs.Standing.{first_bad_row}
use Rattle.idx_live.specs.Live.{IsCause, IsLive, MayWrite}
use Rattle.idx_live.specs.declared.live_end.Live.{Live}
use Rattle.idx_live.specs.declared.live_fault.LiveFault.{LiveFault}
use Rattle.idx_live.specs.declared.live_fault.LiveFault.TheVariants as faults
use Rattle.idx_words.specs.ServeValue.{IngestValue, ServeValue}
use Rattle.idx_commands.specs.declared.causes.Cause.{Cause}
use Rattle.idx_commands.specs.declared.causes.Cause.TheVariants as causes
use Rattle.idx_commands.specs.Cause.{status_of}
use Rattle.idx_commands.specs.InfoRun.{HasBadHeader}
use Rattle.idx_commands.specs.Known.{known}
use Rattle.idx_commands.specs.QueryRun.{ReadsAs}
use Rattle.idx_commands.specs.Seen.{BaySeen, DoorsSeen, RawsSeen, ReadersSeen, SinkSeen, bay_after, bay_before, doors_after, doors_before, raw_bytes, raws_after, raws_asked_after, raws_asked_before, raws_before, reader_after, reader_before, readers_after, readers_before, sink_after, sink_before}
use Rattle.idx_commands.specs.ServeRun.{IsBefore, ServeEnds, tells_of, workers_in}
use Rattle.idx_commands.specs.SiteName.{site_name}
use Rattle.idx_commands.specs.Totals.{totals}

-- The cause of a run whose dataset is not served, where this step was to be published.
abbrev pub cause_of_live : ℕ → LiveFault → Cause
cause_of_live step (faults.Header line kind) = causes.Header line kind
cause_of_live step faults.NoStep = causes.NoStep step
cause_of_live step (faults.TooLarge bytes) = causes.TooLarge bytes
cause_of_live step faults.AlreadyPublished = causes.AlreadyPublished step
cause_of_live step (faults.RawWrongSize want found) = causes.RawWrongSize want found
cause_of_live step faults.RawFault = causes.RawFault
cause_of_live step (faults.BadTable file row kind) = causes.BadTable file row kind
cause_of_live step faults.StoreFault = causes.StoreFault
cause_of_live step faults.NoMemory = causes.NoMemory

-- The first of these raw volumes, at most 256, were used, and the rest are as they were.
pub record Uses {V : Type 0} (raws : RawsSeen V) (first after rest : List V) : Type 0 where
  pub was : raws.old ≡ first ++ rest
  pub is : raws.new ≡ after ++ rest
  pub number : length after ≡ length first
  pub many : length first ≡ min 256 (length raws.old)

-- what is seen of these raw volumes, in the place of all
abbrev pub seen_of : {V : Type 0} → RawsSeen V → List V → List V → RawsSeen V
seen_of raws old new = record { contents = raws.contents; faults = raws.faults; asked = raws.asked; old = old; new = new }

-- the step was published
abbrev pub IsPublished : IngestEnd → Type 0
IsPublished end = (post : ℕ) × (end ≡ ingests.Published post)

-- no worker of the server met want of memory
abbrev pub IsFed : Live → Type 0
IsFed live = live.summary.end ≢ ends.NoMemory

-- What each cause says of how serving and gathering ended, and of what was written. Want of memory of either goes before why the step
-- was refused, and that before how the doors ended. No other cause comes.
abbrev pub Concludes : {K : Type 0} → SinkSeen K → Live → Cause → Type 0
Concludes sink l causes.Done =
    IsPublished l.ingested × (l.summary.end ≡ ends.Done)
    × (sink.contents sink.new ≡ appended (sink.contents sink.old) (totals l.summary.links l.summary.replies))
Concludes sink l causes.SinkFault =
    IsPublished l.ingested × (l.summary.end ≡ ends.Done) × Rose (sink_before sink) (sink_after sink)
    × AppendsPrefix (sink.contents sink.old) (sink.contents sink.new) (totals l.summary.links l.summary.replies)
Concludes sink l causes.DoorFault =
    IsPublished l.ingested × ((count : ℕ) × (l.summary.end ≡ ends.DoorFault count)) × (sink.new ≡ sink.old)
Concludes sink l (causes.RawWrongSize want found) =
    (l.ingested ≡ ingests.Refused (gathers.RawWrongSize want found)) × IsFed l × (sink.new ≡ sink.old)
Concludes sink l causes.RawFault =
    ((rank : ℕ) × ((count : ℕ) × (l.ingested ≡ ingests.Refused (gathers.RawFault rank count)))) × IsFed l × (sink.new ≡ sink.old)
Concludes sink l causes.StoreFault =
    ((count : ℕ) × (l.ingested ≡ ingests.Refused (gathers.StoreFault count))) × IsFed l × (sink.new ≡ sink.old)
Concludes sink l causes.NoMemory =
    ((l.ingested ≡ ingests.NoMemory) ⊎ ((l.summary.end ≡ ends.NoMemory) ⊎ (IsPublished l.ingested × (l.summary.end ≡ ends.Done))))
    × (sink.new ≡ sink.old)
Concludes sink l _ = ⊥

module _ {V B R K D L : Type 0} (v : ServeValue) (i : IngestValue) (raws : RawsSeen V) (bay : BaySeen B) (readers : ReadersSeen R) (sink : SinkSeen K) (doors : DoorsSeen D L) where
  -- The steps that stand were published and served, and the step was gathered and published beside, or not; of what came of it this
  -- holds.
  abbrev pub HasLive : (Live → Type 0) → Type 0
  HasLive P =
      (live : Live) × Under (bay.header bay.old) (λ h. IsLive (tells_of readers doors) h (site_name v.dataset) i.step (known raws bay)
      v.cache (workers_in v readers doors) raws.old raws.new doors.old doors.new readers.old readers.new live)
      × P live

  -- The run ended before a link was asked for, for this: no step was begun, no byte was asked of a raw volume, none behind the first was
  -- touched, and nothing was written.
  pub record Stops (fault : LiveFault) : Type 0 where
    pub cause : IsCause i.step (known raws bay) (reader_before readers) (reader_after readers) fault
    pub before : IsBefore readers sink doors
    pub files : bay.files bay.new ≡ bay.files bay.old
    pub begun : bay.begun bay.new ≡ bay.begun bay.old
    pub unasked : raws_asked_after raws ≡ raws_asked_before raws
    pub behind : (n : ℕ) → 1 ≤ n → drop n raws.new ≡ drop n raws.old
    -- only the object that the cause names counted a fault, and only a fault of the store comes after a call that changes the bay
    pub reader_quiet : fault ≢ faults.StoreFault → reader_after readers ≡ reader_before readers
    pub raws_quiet : fault ≢ faults.RawFault → raws_after raws ≡ raws_before raws
    pub bay_quiet : fault ≢ faults.StoreFault → bay_after bay ≡ bay_before bay
    pub unchanged : fault ≢ faults.StoreFault → bay.changes bay.new ≡ bay.changes bay.old

  -- What each cause says: the run ended before a link was asked for, or serving and gathering came to it.
  abbrev pub LiveMeans : Cause → Type 0
  LiveMeans cause =
      ((fault : LiveFault) × ((cause ≡ cause_of_live i.step fault) × Stops fault)) ⊎ HasLive (λ l. Concludes sink l cause)

-- The header text is known and reads, and has the step, which is not too large to write, and of which this holds with the committed
-- files.
abbrev pub MayWriteAnd : Option (List ℕ) → Option (List MemFile) → ℕ → (HeaderValue → List MemFile → Type 0) → Type 0
MayWriteAnd header files step P = ReadsAs header (λ h. MayWrite h step × IsSomeAnd files (P h))

-- a revision of the step is left to write, and of the raw volume's bytes this holds
abbrev pub IsLeftFor : Option (List ℕ) → ℕ → (HeaderValue → List ℕ → Type 0) → HeaderValue → List MemFile → Type 0
IsLeftFor raw step P h files = IsSome (header_to_write h step files) × IsSomeAnd raw (P h)

-- The answer is this cause, or a fault of the store or of a raw volume that came before, or want of memory.
abbrev pub IsThisOrMet : Cause → Cause → Type 0
IsThisOrMet this cause = (cause ≡ this) ⊎ ((status_of cause ≡ 4) ⊎ ((status_of cause ≡ 5) ⊎ (status_of cause ≡ 11)))

-- How a run ends with this cause.
pub record LiveEnds {V B R K D L : Type 0} (v : ServeValue) (i : IngestValue) (raws : RawsSeen V) (bay : BaySeen B) (readers : ReadersSeen R) (sink : SinkSeen K) (doors : DoorsSeen D L) (cause : Cause) : Type 0 where
  -- what the cause says, by the raw volumes that were used
  pub first : List V
  pub after : List V
  pub rest : List V
  pub uses : Uses raws first after rest
  pub means : LiveMeans v i (seen_of raws first after) bay readers sink doors cause
  -- each refusal comes where it is due, but for a fault that comes before, and want of memory
  pub bad_header : HasBadHeader (bay.header bay.old) → (status_of cause ≡ 2) ⊎ ((status_of cause ≡ 5) ⊎ (status_of cause ≡ 11))
  pub no_step : ReadsAs (bay.header bay.old) (λ h. ¬ HasFolder h i.step) → IsThisOrMet (causes.NoStep i.step) cause
  pub too_large : (bytes : ℕ) → ReadsAs (bay.header bay.old) (λ h. HasFolder h i.step × (too_large h ≡ Some bytes)) →
      IsThisOrMet (causes.TooLarge bytes) cause
  pub published : MayWriteAnd (bay.header bay.old) (bay.files bay.old) i.step (λ h files. header_to_write h i.step files ≡ None) →
      IsThisOrMet (causes.AlreadyPublished i.step) cause
  pub other_length : (want found : ℕ) →
      MayWriteAnd (bay.header bay.old) (bay.files bay.old) i.step (IsLeftFor (raw_bytes raws) i.step
      (λ h bytes. (want ≡ volume_bytes h) × (found ≡ length bytes) × (found ≢ want))) →
      IsThisOrMet (causes.RawWrongSize want found) cause
  pub bad_row : (file row : ℕ) (kind : TableKind) →
      MayWriteAnd (bay.header bay.old) (bay.files bay.old) i.step (λ h files. IsLeftFor (raw_bytes raws) i.step
      (λ h bytes. length bytes ≡ volume_bytes h) h files × (first_bad_row h files ≡ Some (loads.BadTable file row kind))) →
      IsThisOrMet (causes.BadTable file row kind) cause
  -- where nothing is wrong and no fault was counted, the step is published, all is served and the line is written, unless there is not
  -- enough memory
  pub complete : MayWriteAnd (bay.header bay.old) (bay.files bay.old) i.step (λ h files. IsLeftFor (raw_bytes raws) i.step
      (λ h bytes. length bytes ≡ volume_bytes h) h files × (first_bad_row h files ≡ None)) →
      ¬ Rose (bay_before bay) (bay_after bay) → ¬ Rose (reader_before readers) (reader_after readers) →
      ¬ SomeRose (raws_before raws) (raws_after raws) → ¬ Rose (sink_before sink) (sink_after sink) →
      ¬ SomeRose (doors_before doors) (doors_after doors) → (status_of cause ≡ 0) ⊎ (status_of cause ≡ 11)
  -- a fault that was counted is answered, but that want of memory of those who serve goes before one of gathering
  pub raw_answered : SomeHigher (raws_before raws) (raws_after raws) → (cause ≡ causes.RawFault) ⊎ (cause ≡ causes.NoMemory)
  pub store_answered : bay_before bay < bay_after bay → (cause ≡ causes.StoreFault) ⊎ (cause ≡ causes.NoMemory)
  pub reader_answered : SomeHigher (readers_before readers) (readers_after readers) →
      (cause ≡ causes.StoreFault) ⊎ HasLive v i (seen_of raws first after) bay readers sink doors (λ l. Unit {0})
  pub sink_answered : sink_before sink < sink_after sink → cause ≡ causes.SinkFault
  pub door_answered : SomeHigher (doors_before doors) (doors_after doors) →
      ((cause ≢ causes.Done) × (cause ≢ causes.SinkFault)) × HasLive v i (seen_of raws first after) bay readers sink doors (λ l. Unit {0})
  -- a fault comes only where it was counted
  pub raw_rose : status_of cause ≡ 4 → SomeRose (raws_before raws) (raws_after raws)
  pub store_rose : status_of cause ≡ 5 → Rose (bay_before bay) (bay_after bay) ⊎ Rose (reader_before readers) (reader_after readers)
  pub sink_rose : status_of cause ≡ 9 → Rose (sink_before sink) (sink_after sink)
  pub door_rose : status_of cause ≡ 12 → SomeRose (doors_before doors) (doors_after doors)
  -- what is known of the raw volumes' bytes stays, and so does the header text; what is not used is as it was, and no count fell; each
  -- fault was met once, but for those of one row of files, and one of a reader once a reply
  pub raws_kept : SameContents raws.contents raws.old raws.new
  pub raws_idle : drop (min 256 (length raws.old)) raws.new ≡ drop (min 256 (length raws.old)) raws.old
  pub raw_counts : NoneFalls (raws_before raws) (raws_after raws)
  pub raws_once : EachMeetsOnce (raws_before raws) (raws_after raws)
  pub header : bay.header bay.new ≡ bay.header bay.old
  pub bay_count : NeverFalls (bay_before bay) (bay_after bay)
  pub bay_once : MeetsOnceOrRow (bay.failed bay.new) 256 (bay_before bay) (bay_after bay)
  pub idle_readers : KeepsBehind (workers_in v readers doors) readers.old readers.new
  pub reader_counts : NoneFalls (readers_before readers) (readers_after readers)
  pub sink_count : NeverFalls (sink_before sink) (sink_after sink)
  pub sink_once : MeetsOnce (sink_before sink) (sink_after sink)
  pub idle_doors : KeepsBehind (workers_in v readers doors) doors.old doors.new
  pub door_counts : NoneFalls (doors_before doors) (doors_after doors)
  pub doors_once : EachMeetsOnce (doors_before doors) (doors_after doors)

-- How a run of `serve` ends, with a step that is published meanwhile or without: without one the raw volumes are as they were.
abbrev pub EndsServing : {V B R K D L : Type 0} → Option IngestValue → ServeValue → RawsSeen V → BaySeen B → ReadersSeen R → SinkSeen K → DoorsSeen D L → Cause → Type 0
EndsServing None v raws bay readers sink doors cause = ServeEnds v bay readers sink doors cause × (raws.new ≡ raws.old)
EndsServing (Some i) v raws bay readers sink doors cause = LiveEnds v i raws bay readers sink doors cause
