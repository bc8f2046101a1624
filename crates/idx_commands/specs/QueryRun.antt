-- How a run of `query` ends, by what is seen of the bay, of the readers and of the sink.
use Rattle.std.specs.Prelude.{◌≡◌, ◌≢◌, ◌⊎◌, ℕ, ◌<◌, List, Option, Some, None, IsSomeAnd, Ok, length}
use Rattle.idx_outside.specs.Cause.{MeetsOnce, NeverFalls, Rose}
use Rattle.idx_outside.specs.Contents.{appended, AppendsPrefix}
use Rattle.idx_outside.specs.Objects.{OthersUntouched}
use Rattle.idx_outside.specs.declared.bay_call.BayCall.TheVariants as calls
use Rattle.idx_outside.specs.declared.mem_file.MemFile.{MemFile}
use Rattle.idx_header.specs.Header.{HeaderValue}
use Rattle.idx_header.specs.HeaderOf.{header_of}
use Rattle.idx_plan.specs.Answer.{answer_of}
use Rattle.idx_plan.specs.QuestionValue.{QuestionValue}
use Rattle.idx_plan.specs.declared.ask.Ask.{Ask}
use Rattle.idx_plan.specs.declared.plan_fault.PlanFault.{PlanFault}
use Rattle.idx_plan.specs.declared.plan_fault.PlanFault.TheVariants as plans
use Rattle.idx_edition.specs.Loaded.{AsksStep}
use Rattle.idx_edition.specs.Newest.{HasBadTable}
use Rattle.idx_edition.specs.Stored.{IsAbsent, StandsAs, first_bad, stored_block}
use Rattle.idx_edition.specs.declared.load_fault.LoadFault.TheVariants as load_faults
use Rattle.idx_words.specs.QueryValue.{QueryValue}
use Rattle.idx_extract.specs.declared.extract_fault.ExtractFault.{ExtractFault}
use Rattle.idx_extract.specs.declared.extract_fault.ExtractFault.TheVariants as faults
use Rattle.idx_extract.specs.Extract.{Extracted, HasPlan, IsCause, IsStop, Known, ReadsFew}
use Rattle.idx_commands.specs.declared.causes.Cause.{Cause}
use Rattle.idx_commands.specs.declared.causes.Cause.TheVariants as causes
use Rattle.idx_commands.specs.Cause.{status_of}
use Rattle.idx_commands.specs.InfoRun.{HasBadHeader}
use Rattle.idx_commands.specs.Seen.{BaySeen, IsUnchanged, ReaderCounts, ReadersSeen, SinkSeen, bay_after, bay_before, reader_after, reader_before, reader_counts, sink_after, sink_before}

-- the question that the words ask
abbrev pub question_of : QueryValue → QuestionValue
question_of q = record { time = q.time; field = q.field; region = q.region; lo = q.lo; hi = q.hi }

-- the cause of a run whose question has no plan
abbrev pub cause_of_plan : PlanFault → Cause
cause_of_plan (plans.OutsideVolume axis) = causes.OutsideVolume axis
cause_of_plan (plans.BadLevels lo hi max) = causes.BadLevels lo hi max
cause_of_plan (plans.TooLarge bytes) = causes.TooLarge bytes
cause_of_plan plans.NoMemory = causes.NoMemory

-- the cause of a run that ends with this fault, where this step was asked for
abbrev pub cause_of_extract : ℕ → ExtractFault → Cause
cause_of_extract step (faults.Header line kind) = causes.Header line kind
cause_of_extract step faults.OtherAxes = causes.OtherAxes
cause_of_extract step faults.UnknownField = causes.UnknownField
cause_of_extract step (faults.Plan fault) = cause_of_plan fault
cause_of_extract step faults.NotPublished = causes.NotPublished step
cause_of_extract step (faults.BadTable file row kind) = causes.BadTable file row kind
cause_of_extract step faults.StoreFault = causes.StoreFault
cause_of_extract step faults.NoMemory = causes.NoMemory

-- The question has an answer, of whose bytes this holds; it took as many reads as it does by its definition.
abbrev pub HasAnswer : {B : Type 0} → QueryValue → BaySeen B → ReaderCounts → (List ℕ → Type 0) → Type 0
HasAnswer q bay counts P =
    (bytes : List ℕ)
    × (Extracted (question_of q) (bay.header bay.old) (bay.files bay.old) counts.reads_before counts.reads_after bytes × P bytes)

-- The step stands, and the answer out of the blocks that its newest revision stores is what P holds of.
abbrev pub AnswersStored : HeaderValue → Ask → ℕ → (List ℕ → Type 0) → List MemFile → Type 0
AnswersStored h ask step P files =
    (revised : HeaderValue) × (StandsAs h step files revised × P (answer_of h ask (stored_block revised step files)))

-- what is known of the dataset, and what its bay and the reader counted
abbrev pub known_of : {B : Type 0} → BaySeen B → ReaderCounts → Known
known_of bay counts =
    record {
      header = bay.header bay.old;
      files = bay.files bay.old;
      counts = record {
        bay_before = bay_before bay;
        bay_after = bay_after bay;
        failed_before = bay.failed bay.old;
        failed_after = bay.failed bay.new;
        reader_before = counts.faults_before;
        reader_after = counts.faults_after;
      };
      reads_before = counts.reads_before;
      reads_after = counts.reads_after;
    }

-- the fault has its cause
abbrev pub HasCause : {B : Type 0} → QueryValue → BaySeen B → ReaderCounts → ExtractFault → Type 0
HasCause q bay counts fault = IsCause (question_of q) (known_of bay counts) fault

-- What each cause says, by the counts of the reader that is used. No other cause comes.
abbrev pub QueryMeans : {B K : Type 0} → QueryValue → BaySeen B → ReaderCounts → SinkSeen K → Cause → Type 0
QueryMeans q bay counts sink causes.Done =
    HasAnswer q bay counts (λ bytes. sink.contents sink.new ≡ appended (sink.contents sink.old) bytes)
QueryMeans q bay counts sink causes.SinkFault =
    Rose (sink_before sink) (sink_after sink)
    × HasAnswer q bay counts (λ bytes. AppendsPrefix (sink.contents sink.old) (sink.contents sink.new) bytes)
QueryMeans q bay counts sink (causes.Header line kind) =
    HasCause q bay counts (faults.Header line kind) × (sink.new ≡ sink.old)
QueryMeans q bay counts sink causes.OtherAxes = HasCause q bay counts faults.OtherAxes × (sink.new ≡ sink.old)
QueryMeans q bay counts sink causes.UnknownField = HasCause q bay counts faults.UnknownField × (sink.new ≡ sink.old)
QueryMeans q bay counts sink (causes.OutsideVolume axis) =
    HasCause q bay counts (faults.Plan (plans.OutsideVolume axis)) × (sink.new ≡ sink.old)
QueryMeans q bay counts sink (causes.BadLevels lo hi max) =
    HasCause q bay counts (faults.Plan (plans.BadLevels lo hi max)) × (sink.new ≡ sink.old)
QueryMeans q bay counts sink (causes.TooLarge bytes) =
    HasCause q bay counts (faults.Plan (plans.TooLarge bytes)) × (sink.new ≡ sink.old)
QueryMeans q bay counts sink (causes.NotPublished time) =
    (time ≡ q.time) × HasCause q bay counts faults.NotPublished × (sink.new ≡ sink.old)
QueryMeans q bay counts sink (causes.BadTable file row kind) =
    HasCause q bay counts (faults.BadTable file row kind) × (sink.new ≡ sink.old)
QueryMeans q bay counts sink causes.StoreFault = HasCause q bay counts faults.StoreFault × (sink.new ≡ sink.old)
QueryMeans q bay counts sink causes.NoMemory = sink.new ≡ sink.old
QueryMeans q bay counts sink _ = ⊥

-- The run ended for the header, for the question, or since the step does not stand: before the first read.
abbrev pub IsUnreadCause : Cause → Type 0
IsUnreadCause (causes.Header line kind) = Unit {0}
IsUnreadCause causes.OtherAxes = Unit {0}
IsUnreadCause causes.UnknownField = Unit {0}
IsUnreadCause (causes.OutsideVolume axis) = Unit {0}
IsUnreadCause (causes.BadLevels lo hi max) = Unit {0}
IsUnreadCause (causes.TooLarge bytes) = Unit {0}
IsUnreadCause (causes.NotPublished time) = Unit {0}
IsUnreadCause cause = ⊥

-- The header text is known and reads, and this holds of its header.
abbrev pub ReadsAs : Option (List ℕ) → (HeaderValue → Type 0) → Type 0
ReadsAs known P = IsSomeAnd known (λ text. (h : HeaderValue) × ((header_of text ≡ Ok h) × P h))

-- the step stands, and no row of the files of its newest revision is faulty
abbrev pub IsSound : HeaderValue → ℕ → List MemFile → Type 0
IsSound h step files =
    (revised : HeaderValue) × (StandsAs h step files revised × (first_bad revised step files ≡ None))

-- Each refusal of a question is due, by what is known of the header text and of the committed files.
abbrev pub IsDue : QueryValue → Option (List ℕ) → Option (List MemFile) → ExtractFault → Type 0
IsDue q header files faults.NotPublished =
    ReadsAs header (λ h. HasPlan (question_of q) h × IsSomeAnd files (IsAbsent h q.time))
IsDue q header files (faults.BadTable file row kind) =
    ReadsAs header (λ h. HasPlan (question_of q) h × IsSomeAnd files (λ files.
    HasBadTable h q.time files (load_faults.BadTable file row kind)))
IsDue q header files fault = ReadsAs header (λ h. IsStop h (question_of q) files fault)

-- None is due: the header reads, the question has a plan, the step stands, and no row of the files of its newest revision is faulty.
abbrev pub HasSoundStep : QueryValue → Option (List ℕ) → Option (List MemFile) → Type 0
HasSoundStep q header files =
    ReadsAs header (λ h. HasPlan (question_of q) h × IsSomeAnd files (IsSound h q.time))

-- The refusal is one of the question, by the header alone.
abbrev pub IsOfQuestion : ExtractFault → Type 0
IsOfQuestion faults.OtherAxes = Unit {0}
IsOfQuestion faults.UnknownField = Unit {0}
IsOfQuestion (faults.Plan fault) = Unit {0}
IsOfQuestion fault = ⊥

-- The bay counted a fault when it was asked for the header, or for the step or a file of it.
pub record IsBayOutage {B : Type 0} (bay : BaySeen B) : Type 0 where
  pub rose : Rose (bay_before bay) (bay_after bay)
  pub call : (bay.failed bay.new ≡ Some calls.Header) ⊎ AsksStep (bay.failed bay.new)

-- The first reader counted a fault, and the bay none.
pub record IsReaderOutage {B R : Type 0} (bay : BaySeen B) (readers : ReadersSeen R) : Type 0 where
  pub rose : Rose (reader_before readers) (reader_after readers)
  pub count : bay_after bay ≡ bay_before bay
  pub call : bay.failed bay.new ≡ bay.failed bay.old

-- How a run ends with this cause.
pub record QueryEnds {B R K : Type 0} (q : QueryValue) (bay : BaySeen B) (readers : ReadersSeen R) (sink : SinkSeen K) (cause : Cause) : Type 0 where
  -- what the cause says
  pub means : QueryMeans q bay (reader_counts readers) sink cause
  -- each refusal comes where it is due, but for a fault of the store that comes before, and want of memory
  pub bad_header : HasBadHeader (bay.header bay.old) →
      (status_of cause ≡ 2) ⊎ ((status_of cause ≡ 5) ⊎ (status_of cause ≡ 11))
  pub due : (fault : ExtractFault) → IsDue q (bay.header bay.old) (bay.files bay.old) fault →
      (cause ≡ cause_of_extract q.time fault) ⊎ ((status_of cause ≡ 5) ⊎ (status_of cause ≡ 11))
  -- before a refusal of the header or of the question the bay is asked for the header alone
  pub bad_header_store : HasBadHeader (bay.header bay.old) → status_of cause ≡ 5 → bay.failed bay.new ≡ Some calls.Header
  pub due_store : (fault : ExtractFault) → IsDue q (bay.header bay.old) (bay.files bay.old) fault → IsOfQuestion fault →
      status_of cause ≡ 5 → bay.failed bay.new ≡ Some calls.Header
  -- where nothing is wrong and no fault was counted, all is written, unless there is not enough memory
  pub complete : HasSoundStep q (bay.header bay.old) (bay.files bay.old) →
      ¬ Rose (bay_before bay) (bay_after bay) → ¬ Rose (reader_before readers) (reader_after readers) →
      ¬ Rose (sink_before sink) (sink_after sink) → (status_of cause ≡ 0) ⊎ (status_of cause ≡ 11)
  -- a fault that was counted is answered
  pub store_answered : bay_before bay < bay_after bay → cause ≡ causes.StoreFault
  pub reader_answered : reader_before readers < reader_after readers → cause ≡ causes.StoreFault
  pub sink_answered : sink_before sink < sink_after sink → cause ≡ causes.SinkFault
  -- a fault of the store is one of these, and at every other end no call of the bay counted one
  pub store_outage : status_of cause ≡ 5 → IsBayOutage bay ⊎ IsReaderOutage bay readers
  pub unfailed : status_of cause ≢ 5 → bay.failed bay.new ≡ bay.failed bay.old
  -- no leaf is read before the question is accepted and the step known to stand
  pub unread : IsUnreadCause cause → readers.new ≡ readers.old
  -- a refusal comes after few reads
  pub few_reads : status_of cause ≢ 0 → status_of cause ≢ 9 → ReadsFew (question_of q) (known_of bay (reader_counts readers))
  -- the bay was not changed, its header text and its committed files among it, no reader but the first was touched, and no
  -- count fell; each fault was met once
  pub unchanged : IsUnchanged bay
  pub bay_count : NeverFalls (bay_before bay) (bay_after bay)
  pub bay_once : MeetsOnce (bay_before bay) (bay_after bay)
  pub others : OthersUntouched readers.old readers.new 0
  pub reader_list : length readers.new ≡ length readers.old
  pub reader_count : NeverFalls (reader_before readers) (reader_after readers)
  pub reader_once : MeetsOnce (reader_before readers) (reader_after readers)
  pub sink_count : NeverFalls (sink_before sink) (sink_after sink)
  pub sink_once : MeetsOnce (sink_before sink) (sink_after sink)
