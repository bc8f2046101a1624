-- How a run of `check` ends, by what is seen of the bay, of the readers and of the sink.
use Rattle.std.specs.Prelude.{◌≡◌, ◌≢◌, ◌⊎◌, ℕ, ◌<◌, List, Option, Some, None, IsSome, IsSomeAnd, length}
use Rattle.idx_outside.specs.Cause.{MeetsOnce, NeverFalls, Rose}
use Rattle.idx_outside.specs.Contents.{appended, AppendsPrefix}
use Rattle.idx_outside.specs.Objects.{OthersUntouched}
use Rattle.idx_outside.specs.declared.bay_call.BayCall.TheVariants as calls
use Rattle.idx_outside.specs.declared.mem_file.MemFile.{MemFile}
use Rattle.idx_header.specs.Header.{HasTime}
use Rattle.idx_layout.specs.OfHeader.{placing_of}
use Rattle.idx_edition.specs.Stored.{IsAbsent}
use Rattle.idx_check.specs.Checked.{Checked, IsCause, IsVerdict, Known, Under}
use Rattle.idx_check.specs.Pieces.{ReadsPieces, most_asked}
use Rattle.idx_check.specs.declared.refused_check.RefusedCheck.{RefusedCheck}
use Rattle.idx_check.specs.declared.refused_check.RefusedCheck.TheVariants as refusals
use Rattle.idx_check.specs.declared.verdict.Verdict.{Verdict}
use Rattle.idx_check.specs.declared.verdict.Verdict.TheVariants.{Same, Wrong}
use Rattle.idx_check.specs.declared.verdict.WrongKind.{WrongKind}
use Rattle.idx_commands.specs.declared.causes.Cause.{Cause}
use Rattle.idx_commands.specs.declared.causes.Cause.TheVariants as causes
use Rattle.idx_commands.specs.Cause.{status_of}
use Rattle.idx_commands.specs.InfoRun.{HasBadHeader}
use Rattle.idx_commands.specs.QueryRun.{IsBayOutage, IsReaderOutage, IsUnreadCause, ReadsAs}
use Rattle.idx_commands.specs.SameLine.{same_line}
use Rattle.idx_commands.specs.Seen.{BaySeen, FirstReads, IsUnchanged, ReaderCounts, ReadersSeen, SinkSeen, bay_after, bay_before, first_reads, reader_after, reader_before, reader_counts, sink_after, sink_before}

-- the cause of a run that ends with this refusal, where this step was asked for
abbrev pub cause_of_refused : ℕ → RefusedCheck → Cause
cause_of_refused step (refusals.Header line kind) = causes.Header line kind
cause_of_refused step refusals.NotPublished = causes.NotPublished step
cause_of_refused step refusals.StoreFault = causes.StoreFault
cause_of_refused step refusals.NoMemory = causes.NoMemory

-- what is known of the dataset, and what its bay and the reader counted
abbrev pub known_of : {B : Type 0} → BaySeen B → ReaderCounts → Known
known_of bay counts =
    record {
      header = bay.header bay.old;
      files = bay.files bay.old;
      counts = record {
        bay_before = bay_before bay;
        bay_after = bay_after bay;
        failed_before = bay.failed bay.old;
        failed_after = bay.failed bay.new;
        reader_before = counts.faults_before;
        reader_after = counts.faults_after;
      };
    }

-- the refusal has its cause
abbrev pub HasCause : {B : Type 0} → ℕ → BaySeen B → ReaderCounts → RefusedCheck → Type 0
HasCause step bay counts refusal = IsCause step (known_of bay counts) refusal

-- this is the verdict on the files of the step's newest revision, as far as they and the header are known
abbrev pub IsSaid : {B : Type 0} → ℕ → BaySeen B → Verdict → Type 0
IsSaid step bay verdict = Checked step (bay.header bay.old) (bay.files bay.old) verdict

-- The files of the step were read by pieces of at most 65,536 bytes, and each byte was asked for once at most: all of them together are no
-- more than the files have up to the one that is wrong.
abbrev pub LooksOnce : {B : Type 0} → BaySeen B → FirstReads → Verdict → Type 0
LooksOnce bay r verdict =
    Under (bay.header bay.old) (λ h.
    ReadsPieces r.reads_before r.reads_after r.asked_before r.asked_after 0 (most_asked (placing_of h) verdict))

-- The same, where the files are the writer's.
abbrev pub LooksOnceAtSame : {B : Type 0} → ℕ → BaySeen B → FirstReads → Type 0
LooksOnceAtSame step bay r = (files : ℕ) × (bytes : ℕ) × IsSaid step bay (Same files bytes) × LooksOnce bay r (Same files bytes)

-- The files are the writer's, and P holds of the line that says how many they are.
abbrev pub AreSame : {B : Type 0} → ℕ → BaySeen B → (List ℕ → Type 0) → Type 0
AreSame step bay P = (files : ℕ) × (bytes : ℕ) × IsSaid step bay (Same files bytes) × P (same_line files bytes)

-- What each cause says, by the counts of the reader that is used. No other cause comes.
abbrev pub CheckMeans : {B K : Type 0} → ℕ → BaySeen B → ReaderCounts → SinkSeen K → Cause → Type 0
CheckMeans step bay counts sink causes.Done =
    AreSame step bay (λ line. sink.contents sink.new ≡ appended (sink.contents sink.old) line)
CheckMeans step bay counts sink causes.SinkFault =
    Rose (sink_before sink) (sink_after sink)
    × AreSame step bay (λ line. AppendsPrefix (sink.contents sink.old) (sink.contents sink.new) line)
CheckMeans step bay counts sink (causes.NotSame file at why) = IsSaid step bay (Wrong file at why) × (sink.new ≡ sink.old)
CheckMeans step bay counts sink (causes.Header line kind) =
    HasCause step bay counts (refusals.Header line kind) × (sink.new ≡ sink.old)
CheckMeans step bay counts sink (causes.NotPublished time) =
    (time ≡ step) × HasCause step bay counts refusals.NotPublished × (sink.new ≡ sink.old)
CheckMeans step bay counts sink causes.StoreFault = HasCause step bay counts refusals.StoreFault × (sink.new ≡ sink.old)
CheckMeans step bay counts sink causes.NoMemory = sink.new ≡ sink.old
CheckMeans step bay counts sink _ = ⊥

-- The header is known to read, and has no time, or the step is known not to stand.
abbrev pub LacksStanding : ℕ → Option (List ℕ) → Option (List MemFile) → Type 0
LacksStanding step header files = ReadsAs header (λ h. (h.steps ≡ None) ⊎ IsSomeAnd files (IsAbsent h step))

-- The header is known to read, and has no time or lacks the step.
abbrev pub LacksTime : ℕ → Option (List ℕ) → Type 0
LacksTime step header = ReadsAs header (λ h. (h.steps ≡ None) ⊎ (¬ HasTime h step))

-- All is known, and this is the verdict on the step's newest revision.
abbrev pub HasVerdict : ℕ → Option (List ℕ) → Option (List MemFile) → Verdict → Type 0
HasVerdict step header files verdict =
    ReadsAs header (λ h. IsSome h.steps × IsSomeAnd files (λ files. IsVerdict h step files verdict))

-- How a run ends with this cause.
pub record CheckEnds {B R K : Type 0} (step : ℕ) (bay : BaySeen B) (readers : ReadersSeen R) (sink : SinkSeen K) (cause : Cause) : Type 0 where
  -- what the cause says
  pub means : CheckMeans step bay (reader_counts readers) sink cause
  -- each refusal, and the first file that is not the writer's, comes where it is due, but for a fault of the store that comes
  -- before, and want of memory
  pub bad_header : HasBadHeader (bay.header bay.old) →
      (status_of cause ≡ 2) ⊎ ((status_of cause ≡ 5) ⊎ (status_of cause ≡ 11))
  pub absent : LacksStanding step (bay.header bay.old) (bay.files bay.old) →
      (cause ≡ causes.NotPublished step) ⊎ ((status_of cause ≡ 5) ⊎ (status_of cause ≡ 11))
  pub not_same : (file at : ℕ) (why : WrongKind) → HasVerdict step (bay.header bay.old) (bay.files bay.old) (Wrong file at why) →
      (cause ≡ causes.NotSame file at why) ⊎ ((status_of cause ≡ 5) ⊎ (status_of cause ≡ 11))
  -- before a refusal of the header, or of a step that it lacks, the bay is asked for the header alone
  pub bad_header_store : HasBadHeader (bay.header bay.old) → status_of cause ≡ 5 → bay.failed bay.new ≡ Some calls.Header
  pub lacks_store : LacksTime step (bay.header bay.old) → status_of cause ≡ 5 → bay.failed bay.new ≡ Some calls.Header
  -- where the files are the writer's and no fault was counted, the line is written, unless there is not enough memory
  pub complete : (files bytes : ℕ) → HasVerdict step (bay.header bay.old) (bay.files bay.old) (Same files bytes) →
      ¬ Rose (bay_before bay) (bay_after bay) → ¬ Rose (reader_before readers) (reader_after readers) →
      ¬ Rose (sink_before sink) (sink_after sink) → (status_of cause ≡ 0) ⊎ (status_of cause ≡ 11)
  -- no read asks for more than 65,536 bytes, and no byte is asked for twice
  pub pieces_same : (status_of cause ≡ 0) ⊎ (status_of cause ≡ 9) → LooksOnceAtSame step bay (first_reads readers)
  pub pieces_wrong : (file at : ℕ) (why : WrongKind) → cause ≡ causes.NotSame file at why →
      LooksOnce bay (first_reads readers) (Wrong file at why)
  -- a fault that was counted is answered
  pub store_answered : bay_before bay < bay_after bay → cause ≡ causes.StoreFault
  pub reader_answered : reader_before readers < reader_after readers → cause ≡ causes.StoreFault
  pub sink_answered : sink_before sink < sink_after sink → cause ≡ causes.SinkFault
  -- a fault of the store is one of these, and at every other end no call of the bay counted one
  pub store_outage : status_of cause ≡ 5 → IsBayOutage bay ⊎ IsReaderOutage bay readers
  pub unfailed : status_of cause ≢ 5 → bay.failed bay.new ≡ bay.failed bay.old
  -- no file is read before the step is known to stand
  pub unread : IsUnreadCause cause → readers.new ≡ readers.old
  -- the bay was not changed, its header text and its committed files among it, no reader but the first was touched, and no
  -- count fell; each fault was met once
  pub unchanged : IsUnchanged bay
  pub bay_count : NeverFalls (bay_before bay) (bay_after bay)
  pub bay_once : MeetsOnce (bay_before bay) (bay_after bay)
  pub others : OthersUntouched readers.old readers.new 0
  pub reader_list : length readers.new ≡ length readers.old
  pub reader_count : NeverFalls (reader_before readers) (reader_after readers)
  pub reader_once : MeetsOnce (reader_before readers) (reader_after readers)
  pub sink_count : NeverFalls (sink_before sink) (sink_after sink)
  pub sink_once : MeetsOnce (sink_before sink) (sink_after sink)
