-- What a run promises, by its words and by what is seen of the raw volumes, the bay, the readers, the sink and the doors.
use Rattle.std.specs.Prelude.{◌≡◌, ◌≢◌, ◌⊎◌, ℕ, ◌<◌, List, [], ◌∷◌, drop, length, min, Option, IfSome, IsSome}
use Rattle.idx_outside.specs.Cause.{MeetsOnce, NeverFalls, Rose}
use Rattle.idx_outside.specs.Counts.{EachMeetsOnce}
use Rattle.idx_outside.specs.Contents.{appended, AppendsPrefix}
use Rattle.idx_outside.specs.Objects.{OthersUntouched, SameContents}
use Rattle.idx_outside.specs.declared.mem_file.MemFile.{MemFile}
use Rattle.idx_seal.specs.Rows.{MeetsOnceOrRow}
use Rattle.idx_words.specs.declared.command.Command.{Command}
use Rattle.idx_words.specs.declared.command.Command.TheVariants.{Cut, Info, Convert, Query, Check, Serve, Drill}
use Rattle.idx_words.specs.Words.{Give, GiveCheck, GiveConvert, GiveCut, GiveDrill, GiveInfo, GiveQuery, GiveServe}
use Rattle.idx_words.specs.ConvertValue.{ConvertValue}
use Rattle.idx_words.specs.ServeValue.{ServeValue}
use Rattle.idx_gather.specs.Gather.{NoneFalls}
use Rattle.idx_convert.specs.Counts.{SomeHigher, SomeRose}
use Rattle.idx_workers.specs.Workers.{KeepsBehind}
use Rattle.idx_extract.specs.Extract.{Asks}
use Rattle.idx_check.specs.Checked.{Checked}
use Rattle.idx_check.specs.declared.verdict.Verdict.TheVariants.{Same}
use Rattle.idx_commands.specs.declared.causes.Cause.{Cause}
use Rattle.idx_commands.specs.Cause.{status_of}
use Rattle.idx_commands.specs.CutOutput.{cut_output}
use Rattle.idx_commands.specs.Summary.{summary}
use Rattle.idx_commands.specs.InfoRun.{InfoEnds, KnownReads}
use Rattle.idx_commands.specs.CutRun.{CutEnds}
use Rattle.idx_commands.specs.ConvertRun.{ConvertEnds}
use Rattle.idx_commands.specs.QueryRun.{AnswersStored, QueryEnds, question_of}
use Rattle.idx_commands.specs.CheckRun.{CheckEnds}
use Rattle.idx_commands.specs.SameLine.{same_line}
use Rattle.idx_commands.specs.ServeRun.{workers_in}
use Rattle.idx_commands.specs.LiveRun.{EndsServing}
use Rattle.idx_commands.specs.DrillRun.{DrillEnds, drill_summary}
use Rattle.idx_commands.specs.Totals.{totals}
use Rattle.idx_commands.specs.Seen.{BaySeen, DoorsSeen, IsUnchanged, RawsSeen, ReadersSeen, SinkSeen, bay_after, bay_before, doors_after, doors_before, raws_after, raws_before, reader_after, reader_before, readers_after, readers_before, sink_after, sink_before}

-- the first word is this name of a command
abbrev pub AreNamed : List (List ℕ) → List ℕ → Type 0
AreNamed [] name = ⊥
AreNamed (first ∷ words) name = first ≡ name

-- What a command writes is what P holds of, where what it reads is known: a raw volume's bytes, or the header text of a bay,
-- which then reads, and its committed files. Of a command that writes nothing, this holds in its place. A server writes a line with two
-- numbers, which its own record has, and so does a check of files that are the writer's. A drill reads nothing, and writes what its number
-- says.
abbrev pub Writes : Command → Option (List ℕ) → Option (List ℕ) → Option (List MemFile) → (List ℕ → Type 0) → Type 0 → Type 0
Writes (Cut c) raw header files P Nothing = IfSome raw (λ bytes. P (cut_output c bytes))
Writes Info raw header files P Nothing = KnownReads header (λ h. P (summary h))
Writes (Convert c) raw header files P Nothing = Nothing
Writes (Query q) raw header files P Nothing =
    KnownReads header (λ h. Asks (question_of q) h (λ ask. IfSome files (AnswersStored h ask q.time P)))
Writes (Check step) raw header files P Nothing =
    (count : ℕ) × (bytes : ℕ) × Checked step header files (Same count bytes) × P (same_line count bytes)
Writes (Serve v) raw header files P Nothing = (links : ℕ) × (replies : ℕ) × P (totals links replies)
Writes (Drill n) raw header files P Nothing = P (drill_summary n)

-- The words are in the grammar. Where what the command reads is known, and what was written to the sink, all of the answer
-- was written and nothing else.
abbrev pub WroteAnswer : List (List ℕ) → Option (List ℕ) → Option (List ℕ) → Option (List MemFile) → Option (List ℕ) → Option (List ℕ) → Type 0
WroteAnswer words raw header files old new =
    (command : Command) × (Give words command × Writes command raw header files (λ answer. new ≡ appended old answer) (new ≡ old))

-- likewise, some first bytes of the answer, and nothing else
abbrev pub WrotePrefix : List (List ℕ) → Option (List ℕ) → Option (List ℕ) → Option (List MemFile) → Option (List ℕ) → Option (List ℕ) → Type 0
WrotePrefix words raw header files old new =
    (command : Command) × (Give words command × Writes command raw header files (λ answer. AppendsPrefix old new answer) ⊥)

-- what is seen of all objects of a run
pub record RunSeen (V B R K D L : Type 0) : Type 0 where
  pub raws : RawsSeen V
  pub bay : BaySeen B
  pub readers : ReadersSeen R
  pub sink : SinkSeen K
  pub doors : DoorsSeen D L

abbrev pub run_seen : {V B R K D L : Type 0} → RawsSeen V → BaySeen B → ReadersSeen R → SinkSeen K → DoorsSeen D L → RunSeen V B R K D L
run_seen raws bay readers sink doors = record { raws = raws; bay = bay; readers = readers; sink = sink; doors = doors }

-- How a run of a command ends with this cause: as its record says, and the objects that it does not use are as they were.
abbrev pub CommandEnds : {V B R K D L : Type 0} → RunSeen V B R K D L → Command → Cause → Type 0
CommandEnds seen (Cut c) cause =
    CutEnds c seen.raws seen.sink cause × (seen.bay.new ≡ seen.bay.old) × (seen.readers.new ≡ seen.readers.old)
    × (seen.doors.new ≡ seen.doors.old)
CommandEnds seen Info cause =
    InfoEnds seen.bay seen.sink cause × (seen.raws.new ≡ seen.raws.old) × (seen.readers.new ≡ seen.readers.old)
    × (seen.doors.new ≡ seen.doors.old)
CommandEnds seen (Convert c) cause =
    ConvertEnds c seen.raws seen.bay cause × (seen.readers.new ≡ seen.readers.old) × (seen.sink.new ≡ seen.sink.old)
    × (seen.doors.new ≡ seen.doors.old)
CommandEnds seen (Query q) cause =
    QueryEnds q seen.bay seen.readers seen.sink cause × (seen.raws.new ≡ seen.raws.old) × (seen.doors.new ≡ seen.doors.old)
CommandEnds seen (Check step) cause =
    CheckEnds step seen.bay seen.readers seen.sink cause × (seen.raws.new ≡ seen.raws.old) × (seen.doors.new ≡ seen.doors.old)
CommandEnds seen (Serve v) cause = EndsServing v.ingest v seen.raws seen.bay seen.readers seen.sink seen.doors cause
CommandEnds seen (Drill n) cause =
    DrillEnds n seen.sink cause × (seen.raws.new ≡ seen.raws.old) × (seen.bay.new ≡ seen.bay.old)
    × (seen.readers.new ≡ seen.readers.old) × (seen.doors.new ≡ seen.doors.old)

-- The words are those of `serve` and ask for a step to be published meanwhile.
abbrev pub GiveIngest : List (List ℕ) → Type 0
GiveIngest words = (v : ServeValue) × (Give words (Serve v) × IsSome v.ingest)

-- The words are those of a command that reads files of a dataset.
abbrev pub GiveReading : List (List ℕ) → Type 0
GiveReading words = GiveQuery words ⊎ (GiveCheck words ⊎ GiveServe words)

-- A fault of an object comes only where it was counted in this call, by a command that uses the object; and one that was counted
-- is answered.
pub record CountsFaults {V B R K D L : Type 0} (words : List (List ℕ)) (seen : RunSeen V B R K D L) (cause : Cause) : Type 0 where
  pub raw_fault : status_of cause ≡ 4 → SomeRose (raws_before seen.raws) (raws_after seen.raws)
  pub raw_used : status_of cause ≡ 4 → GiveCut words ⊎ (GiveConvert words ⊎ GiveIngest words)
  pub store_fault : status_of cause ≡ 5 → Rose (bay_before seen.bay) (bay_after seen.bay)
      ⊎ (GiveReading words × Rose (reader_before seen.readers) (reader_after seen.readers))
  pub store_used : status_of cause ≡ 5 → GiveInfo words ⊎ (GiveConvert words ⊎ GiveReading words)
  pub sink_fault : status_of cause ≡ 9 → Rose (sink_before seen.sink) (sink_after seen.sink)
  pub door_fault : status_of cause ≡ 12 → SomeRose (doors_before seen.doors) (doors_after seen.doors)
  pub door_used : status_of cause ≡ 12 → GiveServe words
  -- where a step is published meanwhile, want of memory for a head goes before why it was refused
  pub raw_answered : SomeHigher (raws_before seen.raws) (raws_after seen.raws) →
      (status_of cause ≡ 4) ⊎ (GiveIngest words × (status_of cause ≡ 11))
  pub store_answered : bay_before seen.bay < bay_after seen.bay → (status_of cause ≡ 5) ⊎ (GiveIngest words × (status_of cause ≡ 11))
  -- a reader's fault while `serve` answers links is told to the peer, as the record of `serve` says
  pub reader_answered : ¬ GiveServe words → reader_before seen.readers < reader_after seen.readers → status_of cause ≡ 5
  pub sink_answered : sink_before seen.sink < sink_after seen.sink → status_of cause ≡ 9
  -- and why it was refused goes before how the doors ended
  pub door_answered : SomeHigher (doors_before seen.doors) (doors_after seen.doors) →
      ((status_of cause ≡ 12) ⊎ (status_of cause ≡ 11)) ⊎ (GiveIngest words × (status_of cause ≢ 0) × (status_of cause ≢ 9))

-- A fault is met once: each object counted one at most in this run, so that no call that failed was made again. Where a row of files is
-- written side by side, one for each rank, the bay counts one for each that was given up, in one row; and a reader of `serve` counts one
-- at most for each reply, as the record of `serve` says.
pub record MeetsFaultsOnce {V B R K D L : Type 0} (words : List (List ℕ)) (seen : RunSeen V B R K D L) : Type 0 where
  pub raws : EachMeetsOnce (raws_before seen.raws) (raws_after seen.raws)
  pub bay : ¬ GiveConvert words → ¬ GiveIngest words → MeetsOnce (bay_before seen.bay) (bay_after seen.bay)
  pub bay_rows : (c : ConvertValue) → Give words (Convert c) →
      MeetsOnceOrRow (seen.bay.failed seen.bay.new) c.ranks (bay_before seen.bay) (bay_after seen.bay)
  pub bay_beside : GiveIngest words → MeetsOnceOrRow (seen.bay.failed seen.bay.new) 256 (bay_before seen.bay) (bay_after seen.bay)
  pub reader : ¬ GiveServe words → MeetsOnce (reader_before seen.readers) (reader_after seen.readers)
  pub sink : MeetsOnce (sink_before seen.sink) (sink_after seen.sink)
  pub doors : EachMeetsOnce (doors_before seen.doors) (doors_after seen.doors)

-- What a run leaves as it was.
pub record LeavesRest {V B R K D L : Type 0} (words : List (List ℕ)) (seen : RunSeen V B R K D L) : Type 0 where
  -- what is known of the raw volumes' bytes stays; none but the first was touched, but for `convert` and for a `serve` that publishes a
  -- step, and by these none behind the first, one for each rank, or the first 256; no reader but the first was touched, but for `serve`, and by that no reader and no door behind the
  -- first, one for each worker; and no count fell
  pub raws : SameContents seen.raws.contents seen.raws.old seen.raws.new
  pub raw_counts : NoneFalls (raws_before seen.raws) (raws_after seen.raws)
  pub other_raws : ¬ GiveConvert words → ¬ GiveIngest words → OthersUntouched seen.raws.old seen.raws.new 0
  pub far_raws : GiveIngest words → drop (min 256 (length seen.raws.old)) seen.raws.new ≡ drop (min 256 (length seen.raws.old)) seen.raws.old
  pub idle_raws : (c : ConvertValue) → Give words (Convert c) →
      drop (min c.ranks (length seen.raws.old)) seen.raws.new ≡ drop (min c.ranks (length seen.raws.old)) seen.raws.old
  pub other_readers : ¬ GiveServe words → OthersUntouched seen.readers.old seen.readers.new 0
  pub idle_readers : (v : ServeValue) → Give words (Serve v) →
      KeepsBehind (workers_in v seen.readers seen.doors) seen.readers.old seen.readers.new
  pub reader_list : length seen.readers.new ≡ length seen.readers.old
  pub reader_counts : NoneFalls (readers_before seen.readers) (readers_after seen.readers)
  pub bay_count : NeverFalls (bay_before seen.bay) (bay_after seen.bay)
  pub sink_count : NeverFalls (sink_before seen.sink) (sink_after seen.sink)
  pub idle_doors : (v : ServeValue) → Give words (Serve v) →
      KeepsBehind (workers_in v seen.readers seen.doors) seen.doors.old seen.doors.new
  pub door_list : length seen.doors.new ≡ length seen.doors.old
  pub door_counts : NoneFalls (doors_before seen.doors) (doors_after seen.doors)
  -- `convert` and a `serve` that publishes a step alone change the bay: its committed files and the folder last begun, and make calls that
  -- change it at all; and `convert` alone its header text, and it writes nothing to the sink
  pub unchanged : ¬ GiveConvert words → ¬ GiveIngest words → IsUnchanged seen.bay
  pub header : ¬ GiveConvert words → seen.bay.header seen.bay.new ≡ seen.bay.header seen.bay.old
  pub convert_silent : GiveConvert words → seen.sink.new ≡ seen.sink.old
  -- `cut` leaves the bay as it was, `info`, `query`, `check` and a `serve` that publishes no step the raw volumes, none but `query`, `check` and
  -- `serve` reads a leaf, and none but `serve` uses a door; `drill` leaves the bay and the raw volumes as they were
  pub cut_alone : GiveCut words → seen.bay.new ≡ seen.bay.old
  pub info_alone : GiveInfo words → seen.raws.new ≡ seen.raws.old
  pub query_alone : GiveQuery words → seen.raws.new ≡ seen.raws.old
  pub check_alone : GiveCheck words → seen.raws.new ≡ seen.raws.old
  pub serve_alone : GiveServe words → ¬ GiveIngest words → seen.raws.new ≡ seen.raws.old
  pub drill_alone : GiveDrill words → seen.bay.new ≡ seen.bay.old
  pub drill_reads : GiveDrill words → seen.raws.new ≡ seen.raws.old
  pub reads : ¬ GiveReading words → seen.readers.new ≡ seen.readers.old
  pub serve_opens : ¬ GiveServe words → seen.doors.new ≡ seen.doors.old

-- Nothing is asked of any object.
pub record Unasked {V B R K D L : Type 0} (seen : RunSeen V B R K D L) : Type 0 where
  pub raws : seen.raws.new ≡ seen.raws.old
  pub bay : seen.bay.new ≡ seen.bay.old
  pub readers : seen.readers.new ≡ seen.readers.old
  pub sink : seen.sink.new ≡ seen.sink.old
  pub doors : seen.doors.new ≡ seen.doors.old
