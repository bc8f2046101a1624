-- What a run comes to, by the command that its words give and by how that command ended.
use Rattle.std.proofs.Common.{◌≡◌, ◌≢◌, ◌⊎◌, ℕ, zero, suc, ◌<◌, ◌≤◌, List, [], ◌∷◌, Option, None, Some, IsSome, Result, Ok, inl, inr, refl, sym, ◌∙◌, ap, subst, length, map, slice_index, bytes_eq, codes, arith}
use Rattle.std.proofs.lemmas.Bool.{false≢true}
use Rattle.std.proofs.lemmas.List.{length-map}
use Rattle.idx_outside.specs.Cause.{MeetsOnce, Rose}
use Rattle.idx_outside.specs.Contents.{appended, AppendsPrefix}
use Rattle.idx_outside.specs.Objects.{OthersUntouched, SameContents, UsesOnly, faults_at}
use Rattle.idx_gather.specs.Gather.{NoneFalls}
use Rattle.idx_convert.specs.Counts.{SomeHigher, SomeRose}
use Rattle.idx_convert.proofs.StageLemmas.{none_higher}
use Rattle.idx_workers.specs.Workers.{KeepsBehind}
use Rattle.idx_words.specs.declared.cut_words.CutWords.{CutWords}
use Rattle.idx_words.specs.ConvertValue.{ConvertValue}
use Rattle.idx_words.specs.QueryValue.{QueryValue}
use Rattle.idx_words.specs.ServeValue.{IngestValue, ServeValue}
use Rattle.idx_words.specs.declared.command.Command.{Command}
use Rattle.idx_words.specs.declared.command.Command.TheVariants.{Cut, Info, Convert, Query, Check, Serve, Drill}
use Rattle.idx_words.specs.Words.{Give, GiveCheck, GiveConvert, GiveCut, GiveDrill, GiveInfo, GiveQuery, GiveServe, IsCheck, IsConvert, IsCut, IsDrill, IsInfo, IsQuery, IsServe}
use Rattle.idx_commands.specs.declared.causes.Cause.{Cause}
use Rattle.idx_commands.specs.declared.causes.Cause.TheVariants as causes
use Rattle.idx_commands.specs.Cause.{status_of}
use Rattle.idx_commands.specs.CutRun.{CutEnds, CutMeans}
use Rattle.idx_commands.specs.InfoRun.{InfoEnds, InfoMeans}
use Rattle.idx_commands.specs.ConvertRun.{ConvertEnds, ConvertMeans}
use Rattle.idx_commands.specs.QueryRun.{IsBayOutage, IsReaderOutage, QueryEnds, QueryMeans}
use Rattle.idx_commands.specs.CheckRun.{CheckEnds, CheckMeans}
use Rattle.idx_commands.specs.ServeRun.{ServeMeans, workers_in}
use Rattle.idx_commands.specs.LiveRun.{EndsServing, LiveMeans, seen_of}
use Rattle.idx_commands.specs.DrillRun.{DrillEnds, DrillMeans}
use Rattle.idx_commands.specs.Totals.{totals}
use Rattle.idx_commands.specs.Known.{Known, known}
use Rattle.idx_commands.specs.Seen.{BaySeen, IsUnchanged, raw_after, raw_before, raw_bytes, reader_counts}
use Rattle.idx_commands.specs.Run.{AreNamed, CommandEnds, CountsFaults, GiveIngest, GiveReading, LeavesRest, MeetsFaultsOnce, RunSeen, Writes, WroteAnswer, WrotePrefix}
use Rattle.idx_commands.proofs.CauseLemmas.{done_is, door_fault_is, raw_fault_is, sink_fault_is, store_fault_is, usage_is}
use Rattle.idx_commands.proofs.CutLemmas.{cut_silent}
use Rattle.idx_commands.proofs.InfoLemmas.{info_silent}
use Rattle.idx_commands.proofs.ConvertLemmas.{raw_cause, store_cause}
use Rattle.idx_commands.proofs.DrillLemmas.{drill_silent}
use Rattle.idx_commands.proofs.QueryLemmas.{query_silent, query_writes}
use Rattle.idx_commands.proofs.CheckLemmas.{check_silent}
use Rattle.idx_commands.proofs.ServeLemmas.{serve_silent, totals_begun, totals_written}
use Rattle.idx_commands.proofs.LiveLemmas.{live_begun, live_not_usage, live_silent, live_written}
use Rattle.idx_commands.proofs.HostedLemmas.{first_counts_fall, others_same}
use Rattle.idx_commands.proofs.OnceLemmas.{first_once, none_met, not_met}

-- ---- the command that words give

-- there is one result
pub same_ok : {T E : Type 0} (result : Result T E) (a b : T) → result ≡ Ok a → result ≡ Ok b → b ≡ a
same_ok result a b first second = let same = sym second ∙ first in cc

-- the name of a command
abbrev pub name_of : Command → List ℕ
name_of (Cut c) = codes "cut"
name_of Info = codes "info"
name_of (Convert c) = codes "convert"
name_of (Query q) = codes "query"
name_of (Check step) = codes "check"
name_of (Serve v) = codes "serve"
name_of (Drill n) = codes "drill"

-- the step that a command publishes meanwhile
abbrev ingest_in : Command → Option IngestValue
ingest_in (Serve v) = v.ingest
ingest_in command = None

-- the values of one command `serve`
abbrev values_in : ServeValue → Command → ServeValue
values_in other (Serve v) = v
values_in other command = other

same_serve : (a b : ServeValue) → Serve a ≡ Serve b → a ≡ b
same_serve a b same = ap (values_in a) same

-- two names of as many letters differ
pub query_not_serve : codes "query" ≡ codes "serve" → ⊥
query_not_serve same = false≢true (ap (λ name. bytes_eq name (codes "serve")) same)

pub query_not_check : codes "query" ≡ codes "check" → ⊥
query_not_check same = false≢true (ap (λ name. bytes_eq name (codes "check")) same)

pub query_not_drill : codes "query" ≡ codes "drill" → ⊥
query_not_drill same = false≢true (ap (λ name. bytes_eq name (codes "drill")) same)

pub check_not_serve : codes "check" ≡ codes "serve" → ⊥
check_not_serve same = false≢true (ap (λ name. bytes_eq name (codes "serve")) same)

pub check_not_drill : codes "check" ≡ codes "drill" → ⊥
check_not_drill same = false≢true (ap (λ name. bytes_eq name (codes "drill")) same)

pub serve_not_drill : codes "serve" ≡ codes "drill" → ⊥
serve_not_drill same = false≢true (ap (λ name. bytes_eq name (codes "drill")) same)

-- words that give a command begin with its name
pub given_named : (words : List (List ℕ)) (command : Command) (name : List ℕ) → AreNamed words name → Give words command → name ≡ name_of command
given_named [] command name named given = absurd named
given_named (first ∷ words) (Cut c) name named given = sym named ∙ given.0
given_named (first ∷ words) Info name named given = sym named ∙ given.0
given_named (first ∷ words) (Convert c) name named given = sym named ∙ given.0
given_named (first ∷ words) (Query q) name named given = sym named ∙ given.0
given_named (first ∷ words) (Check step) name named given = sym named ∙ given.0
given_named (first ∷ words) (Serve v) name named given = sym named ∙ given.0
given_named (first ∷ words) (Drill n) name named given = sym named ∙ given.0

-- words that begin with the name of a command give no other
pub misnamed : (words : List (List ℕ)) (command other : Command) (name : List ℕ) → AreNamed words name → Give words command → command ≡ other →
    name ≢ name_of other → ⊥
misnamed words command other name named given is differ = differ (given_named words command name named given ∙ ap name_of is)

-- ---- what was not touched

not_more : {T : Type 0} (count : T → ℕ) (old new : T) → new ≡ old → count old < count new → ⊥
not_more count old new same more = let equal : count new ≡ count old = ap count same in omega (arith, equal, more)

not_less : {T : Type 0} (count : T → ℕ) (old new : T) → new ≡ old → count old ≤ count new
not_less count old new same = let equal : count new ≡ count old = ap count same in omega (arith, equal)

none_fell : {T : Type 0} (count : T → ℕ) (old new : List T) → new ≡ old → NoneFalls (map count old) (map count new)
none_fell count old new same = subst (λ xs. NoneFalls (map count old) (map count xs)) (sym same) (refl, λ i within. omega arith)

-- ---- where only the first of some objects is used

-- the counts of the others are as they were
other_counts : {T : Type 0} (count : T → ℕ) (old new : List T) (i : ℕ) → length new ≡ length old → OthersUntouched old new 0 →
    slice_index (map count new) (suc i) ≡ slice_index (map count old) (suc i)
other_counts count [] [] i number others = refl
other_counts count [] (y ∷ new) i number others = absurd (omega (arith, number))
other_counts count (x ∷ old) [] i number others = absurd (omega (arith, number))
other_counts count (x ∷ old) (y ∷ new) i number others = ap (λ xs. slice_index (map count xs) i) others.behind

as_many : {T : Type 0} (contents : T → Option (List ℕ)) (old new : List T) → SameContents contents old new → length new ≡ length old
as_many contents old new same = sym (length-map new contents) ∙ ap length same ∙ length-map old contents

-- its count is the one that rose
first_rose : {T : Type 0} (contents : T → Option (List ℕ)) (count : T → ℕ) (old new : List T) → SameContents contents old new →
    Rose (faults_at count old 0) (faults_at count new 0) → SomeRose (map count old) (map count new)
first_rose contents count (x ∷ old) new same rose = (0, (omega arith, rose))
first_rose contents count [] (y ∷ new) same rose = absurd (omega (arith, as_many contents [] (y ∷ new) same))
first_rose contents count [] [] same (inl more) = absurd (omega (arith, more))
first_rose contents count [] [] same (inr (first, last)) = absurd (omega (arith, first))

-- or the one that is higher
first_higher : {T : Type 0} (contents : T → Option (List ℕ)) (count : T → ℕ) (old new : List T) → UsesOnly contents count 0 old new →
    SomeHigher (map count old) (map count new) → faults_at count old 0 < faults_at count new 0
first_higher contents count old new kept (zero, (within, more)) = more
first_higher contents count old new kept (suc i, (within, more)) =
    let same : slice_index (map count new) (suc i) ≡ slice_index (map count old) (suc i) = other_counts count old new i (as_many contents old new kept.same) kept.others in
    absurd (omega (arith, same, more))

-- none fell
first_falls : {T : Type 0} (contents : T → Option (List ℕ)) (count : T → ℕ) (old new : List T) → UsesOnly contents count 0 old new →
    NoneFalls (map count old) (map count new)
first_falls contents count old new kept = (length-map new count ∙ as_many contents old new kept.same ∙ sym (length-map old count), each)
  where
    each : (i : ℕ) → i < length (map count old) → slice_index (map count old) i ≤ slice_index (map count new) i
    each zero within = kept.count
    each (suc i) within = omega (arith, other_counts count old new i (as_many contents old new kept.same) kept.others)

not_changed : {B : Type 0} (bay : BaySeen B) → bay.new ≡ bay.old → IsUnchanged bay
not_changed bay same =
    record { header = ap bay.header same; files = ap bay.files same; begun = ap bay.begun same; changes = ap bay.changes same }

module _ {V B R K D L : Type 0} (words : List (List ℕ)) (seen : RunSeen V B R K D L) where
  abbrev E : Command → Cause → Type 0
  E command cause = CommandEnds seen command cause

  abbrev Serving : Option IngestValue → ServeValue → Cause → Type 0
  Serving ingest v cause = EndsServing ingest v seen.raws seen.bay seen.readers seen.sink seen.doors cause

  abbrev Only : Command → Type 0
  Only command = (other : Command) → Give words other → other ≡ command

  -- ---- the record of a command

  ended : (command : Command) → Only command → (cause : Cause) → E command cause → (other : Command) → Give words other → E other cause
  ended command only cause e other given = subst (λ x. E x cause) (sym (only other given)) e

  pub of_cut : (command : Command) → Only command → (cause : Cause) → E command cause → (c : CutWords) → Give words (Cut c) →
      CutEnds c seen.raws seen.sink cause
  of_cut command only cause e c given = let all : E (Cut c) cause = ended command only cause e (Cut c) given in all.0

  pub of_info : (command : Command) → Only command → (cause : Cause) → E command cause → GiveInfo words →
      InfoEnds seen.bay seen.sink cause
  of_info command only cause e given = let all : E Info cause = ended command only cause e Info given in all.0

  pub of_convert : (command : Command) → Only command → (cause : Cause) → E command cause → (c : ConvertValue) → Give words (Convert c) →
      ConvertEnds c seen.raws seen.bay cause
  of_convert command only cause e c given = let all : E (Convert c) cause = ended command only cause e (Convert c) given in all.0

  pub of_query : (command : Command) → Only command → (cause : Cause) → E command cause → (q : QueryValue) → Give words (Query q) →
      QueryEnds q seen.bay seen.readers seen.sink cause
  of_query command only cause e q given = let all : E (Query q) cause = ended command only cause e (Query q) given in all.0

  pub of_check : (command : Command) → Only command → (cause : Cause) → E command cause → (step : ℕ) → Give words (Check step) →
      CheckEnds step seen.bay seen.readers seen.sink cause
  of_check command only cause e step given = let all : E (Check step) cause = ended command only cause e (Check step) given in all.0

  pub of_serve : (command : Command) → Only command → (cause : Cause) → E command cause → (v : ServeValue) → Give words (Serve v) →
      Serving v.ingest v cause
  of_serve command only cause e v given = ended command only cause e (Serve v) given

  pub of_drill : (command : Command) → Only command → (cause : Cause) → E command cause → (n : ℕ) → Give words (Drill n) →
      DrillEnds n seen.sink cause
  of_drill command only cause e n given = let all : E (Drill n) cause = ended command only cause e (Drill n) given in all.0

  -- ---- what is written

  abbrev Serves : ServeValue → Cause → Type 0
  Serves v cause = ServeMeans v seen.bay seen.readers seen.sink seen.doors cause

  serving_no_usage : (ingest : Option IngestValue) (v : ServeValue) (cause : Cause) → Serving ingest v cause → status_of cause ≡ 1 → ⊥
  serving_no_usage None v cause e one = subst (Serves v) (usage_is cause one).1 e.0.means
  serving_no_usage (Some i) v cause e one =
      let usage = usage_is cause one in
      live_not_usage v i (seen_of seen.raws e.first e.after) seen.bay seen.readers seen.sink seen.doors usage.0
      (subst (LiveMeans v i (seen_of seen.raws e.first e.after) seen.bay seen.readers seen.sink seen.doors) usage.1 e.means)

  abbrev WroteTotals : Type 0
  WroteTotals = (links : ℕ) × (replies : ℕ) × (seen.sink.contents seen.sink.new ≡ appended (seen.sink.contents seen.sink.old) (totals links replies))

  serving_written : (ingest : Option IngestValue) (v : ServeValue) → Serving ingest v causes.Done → WroteTotals
  serving_written None v e = totals_written v seen.bay seen.readers seen.sink seen.doors e.0.means
  serving_written (Some i) v e = live_written v i (seen_of seen.raws e.first e.after) seen.bay seen.readers seen.sink seen.doors e.means

  abbrev BeganTotals : Type 0
  BeganTotals = (links : ℕ) × (replies : ℕ) × AppendsPrefix (seen.sink.contents seen.sink.old) (seen.sink.contents seen.sink.new) (totals links replies)

  serving_begun : (ingest : Option IngestValue) (v : ServeValue) → Serving ingest v causes.SinkFault → BeganTotals
  serving_begun None v e = totals_begun v seen.bay seen.readers seen.sink seen.doors e.0.means
  serving_begun (Some i) v e = live_begun v i (seen_of seen.raws e.first e.after) seen.bay seen.readers seen.sink seen.doors e.means

  serving_silent : (ingest : Option IngestValue) (v : ServeValue) (cause : Cause) → Serving ingest v cause → status_of cause ≢ 0 → status_of cause ≢ 9 →
      seen.sink.new ≡ seen.sink.old
  serving_silent None v cause e = serve_silent v seen.bay seen.readers seen.sink seen.doors cause e.0.means
  serving_silent (Some i) v cause e = live_silent v i (seen_of seen.raws e.first e.after) seen.bay seen.readers seen.sink seen.doors cause e.means

  pub no_usage : (command : Command) (cause : Cause) → E command cause → status_of cause ≡ 1 → ⊥
  no_usage (Cut c) cause e one = subst (CutMeans c (raw_bytes seen.raws) (raw_before seen.raws) (raw_after seen.raws) seen.sink) (usage_is cause one).1 e.0.means
  no_usage Info cause e one = let m = subst (InfoMeans seen.bay seen.sink) (usage_is cause one).1 e.0.means in m.0
  no_usage (Convert c) cause e one = subst (ConvertMeans c (known seen.raws seen.bay)) (usage_is cause one).1 e.0.means
  no_usage (Query q) cause e one = subst (QueryMeans q seen.bay (reader_counts seen.readers) seen.sink) (usage_is cause one).1 e.0.means
  no_usage (Check step) cause e one = subst (CheckMeans step seen.bay (reader_counts seen.readers) seen.sink) (usage_is cause one).1 e.0.means
  no_usage (Serve v) cause e one = serving_no_usage v.ingest v cause e one
  no_usage (Drill n) cause e one = subst (DrillMeans n seen.sink) (usage_is cause one).1 e.0.means

  writes : (command : Command) → E command causes.Done →
      Writes command (raw_bytes seen.raws) (seen.bay.header seen.bay.old) (seen.bay.files seen.bay.old)
      (λ answer. seen.sink.contents seen.sink.new ≡ appended (seen.sink.contents seen.sink.old) answer)
      (seen.sink.contents seen.sink.new ≡ seen.sink.contents seen.sink.old)
  writes (Cut c) e = e.0.means.1
  writes Info e = e.0.means
  writes (Convert c) e = ap seen.sink.contents e.2
  writes (Check step) e = e.0.means
  writes (Serve v) e = serving_written v.ingest v e
  writes (Drill n) e = e.0.means
  writes (Query q) e =
      let m = e.0.means in
      query_writes (λ answer. seen.sink.contents seen.sink.new ≡ appended (seen.sink.contents seen.sink.old) answer) q
      (seen.bay.header seen.bay.old) (seen.bay.files seen.bay.old) _ _ m.0 m.1.0 m.1.1

  writes_prefix : (command : Command) → E command causes.SinkFault →
      Writes command (raw_bytes seen.raws) (seen.bay.header seen.bay.old) (seen.bay.files seen.bay.old)
      (λ answer. AppendsPrefix (seen.sink.contents seen.sink.old) (seen.sink.contents seen.sink.new) answer) ⊥
  writes_prefix (Cut c) e = e.0.means.2
  writes_prefix Info e = e.0.means.1
  writes_prefix (Convert c) e = e.0.means
  writes_prefix (Check step) e = e.0.means.1
  writes_prefix (Serve v) e = serving_begun v.ingest v e
  writes_prefix (Drill n) e = e.0.means.1
  writes_prefix (Query q) e =
      let m = e.0.means in
      query_writes (λ answer. AppendsPrefix (seen.sink.contents seen.sink.old) (seen.sink.contents seen.sink.new) answer) q
      (seen.bay.header seen.bay.old) (seen.bay.files seen.bay.old) _ _ m.1.0 m.1.1.0 m.1.1.1

  pub written : (command : Command) → Give words command → (cause : Cause) → E command cause → status_of cause ≡ 0 →
      WroteAnswer words (raw_bytes seen.raws) (seen.bay.header seen.bay.old) (seen.bay.files seen.bay.old)
      (seen.sink.contents seen.sink.old) (seen.sink.contents seen.sink.new)
  written command gives cause e none = (command, (gives, writes command (subst (E command) (done_is cause none) e)))

  pub cut_off : (command : Command) → Give words command → (cause : Cause) → E command cause → status_of cause ≡ 9 →
      WrotePrefix words (raw_bytes seen.raws) (seen.bay.header seen.bay.old) (seen.bay.files seen.bay.old)
      (seen.sink.contents seen.sink.old) (seen.sink.contents seen.sink.new)
  cut_off command gives cause e nine = (command, (gives, writes_prefix command (subst (E command) (sink_fault_is cause nine) e)))

  pub silent : (command : Command) (cause : Cause) → E command cause → status_of cause ≢ 0 → status_of cause ≢ 9 →
      seen.sink.new ≡ seen.sink.old
  silent (Cut c) cause e = cut_silent c seen.raws seen.sink cause e.0.means
  silent Info cause e = info_silent seen.bay seen.sink cause e.0.means
  silent (Convert c) cause e = λ none nine. e.2
  silent (Query q) cause e = query_silent q seen.bay seen.readers seen.sink cause e.0.means
  silent (Check step) cause e = check_silent step seen.bay seen.readers seen.sink cause e.0.means
  silent (Serve v) cause e = serving_silent v.ingest v cause e
  silent (Drill n) cause e = drill_silent n seen.sink cause e.0.means

  -- ---- the faults

  abbrev reader_count : List R → ℕ
  reader_count readers = faults_at seen.readers.faults readers 0

  not_higher : seen.raws.new ≡ seen.raws.old → SomeHigher (map seen.raws.faults seen.raws.old) (map seen.raws.faults seen.raws.new) → ⊥
  not_higher same = none_higher (map seen.raws.faults seen.raws.old) (map seen.raws.faults seen.raws.new) (ap (map seen.raws.faults) same)

  not_opened : seen.doors.new ≡ seen.doors.old → SomeHigher (map seen.doors.faults seen.doors.old) (map seen.doors.faults seen.doors.new) → ⊥
  not_opened same = none_higher (map seen.doors.faults seen.doors.old) (map seen.doors.faults seen.doors.new) (ap (map seen.doors.faults) same)

  serving_counts : (ingest : Option IngestValue) (v : ServeValue) → v.ingest ≡ ingest → Give words (Serve v) → (cause : Cause) → Serving ingest v cause → CountsFaults words seen cause
  serving_counts None v asked gives cause e =
      let m : (other : Cause) → cause ≡ other → Serves v other = λ other is. subst (Serves v) is e.0.means in
      record {
        raw_fault = λ four. absurd (m causes.RawFault (raw_fault_is cause four));
        raw_used = λ four. absurd (m causes.RawFault (raw_fault_is cause four));
        store_fault = λ five. outage (e.0.store_outage five);
        store_used = λ five. inr (inr (inr (inr (v, gives))));
        sink_fault = λ nine. (m causes.SinkFault (sink_fault_is cause nine)).0;
        door_fault = e.0.door_rose;
        door_used = λ twelve. (v, gives);
        raw_answered = λ more. absurd (not_higher e.1 more);
        store_answered = λ more. inl (ap status_of (e.0.store_answered more));
        reader_answered = λ other more. absurd (other (v, gives));
        sink_answered = λ more. ap status_of (e.0.sink_answered more);
        door_answered = λ more. inl (answered (e.0.door_answered more));
      }
    where
      outage : IsBayOutage seen.bay ⊎ IsReaderOutage seen.bay seen.readers →
          Rose (seen.bay.faults seen.bay.old) (seen.bay.faults seen.bay.new)
          ⊎ (GiveReading words × Rose (reader_count seen.readers.old) (reader_count seen.readers.new))
      outage (inl bay) = inl bay.rose
      outage (inr reader) = inr (inr (inr (v, gives)), reader.rose)

      answered : (cause ≡ causes.DoorFault) ⊎ (cause ≡ causes.NoMemory) → (status_of cause ≡ 12) ⊎ (status_of cause ≡ 11)
      answered (inl door) = inl (ap status_of door)
      answered (inr memory) = inr (ap status_of memory)
  serving_counts (Some i) v asked gives cause e = record {
    raw_fault = e.raw_rose;
    raw_used = λ four. inr (inr ingests);
    store_fault = λ five. outage (e.store_rose five);
    store_used = λ five. inr (inr (inr (inr (v, gives))));
    sink_fault = e.sink_rose;
    door_fault = e.door_rose;
    door_used = λ twelve. (v, gives);
    raw_answered = λ more. told causes.RawFault (e.raw_answered more);
    store_answered = λ more. told causes.StoreFault (e.store_answered more);
    reader_answered = λ other more. absurd (other (v, gives));
    sink_answered = λ more. ap status_of (e.sink_answered more);
    door_answered = λ more.
        let said = (e.door_answered more).0 in
        inr (ingests, (λ zero. said.0 (done_is cause zero)), (λ nine. said.1 (sink_fault_is cause nine)));
  }
    where
      ingests : GiveIngest words
      ingests = (v, (gives, subst IsSome (sym asked) refl))

      outage : Rose (seen.bay.faults seen.bay.old) (seen.bay.faults seen.bay.new) ⊎ Rose (reader_count seen.readers.old) (reader_count seen.readers.new) →
          Rose (seen.bay.faults seen.bay.old) (seen.bay.faults seen.bay.new)
          ⊎ (GiveReading words × Rose (reader_count seen.readers.old) (reader_count seen.readers.new))
      outage (inl bay) = inl bay
      outage (inr reader) = inr (inr (inr (v, gives)), reader)

      told : (other : Cause) → (cause ≡ other) ⊎ (cause ≡ causes.NoMemory) → (status_of cause ≡ status_of other) ⊎ (GiveIngest words × (status_of cause ≡ 11))
      told other (inl is) = inl (ap status_of is)
      told other (inr is) = inr (ingests, ap status_of is)

  pub counts_faults : (command : Command) → Give words command → (cause : Cause) → E command cause → CountsFaults words seen cause
  counts_faults (Cut c) gives cause e =
      let m : (other : Cause) → cause ≡ other → CutMeans c (raw_bytes seen.raws) (raw_before seen.raws) (raw_after seen.raws) seen.sink other = λ other is. subst (CutMeans c (raw_bytes seen.raws) (raw_before seen.raws) (raw_after seen.raws) seen.sink) is e.0.means in
      record {
        raw_fault = λ four. first_rose seen.raws.contents seen.raws.faults seen.raws.old seen.raws.new e.0.raws_kept.same
            (m causes.RawFault (raw_fault_is cause four)).0;
        raw_used = λ four. inl (c, gives);
        store_fault = λ five. absurd (m causes.StoreFault (store_fault_is cause five));
        store_used = λ five. absurd (m causes.StoreFault (store_fault_is cause five));
        sink_fault = λ nine. (m causes.SinkFault (sink_fault_is cause nine)).1;
        door_fault = λ twelve. absurd (m causes.DoorFault (door_fault_is cause twelve));
        door_used = λ twelve. absurd (m causes.DoorFault (door_fault_is cause twelve));
        raw_answered = λ more. inl (ap status_of (e.0.raw_answered
            (first_higher seen.raws.contents seen.raws.faults seen.raws.old seen.raws.new e.0.raws_kept more)));
        store_answered = λ more. absurd (not_more seen.bay.faults seen.bay.old seen.bay.new e.1 more);
        reader_answered = λ other more. absurd (not_more reader_count seen.readers.old seen.readers.new e.2 more);
        sink_answered = λ more. ap status_of (e.0.sink_answered more);
        door_answered = λ more. absurd (not_opened e.3 more);
      }
  counts_faults Info gives cause e =
      let m : (other : Cause) → cause ≡ other → InfoMeans seen.bay seen.sink other = λ other is. subst (InfoMeans seen.bay seen.sink) is e.0.means in
      record {
        raw_fault = λ four. absurd (m causes.RawFault (raw_fault_is cause four)).0;
        raw_used = λ four. absurd (m causes.RawFault (raw_fault_is cause four)).0;
        store_fault = λ five. inl (m causes.StoreFault (store_fault_is cause five)).0;
        store_used = λ five. inl gives;
        sink_fault = λ nine. (m causes.SinkFault (sink_fault_is cause nine)).0;
        door_fault = λ twelve. absurd (m causes.DoorFault (door_fault_is cause twelve)).0;
        door_used = λ twelve. absurd (m causes.DoorFault (door_fault_is cause twelve)).0;
        raw_answered = λ more. absurd (not_higher e.1 more);
        store_answered = λ more. inl (ap status_of (e.0.store_answered more));
        reader_answered = λ other more. absurd (not_more reader_count seen.readers.old seen.readers.new e.2 more);
        sink_answered = λ more. ap status_of (e.0.sink_answered more);
        door_answered = λ more. absurd (not_opened e.3 more);
      }
  counts_faults (Convert c) gives cause e =
      let k : Known = known seen.raws seen.bay in
      let m : (other : Cause) → cause ≡ other → ConvertMeans c k other = λ other is. subst (ConvertMeans c k) is e.0.means in
      record {
        raw_fault = λ four. raw_cause c k (m causes.RawFault (raw_fault_is cause four));
        raw_used = λ four. inr (inl (c, gives));
        store_fault = λ five. inl (store_cause c k (m causes.StoreFault (store_fault_is cause five)));
        store_used = λ five. inr (inl (c, gives));
        sink_fault = λ nine. absurd (m causes.SinkFault (sink_fault_is cause nine));
        door_fault = λ twelve. absurd (m causes.DoorFault (door_fault_is cause twelve));
        door_used = λ twelve. absurd (m causes.DoorFault (door_fault_is cause twelve));
        raw_answered = λ more. inl (ap status_of (e.0.raw_answered more));
        store_answered = λ more. inl (ap status_of (e.0.store_answered more));
        reader_answered = λ other more. absurd (not_more reader_count seen.readers.old seen.readers.new e.1 more);
        sink_answered = λ more. absurd (not_more seen.sink.faults seen.sink.old seen.sink.new e.2 more);
        door_answered = λ more. absurd (not_opened e.3 more);
      }
  counts_faults (Query q) gives cause e =
      let m : (other : Cause) → cause ≡ other → QueryMeans q seen.bay (reader_counts seen.readers) seen.sink other =
      λ other is. subst (QueryMeans q seen.bay (reader_counts seen.readers) seen.sink) is e.0.means in
      record {
        raw_fault = λ four. absurd (m causes.RawFault (raw_fault_is cause four));
        raw_used = λ four. absurd (m causes.RawFault (raw_fault_is cause four));
        store_fault = λ five. outage (e.0.store_outage five);
        store_used = λ five. inr (inr (inl (q, gives)));
        sink_fault = λ nine. (m causes.SinkFault (sink_fault_is cause nine)).0;
        door_fault = λ twelve. absurd (m causes.DoorFault (door_fault_is cause twelve));
        door_used = λ twelve. absurd (m causes.DoorFault (door_fault_is cause twelve));
        raw_answered = λ more. absurd (not_higher e.1 more);
        store_answered = λ more. inl (ap status_of (e.0.store_answered more));
        reader_answered = λ other more. ap status_of (e.0.reader_answered more);
        sink_answered = λ more. ap status_of (e.0.sink_answered more);
        door_answered = λ more. absurd (not_opened e.2 more);
      }
    where
      outage : IsBayOutage seen.bay ⊎ IsReaderOutage seen.bay seen.readers →
          Rose (seen.bay.faults seen.bay.old) (seen.bay.faults seen.bay.new)
          ⊎ (GiveReading words × Rose (reader_count seen.readers.old) (reader_count seen.readers.new))
      outage (inl bay) = inl bay.rose
      outage (inr reader) = inr (inl (q, gives), reader.rose)
  counts_faults (Check step) gives cause e =
      let m : (other : Cause) → cause ≡ other → CheckMeans step seen.bay (reader_counts seen.readers) seen.sink other =
      λ other is. subst (CheckMeans step seen.bay (reader_counts seen.readers) seen.sink) is e.0.means in
      record {
        raw_fault = λ four. absurd (m causes.RawFault (raw_fault_is cause four));
        raw_used = λ four. absurd (m causes.RawFault (raw_fault_is cause four));
        store_fault = λ five. outage (e.0.store_outage five);
        store_used = λ five. inr (inr (inr (inl (step, gives))));
        sink_fault = λ nine. (m causes.SinkFault (sink_fault_is cause nine)).0;
        door_fault = λ twelve. absurd (m causes.DoorFault (door_fault_is cause twelve));
        door_used = λ twelve. absurd (m causes.DoorFault (door_fault_is cause twelve));
        raw_answered = λ more. absurd (not_higher e.1 more);
        store_answered = λ more. inl (ap status_of (e.0.store_answered more));
        reader_answered = λ other more. ap status_of (e.0.reader_answered more);
        sink_answered = λ more. ap status_of (e.0.sink_answered more);
        door_answered = λ more. absurd (not_opened e.2 more);
      }
    where
      outage : IsBayOutage seen.bay ⊎ IsReaderOutage seen.bay seen.readers →
          Rose (seen.bay.faults seen.bay.old) (seen.bay.faults seen.bay.new)
          ⊎ (GiveReading words × Rose (reader_count seen.readers.old) (reader_count seen.readers.new))
      outage (inl bay) = inl bay.rose
      outage (inr reader) = inr (inr (inl (step, gives)), reader.rose)
  counts_faults (Serve v) gives cause e = serving_counts v.ingest v refl gives cause e
  counts_faults (Drill n) gives cause e =
      let m : (other : Cause) → cause ≡ other → DrillMeans n seen.sink other = λ other is. subst (DrillMeans n seen.sink) is e.0.means in
      record {
        raw_fault = λ four. absurd (m causes.RawFault (raw_fault_is cause four));
        raw_used = λ four. absurd (m causes.RawFault (raw_fault_is cause four));
        store_fault = λ five. absurd (m causes.StoreFault (store_fault_is cause five));
        store_used = λ five. absurd (m causes.StoreFault (store_fault_is cause five));
        sink_fault = λ nine. (m causes.SinkFault (sink_fault_is cause nine)).0;
        door_fault = λ twelve. absurd (m causes.DoorFault (door_fault_is cause twelve));
        door_used = λ twelve. absurd (m causes.DoorFault (door_fault_is cause twelve));
        raw_answered = λ more. absurd (not_higher e.1 more);
        store_answered = λ more. absurd (not_more seen.bay.faults seen.bay.old seen.bay.new e.2 more);
        reader_answered = λ other more. absurd (not_more reader_count seen.readers.old seen.readers.new e.3 more);
        sink_answered = λ more. ap status_of (e.0.sink_answered more);
        door_answered = λ more. absurd (not_opened e.4 more);
      }

  -- ---- what is left

  is_cut : (command : Command) → Only command → GiveCut words → IsCut command
  is_cut command only (c, given) = subst IsCut (only (Cut c) given) tt

  is_info : (command : Command) → Only command → GiveInfo words → IsInfo command
  is_info command only given = subst IsInfo (only Info given) tt

  is_convert : (command : Command) → Only command → GiveConvert words → IsConvert command
  is_convert command only (c, given) = subst IsConvert (only (Convert c) given) tt

  is_query : (command : Command) → Only command → GiveQuery words → IsQuery command
  is_query command only (q, given) = subst IsQuery (only (Query q) given) tt

  is_check : (command : Command) → Only command → GiveCheck words → IsCheck command
  is_check command only (step, given) = subst IsCheck (only (Check step) given) tt

  is_serve : (command : Command) → Only command → GiveServe words → IsServe command
  is_serve command only (v, given) = subst IsServe (only (Serve v) given) tt

  is_drill : (command : Command) → Only command → GiveDrill words → IsDrill command
  is_drill command only (n, given) = subst IsDrill (only (Drill n) given) tt

  serving_rest : (ingest : Option IngestValue) (v : ServeValue) → v.ingest ≡ ingest → Give words (Serve v) → Only (Serve v) → (cause : Cause) → Serving ingest v cause → LeavesRest words seen
  serving_rest None v asked gives only cause e =
      let no_ingest : GiveIngest words → ⊥ = λ other. false≢true (subst IsSome (ap ingest_in (only (Serve other.0) other.1.0) ∙ asked) other.1.1) in
      record {
        raws = ap (map seen.raws.contents) e.1;
        raw_counts = none_fell seen.raws.faults seen.raws.old seen.raws.new e.1;
        other_raws = λ never none. others_same seen.raws.old seen.raws.new e.1;
        idle_raws = λ asked given. absurd (is_convert (Serve v) only (asked, given));
        far_raws = λ other. absurd (no_ingest other);
        other_readers = λ never. absurd (never (v, gives));
        idle_readers = λ other given. subst (λ w. KeepsBehind (workers_in w seen.readers seen.doors) seen.readers.old seen.readers.new) (sym (same_serve other v (only (Serve other) given))) e.0.idle_readers;
        reader_list = e.0.idle_readers.number;
        reader_counts = e.0.reader_counts;
        bay_count = e.0.bay_count;
        sink_count = e.0.sink_count;
        idle_doors = λ other given. subst (λ w. KeepsBehind (workers_in w seen.readers seen.doors) seen.doors.old seen.doors.new) (sym (same_serve other v (only (Serve other) given))) e.0.idle_doors;
        door_list = e.0.idle_doors.number;
        door_counts = e.0.door_counts;
        unchanged = λ never none. e.0.unchanged;
        header = λ never. e.0.unchanged.header;
        convert_silent = λ given. absurd (is_convert (Serve v) only given);
        cut_alone = λ given. absurd (is_cut (Serve v) only given);
        info_alone = λ given. absurd (is_info (Serve v) only given);
        query_alone = λ given. absurd (is_query (Serve v) only given);
        check_alone = λ given. absurd (is_check (Serve v) only given);
        serve_alone = λ given none. e.1;
        drill_alone = λ given. absurd (is_drill (Serve v) only given);
        drill_reads = λ given. absurd (is_drill (Serve v) only given);
        reads = λ never. absurd (never (inr (inr (v, gives))));
        serve_opens = λ other. absurd (other (v, gives));
      }
  serving_rest (Some i) v asked gives only cause e =
      let ingests : GiveIngest words = (v, (gives, subst IsSome (sym asked) refl)) in
      record {
        raws = e.raws_kept;
        raw_counts = e.raw_counts;
        other_raws = λ never none. absurd (none ingests);
        idle_raws = λ asked given. absurd (is_convert (Serve v) only (asked, given));
        far_raws = λ other. e.raws_idle;
        other_readers = λ never. absurd (never (v, gives));
        idle_readers = λ other given. subst (λ w. KeepsBehind (workers_in w seen.readers seen.doors) seen.readers.old seen.readers.new) (sym (same_serve other v (only (Serve other) given))) e.idle_readers;
        reader_list = e.idle_readers.number;
        reader_counts = e.reader_counts;
        bay_count = e.bay_count;
        sink_count = e.sink_count;
        idle_doors = λ other given. subst (λ w. KeepsBehind (workers_in w seen.readers seen.doors) seen.doors.old seen.doors.new) (sym (same_serve other v (only (Serve other) given))) e.idle_doors;
        door_list = e.idle_doors.number;
        door_counts = e.door_counts;
        unchanged = λ never none. absurd (none ingests);
        header = λ never. e.header;
        convert_silent = λ given. absurd (is_convert (Serve v) only given);
        cut_alone = λ given. absurd (is_cut (Serve v) only given);
        info_alone = λ given. absurd (is_info (Serve v) only given);
        query_alone = λ given. absurd (is_query (Serve v) only given);
        check_alone = λ given. absurd (is_check (Serve v) only given);
        serve_alone = λ given none. absurd (none ingests);
        drill_alone = λ given. absurd (is_drill (Serve v) only given);
        drill_reads = λ given. absurd (is_drill (Serve v) only given);
        reads = λ never. absurd (never (inr (inr (v, gives))));
        serve_opens = λ other. absurd (other (v, gives));
      }

  pub leaves_rest : (command : Command) → Give words command → Only command → (cause : Cause) → E command cause → LeavesRest words seen
  leaves_rest (Cut c) gives only cause e =
      record {
        raws = e.0.raws_kept.same;
        raw_counts = first_falls seen.raws.contents seen.raws.faults seen.raws.old seen.raws.new e.0.raws_kept;
        other_raws = λ never none. e.0.raws_kept.others;
        idle_raws = λ asked given. (of_convert (Cut c) only cause e asked given).raws_idle;
        far_raws = λ ingest. absurd (is_serve (Cut c) only (ingest.0, ingest.1.0));
        other_readers = λ never. others_same seen.readers.old seen.readers.new e.2;
        idle_readers = λ v given. absurd (is_serve (Cut c) only (v, given));
        reader_list = ap length e.2;
        reader_counts = none_fell seen.readers.faults seen.readers.old seen.readers.new e.2;
        bay_count = not_less seen.bay.faults seen.bay.old seen.bay.new e.1;
        sink_count = e.0.sink_count;
        idle_doors = λ v given. absurd (is_serve (Cut c) only (v, given));
        door_list = ap length e.3;
        door_counts = none_fell seen.doors.faults seen.doors.old seen.doors.new e.3;
        unchanged = λ never none. not_changed seen.bay e.1;
        header = λ never. ap seen.bay.header e.1;
        convert_silent = λ given. absurd (is_convert (Cut c) only given);
        cut_alone = λ given. e.1;
        info_alone = λ given. absurd (is_info (Cut c) only given);
        query_alone = λ given. absurd (is_query (Cut c) only given);
        check_alone = λ given. absurd (is_check (Cut c) only given);
        serve_alone = λ given none. absurd (is_serve (Cut c) only given);
        drill_alone = λ given. absurd (is_drill (Cut c) only given);
        drill_reads = λ given. absurd (is_drill (Cut c) only given);
        reads = λ never. e.2;
        serve_opens = λ other. e.3;
      }
  leaves_rest Info gives only cause e =
      record {
        raws = ap (map seen.raws.contents) e.1;
        raw_counts = none_fell seen.raws.faults seen.raws.old seen.raws.new e.1;
        other_raws = λ never none. others_same seen.raws.old seen.raws.new e.1;
        idle_raws = λ asked given. (of_convert Info only cause e asked given).raws_idle;
        far_raws = λ ingest. absurd (is_serve Info only (ingest.0, ingest.1.0));
        other_readers = λ never. others_same seen.readers.old seen.readers.new e.2;
        idle_readers = λ v given. absurd (is_serve Info only (v, given));
        reader_list = ap length e.2;
        reader_counts = none_fell seen.readers.faults seen.readers.old seen.readers.new e.2;
        bay_count = e.0.bay_count;
        sink_count = e.0.sink_count;
        idle_doors = λ v given. absurd (is_serve Info only (v, given));
        door_list = ap length e.3;
        door_counts = none_fell seen.doors.faults seen.doors.old seen.doors.new e.3;
        unchanged = λ never none. e.0.unchanged;
        header = λ never. e.0.unchanged.header;
        convert_silent = λ given. absurd (is_convert Info only given);
        cut_alone = λ given. absurd (is_cut Info only given);
        info_alone = λ given. e.1;
        query_alone = λ given. absurd (is_query Info only given);
        check_alone = λ given. absurd (is_check Info only given);
        serve_alone = λ given none. absurd (is_serve Info only given);
        drill_alone = λ given. absurd (is_drill Info only given);
        drill_reads = λ given. absurd (is_drill Info only given);
        reads = λ never. e.2;
        serve_opens = λ other. e.3;
      }
  leaves_rest (Convert c) gives only cause e =
      record {
        raws = e.0.raws_kept;
        raw_counts = e.0.raw_counts;
        other_raws = λ never none. absurd (never (c, gives));
        idle_raws = λ asked given. (of_convert (Convert c) only cause e asked given).raws_idle;
        far_raws = λ ingest. absurd (is_serve (Convert c) only (ingest.0, ingest.1.0));
        other_readers = λ never. others_same seen.readers.old seen.readers.new e.1;
        idle_readers = λ v given. absurd (is_serve (Convert c) only (v, given));
        reader_list = ap length e.1;
        reader_counts = none_fell seen.readers.faults seen.readers.old seen.readers.new e.1;
        bay_count = e.0.bay_count;
        sink_count = not_less seen.sink.faults seen.sink.old seen.sink.new e.2;
        idle_doors = λ v given. absurd (is_serve (Convert c) only (v, given));
        door_list = ap length e.3;
        door_counts = none_fell seen.doors.faults seen.doors.old seen.doors.new e.3;
        unchanged = λ never none. absurd (never (c, gives));
        header = λ never. absurd (never (c, gives));
        convert_silent = λ given. e.2;
        cut_alone = λ given. absurd (is_cut (Convert c) only given);
        info_alone = λ given. absurd (is_info (Convert c) only given);
        query_alone = λ given. absurd (is_query (Convert c) only given);
        check_alone = λ given. absurd (is_check (Convert c) only given);
        serve_alone = λ given none. absurd (is_serve (Convert c) only given);
        drill_alone = λ given. absurd (is_drill (Convert c) only given);
        drill_reads = λ given. absurd (is_drill (Convert c) only given);
        reads = λ never. e.1;
        serve_opens = λ other. e.3;
      }
  leaves_rest (Query q) gives only cause e =
      record {
        raws = ap (map seen.raws.contents) e.1;
        raw_counts = none_fell seen.raws.faults seen.raws.old seen.raws.new e.1;
        other_raws = λ never none. others_same seen.raws.old seen.raws.new e.1;
        idle_raws = λ asked given. (of_convert (Query q) only cause e asked given).raws_idle;
        far_raws = λ ingest. absurd (is_serve (Query q) only (ingest.0, ingest.1.0));
        other_readers = λ never. e.0.others;
        idle_readers = λ v given. absurd (is_serve (Query q) only (v, given));
        reader_list = e.0.reader_list;
        reader_counts = first_counts_fall seen.readers.faults seen.readers.old seen.readers.new e.0.reader_list e.0.others e.0.reader_count;
        bay_count = e.0.bay_count;
        sink_count = e.0.sink_count;
        idle_doors = λ v given. absurd (is_serve (Query q) only (v, given));
        door_list = ap length e.2;
        door_counts = none_fell seen.doors.faults seen.doors.old seen.doors.new e.2;
        unchanged = λ never none. e.0.unchanged;
        header = λ never. e.0.unchanged.header;
        convert_silent = λ given. absurd (is_convert (Query q) only given);
        cut_alone = λ given. absurd (is_cut (Query q) only given);
        info_alone = λ given. absurd (is_info (Query q) only given);
        query_alone = λ given. e.1;
        check_alone = λ given. absurd (is_check (Query q) only given);
        serve_alone = λ given none. absurd (is_serve (Query q) only given);
        drill_alone = λ given. absurd (is_drill (Query q) only given);
        drill_reads = λ given. absurd (is_drill (Query q) only given);
        reads = λ never. absurd (never (inl (q, gives)));
        serve_opens = λ other. e.2;
      }
  leaves_rest (Check step) gives only cause e =
      record {
        raws = ap (map seen.raws.contents) e.1;
        raw_counts = none_fell seen.raws.faults seen.raws.old seen.raws.new e.1;
        other_raws = λ never none. others_same seen.raws.old seen.raws.new e.1;
        idle_raws = λ asked given. (of_convert (Check step) only cause e asked given).raws_idle;
        far_raws = λ ingest. absurd (is_serve (Check step) only (ingest.0, ingest.1.0));
        other_readers = λ never. e.0.others;
        idle_readers = λ v given. absurd (is_serve (Check step) only (v, given));
        reader_list = e.0.reader_list;
        reader_counts = first_counts_fall seen.readers.faults seen.readers.old seen.readers.new e.0.reader_list e.0.others e.0.reader_count;
        bay_count = e.0.bay_count;
        sink_count = e.0.sink_count;
        idle_doors = λ v given. absurd (is_serve (Check step) only (v, given));
        door_list = ap length e.2;
        door_counts = none_fell seen.doors.faults seen.doors.old seen.doors.new e.2;
        unchanged = λ never none. e.0.unchanged;
        header = λ never. e.0.unchanged.header;
        convert_silent = λ given. absurd (is_convert (Check step) only given);
        cut_alone = λ given. absurd (is_cut (Check step) only given);
        info_alone = λ given. absurd (is_info (Check step) only given);
        query_alone = λ given. absurd (is_query (Check step) only given);
        check_alone = λ given. e.1;
        serve_alone = λ given none. absurd (is_serve (Check step) only given);
        drill_alone = λ given. absurd (is_drill (Check step) only given);
        drill_reads = λ given. absurd (is_drill (Check step) only given);
        reads = λ never. absurd (never (inr (inl (step, gives))));
        serve_opens = λ other. e.2;
      }
  leaves_rest (Serve v) gives only cause e = serving_rest v.ingest v refl gives only cause e
  leaves_rest (Drill n) gives only cause e =
      record {
        raws = ap (map seen.raws.contents) e.1;
        raw_counts = none_fell seen.raws.faults seen.raws.old seen.raws.new e.1;
        other_raws = λ never none. others_same seen.raws.old seen.raws.new e.1;
        idle_raws = λ asked given. (of_convert (Drill n) only cause e asked given).raws_idle;
        far_raws = λ ingest. absurd (is_serve (Drill n) only (ingest.0, ingest.1.0));
        other_readers = λ never. others_same seen.readers.old seen.readers.new e.3;
        idle_readers = λ v given. absurd (is_serve (Drill n) only (v, given));
        reader_list = ap length e.3;
        reader_counts = none_fell seen.readers.faults seen.readers.old seen.readers.new e.3;
        bay_count = not_less seen.bay.faults seen.bay.old seen.bay.new e.2;
        sink_count = e.0.sink_count;
        idle_doors = λ v given. absurd (is_serve (Drill n) only (v, given));
        door_list = ap length e.4;
        door_counts = none_fell seen.doors.faults seen.doors.old seen.doors.new e.4;
        unchanged = λ never none. not_changed seen.bay e.2;
        header = λ never. ap seen.bay.header e.2;
        convert_silent = λ given. absurd (is_convert (Drill n) only given);
        cut_alone = λ given. absurd (is_cut (Drill n) only given);
        info_alone = λ given. absurd (is_info (Drill n) only given);
        query_alone = λ given. absurd (is_query (Drill n) only given);
        check_alone = λ given. absurd (is_check (Drill n) only given);
        serve_alone = λ given none. absurd (is_serve (Drill n) only given);
        drill_alone = λ given. e.2;
        drill_reads = λ given. e.1;
        reads = λ never. e.3;
        serve_opens = λ other. e.4;
      }

  -- ---- a fault is met once

  serving_once : (ingest : Option IngestValue) (v : ServeValue) → v.ingest ≡ ingest → Give words (Serve v) → Only (Serve v) → (cause : Cause) → Serving ingest v cause → MeetsFaultsOnce words seen
  serving_once None v asked gives only cause e =
      let no_ingest : GiveIngest words → ⊥ = λ other. false≢true (subst IsSome (ap ingest_in (only (Serve other.0) other.1.0) ∙ asked) other.1.1) in
      record {
        raws = none_met seen.raws.faults seen.raws.old seen.raws.new e.1;
        bay = λ never none. e.0.bay_once;
        bay_rows = λ c given. absurd (is_convert (Serve v) only (c, given));
        bay_beside = λ other. absurd (no_ingest other);
        reader = λ never. absurd (never (v, gives));
        sink = e.0.sink_once;
        doors = e.0.doors_once;
      }
  serving_once (Some i) v asked gives only cause e =
      record {
        raws = e.raws_once;
        bay = λ never none. absurd (none (v, (gives, subst IsSome (sym asked) refl)));
        bay_rows = λ c given. absurd (is_convert (Serve v) only (c, given));
        bay_beside = λ other. e.bay_once;
        reader = λ never. absurd (never (v, gives));
        sink = e.sink_once;
        doors = e.doors_once;
      }

  reader_same : seen.readers.new ≡ seen.readers.old → MeetsOnce (reader_count seen.readers.old) (reader_count seen.readers.new)
  reader_same same = not_met reader_count seen.readers.old seen.readers.new same

  pub meets_once : (command : Command) → Give words command → Only command → (cause : Cause) → E command cause → MeetsFaultsOnce words seen
  meets_once (Cut c) gives only cause e =
      record {
        raws = first_once seen.raws.faults seen.raws.old seen.raws.new (as_many seen.raws.contents seen.raws.old seen.raws.new e.0.raws_kept.same)
            e.0.raws_kept.others e.0.raw_once;
        bay = λ never none. not_met seen.bay.faults seen.bay.old seen.bay.new e.1;
        bay_rows = λ other given. absurd (is_convert (Cut c) only (other, given));
        bay_beside = λ ingest. absurd (is_serve (Cut c) only (ingest.0, ingest.1.0));
        reader = λ never. reader_same e.2;
        sink = e.0.sink_once;
        doors = none_met seen.doors.faults seen.doors.old seen.doors.new e.3;
      }
  meets_once Info gives only cause e =
      record {
        raws = none_met seen.raws.faults seen.raws.old seen.raws.new e.1;
        bay = λ never none. e.0.bay_once;
        bay_rows = λ other given. absurd (is_convert Info only (other, given));
        bay_beside = λ ingest. absurd (is_serve Info only (ingest.0, ingest.1.0));
        reader = λ never. reader_same e.2;
        sink = e.0.sink_once;
        doors = none_met seen.doors.faults seen.doors.old seen.doors.new e.3;
      }
  meets_once (Convert c) gives only cause e =
      record {
        raws = e.0.raws_once;
        bay = λ never none. absurd (never (c, gives));
        bay_rows = λ other given. (of_convert (Convert c) only cause e other given).bay_once;
        bay_beside = λ ingest. absurd (is_serve (Convert c) only (ingest.0, ingest.1.0));
        reader = λ never. reader_same e.1;
        sink = not_met seen.sink.faults seen.sink.old seen.sink.new e.2;
        doors = none_met seen.doors.faults seen.doors.old seen.doors.new e.3;
      }
  meets_once (Query q) gives only cause e =
      record {
        raws = none_met seen.raws.faults seen.raws.old seen.raws.new e.1;
        bay = λ never none. e.0.bay_once;
        bay_rows = λ other given. absurd (is_convert (Query q) only (other, given));
        bay_beside = λ ingest. absurd (is_serve (Query q) only (ingest.0, ingest.1.0));
        reader = λ never. e.0.reader_once;
        sink = e.0.sink_once;
        doors = none_met seen.doors.faults seen.doors.old seen.doors.new e.2;
      }
  meets_once (Check step) gives only cause e =
      record {
        raws = none_met seen.raws.faults seen.raws.old seen.raws.new e.1;
        bay = λ never none. e.0.bay_once;
        bay_rows = λ other given. absurd (is_convert (Check step) only (other, given));
        bay_beside = λ ingest. absurd (is_serve (Check step) only (ingest.0, ingest.1.0));
        reader = λ never. e.0.reader_once;
        sink = e.0.sink_once;
        doors = none_met seen.doors.faults seen.doors.old seen.doors.new e.2;
      }
  meets_once (Serve v) gives only cause e = serving_once v.ingest v refl gives only cause e
  meets_once (Drill n) gives only cause e =
      record {
        raws = none_met seen.raws.faults seen.raws.old seen.raws.new e.1;
        bay = λ never none. not_met seen.bay.faults seen.bay.old seen.bay.new e.2;
        bay_rows = λ other given. absurd (is_convert (Drill n) only (other, given));
        bay_beside = λ ingest. absurd (is_serve (Drill n) only (ingest.0, ingest.1.0));
        reader = λ never. reader_same e.3;
        sink = e.0.sink_once;
        doors = none_met seen.doors.faults seen.doors.old seen.doors.new e.4;
      }
