-- What a run of `check` comes to where what it meets is known.
use Rattle.std.proofs.Common.{◌≡◌, ◌≢◌, ◌⊎◌, ℕ, ◌<◌, List, length, Option, Some, None, IsSome, IsSomeAnd, IfSome, inl, inr, refl, sym, ◌∙◌, ap, subst}
use Rattle.std.proofs.lemmas.Bool.{false≢true}
use Rattle.idx_outside.specs.Cause.{MeetsOnce, NeverFalls, Rose}
use Rattle.idx_outside.specs.Contents.{appended, AppendsPrefix}
use Rattle.idx_outside.specs.Objects.{OthersUntouched}
use Rattle.idx_outside.specs.declared.bay_call.BayCall.TheVariants as calls
use Rattle.idx_outside.specs.declared.mem_file.MemFile.{MemFile}
use Rattle.idx_header.specs.Header.{HasTime, HeaderValue}
use Rattle.idx_edition.specs.Loaded.{Counts, IsBayFault, IsReaderFault}
use Rattle.idx_edition.specs.Stored.{IsAbsent}
use Rattle.idx_edition.proofs.NewestLemmas.{newest-not, newest-one}
use Rattle.idx_check.specs.Checked.{IsChecked, IsVerdict, Known, LacksStep}
use Rattle.idx_check.specs.Verdict.{verdict_of}
use Rattle.idx_check.specs.declared.refused_check.RefusedCheck.{RefusedCheck}
use Rattle.idx_check.specs.declared.refused_check.RefusedCheck.TheVariants as refusals
use Rattle.idx_check.specs.declared.verdict.Verdict.{Verdict}
use Rattle.idx_check.specs.declared.verdict.Verdict.TheVariants.{Same, Wrong}
use Rattle.idx_check.specs.declared.verdict.WrongKind.{WrongKind}
use Rattle.idx_commands.specs.declared.causes.Cause.{Cause}
use Rattle.idx_commands.specs.declared.causes.Cause.TheVariants as causes
use Rattle.idx_commands.specs.Cause.{status_of}
use Rattle.idx_commands.specs.CheckRun.{AreSame, CheckEnds, CheckMeans, HasCause, HasVerdict, IsSaid, LacksStanding, LacksTime, LooksOnce, LooksOnceAtSame, cause_of_refused, known_of}
use Rattle.idx_commands.specs.InfoRun.{HasBadHeader}
use Rattle.idx_commands.specs.QueryRun.{IsBayOutage, IsReaderOutage, IsUnreadCause}
use Rattle.idx_commands.specs.SameLine.{same_line}
use Rattle.idx_commands.specs.Seen.{BaySeen, FirstReads, ReaderCounts, ReadersSeen, SinkSeen, bay_after, bay_before, first_reads, reader_after, reader_before, reader_counts, sink_after, sink_before}
use Rattle.idx_commands.proofs.CauseLemmas.{store_fault_is}
use Rattle.idx_commands.proofs.KnownLemmas.{both_hold}
use Rattle.idx_commands.proofs.QueryLemmas.{both_of, not_bad, not_read, some_not_none}

-- ---- one verdict

-- the files of a step have one verdict
one_verdict : (h : HeaderValue) (step : ℕ) (a b : Verdict) (files : List MemFile) → IsVerdict h step files a → IsVerdict h step files b → a ≡ b
one_verdict h step a b files first second =
    first.same ∙ ap (λ (r : HeaderValue). verdict_of r step files) (newest-one h first.revised second.revised step files first.stands second.stands)
    ∙ sym second.same

-- and a step that has one stands
verdict_stands : (h : HeaderValue) (step : ℕ) (a : Verdict) (files : List MemFile) → IsVerdict h step files a → IsAbsent h step files → ⊥
verdict_stands h step a files verdict absent = newest-not h verdict.revised step files verdict.stands absent

-- a header with a time has one
timed : {T : Type 0} (steps : Option T) → IsSome steps → steps ≡ None → ⊥
timed None some none = false≢true some
timed (Some s) some none = some_not_none s (Some s) refl none

-- the place of a wrong file, and how it is wrong, as a cause
abbrev cause_in : Verdict → Cause
cause_in (Same files bytes) = causes.Done
cause_in (Wrong file at why) = causes.NotSame file at why

-- ---- what the answer says

-- a refusal that has its cause is what its cause says, where nothing was written
pub means_of_refusal : {B K : Type 0} (step : ℕ) (bay : BaySeen B) (counts : ReaderCounts) (sink : SinkSeen K) (refusal : RefusedCheck) →
    HasCause step bay counts refusal → sink.new ≡ sink.old → CheckMeans step bay counts sink (cause_of_refused step refusal)
means_of_refusal step bay counts sink (refusals.Header line kind) cause silent = (cause, silent)
means_of_refusal step bay counts sink refusals.NotPublished cause silent = (refl, cause, silent)
means_of_refusal step bay counts sink refusals.StoreFault cause silent = (cause, silent)
means_of_refusal step bay counts sink refusals.NoMemory cause silent = silent

-- what was written of files that are the writer's
pub means_of_same : {B K : Type 0} (step : ℕ) (bay : BaySeen B) (counts : ReaderCounts) (sink : SinkSeen K) (files bytes : ℕ) (cause : Cause) →
    IsSaid step bay (Same files bytes) →
    (cause ≡ causes.Done → sink.contents sink.new ≡ appended (sink.contents sink.old) (same_line files bytes)) →
    (cause ≡ causes.SinkFault → Rose (sink_before sink) (sink_after sink) × AppendsPrefix (sink.contents sink.old) (sink.contents sink.new) (same_line files bytes)) →
    (cause ≡ causes.NoMemory → sink.new ≡ sink.old) →
    (cause ≡ causes.Done) ⊎ ((cause ≡ causes.SinkFault) ⊎ (cause ≡ causes.NoMemory)) → CheckMeans step bay counts sink cause
means_of_same step bay counts sink files bytes cause said done taken starved (inl is) =
    subst (CheckMeans step bay counts sink) (sym is) (files, bytes, said, done is)
means_of_same step bay counts sink files bytes cause said done taken starved (inr (inl is)) =
    let rose = taken is in
    subst (CheckMeans step bay counts sink) (sym is) (rose.0, (files, bytes, said, rose.1))
means_of_same step bay counts sink files bytes cause said done taken starved (inr (inr is)) =
    subst (CheckMeans step bay counts sink) (sym is) (starved is)

-- ---- the run

module _ {B R K : Type 0} (step : ℕ) (bay : BaySeen B) (readers : ReadersSeen R) (sink : SinkSeen K) where
  abbrev header : Option (List ℕ)
  header = bay.header bay.old

  abbrev files : Option (List MemFile)
  files = bay.files bay.old

  abbrev counted : Counts
  counted = let k : Known = known_of bay (reader_counts readers) in k.counts

  abbrev C : RefusedCheck → Type 0
  C refusal = HasCause step bay (reader_counts readers) refusal

  abbrev Said : Verdict → Type 0
  Said verdict = IsSaid step bay verdict

  abbrev Ends : Cause → Type 0
  Ends cause = CheckMeans step bay (reader_counts readers) sink cause

  -- this is so of the cause where it is so of each verdict, of what may come of writing, and of each refusal
  judged : (P : Cause → Type 0) → ((count bytes : ℕ) → Said (Same count bytes) → P causes.Done) →
      ((count bytes : ℕ) → Said (Same count bytes) → Rose (sink_before sink) (sink_after sink) → P causes.SinkFault) → P causes.NoMemory →
      ((file at : ℕ) (why : WrongKind) → Said (Wrong file at why) → P (causes.NotSame file at why)) →
      ((refusal : RefusedCheck) → C refusal → P (cause_of_refused step refusal)) → (cause : Cause) → Ends cause → P cause
  judged P done taken starved wrong failed causes.Done (count, bytes, said, wrote) = done count bytes said
  judged P done taken starved wrong failed causes.SinkFault (rose, (count, bytes, said, wrote)) = taken count bytes said rose
  judged P done taken starved wrong failed (causes.NotSame file at why) ends = wrong file at why ends.0
  judged P done taken starved wrong failed (causes.Header line kind) ends = failed (refusals.Header line kind) ends.0
  judged P done taken starved wrong failed (causes.NotPublished time) (is, c, same) =
      subst (λ t. P (causes.NotPublished t)) (sym is) (failed refusals.NotPublished c)
  judged P done taken starved wrong failed causes.StoreFault ends = failed refusals.StoreFault ends.0
  judged P done taken starved wrong failed causes.NoMemory ends = starved
  judged P done taken starved wrong failed _ ends = absurd ends

  store_cause : (cause : Cause) → Ends cause → status_of cause ≡ 5 → C refusals.StoreFault
  store_cause cause m five =
      let store : Ends causes.StoreFault = subst Ends (store_fault_is cause five) m in store.0

  outage : C refusals.StoreFault → IsBayOutage bay ⊎ IsReaderOutage bay readers
  outage (inl asked) = inl (record { rose = asked.rose; call = inl asked.call })
  outage (inr (h, (reads, fault))) = by fault.fault
    where
      by : IsBayFault counted ⊎ IsReaderFault counted → IsBayOutage bay ⊎ IsReaderOutage bay readers
      by (inl asked) = inl (record { rose = asked.rose; call = inr asked.call })
      by (inr read) = inr (record { rose = read.rose; count = read.bay.count; call = read.bay.failed })

  -- a header that is refused
  module _ (bad : HasBadHeader header) where
    abbrev Bad : Cause → Type 0
    Bad cause = (status_of cause ≡ 2) ⊎ ((status_of cause ≡ 5) ⊎ (status_of cause ≡ 11))

    refused : (refusal : RefusedCheck) → C refusal → Bad (cause_of_refused step refusal)
    refused (refusals.Header line kind) c = inl refl
    refused refusals.NotPublished c = absurd (not_bad header _ c bad)
    refused refusals.StoreFault c = inr (inl refl)
    refused refusals.NoMemory c = inr (inr refl)

    bad_ends : (cause : Cause) → Ends cause → Bad cause
    bad_ends =
        judged Bad (λ count bytes said. absurd (not_bad header _ said bad)) (λ count bytes said rose. absurd (not_bad header _ said bad)) (inr (inr refl))
        (λ file at why said. absurd (not_bad header _ said bad)) refused

    bad_store : C refusals.StoreFault → bay.failed bay.new ≡ Some calls.Header
    bad_store (inl asked) = asked.call
    bad_store (inr under) = absurd (not_bad header _ under bad)

  -- a header that lacks the step
  lacks_first : LacksTime step header → C refusals.StoreFault → bay.failed bay.new ≡ Some calls.Header
  lacks_first lacks (inl asked) = asked.call
  lacks_first lacks (inr under) = absurd (both_of header _ _ lacks under (λ h none fault. none_of h none fault.timed fault.has))
    where
      none_of : (h : HeaderValue) → (h.steps ≡ None) ⊎ (¬ HasTime h step) → IsSome h.steps → HasTime h step → ⊥
      none_of h (inl none) some has = timed h.steps some none
      none_of h (inr none) some has = none has

  -- a step that does not stand
  module _ (lacks : LacksStanding step header files) where
    abbrev Absent : Cause → Type 0
    Absent cause = (cause ≡ causes.NotPublished step) ⊎ ((status_of cause ≡ 5) ⊎ (status_of cause ≡ 11))

    never_said : (verdict : Verdict) → Said verdict → ⊥
    never_said verdict said = both_of header _ _ lacks said (λ h none checked. by h none checked)
      where
        by : (h : HeaderValue) → (h.steps ≡ None) ⊎ IsSomeAnd files (IsAbsent h step) → IsChecked h step files verdict → ⊥
        by h (inl none) checked = timed h.steps checked.timed none
        by h (inr absent) checked = both_hold files (λ fs. IsVerdict h step fs verdict) (IsAbsent h step) (verdict_stands h step verdict) checked.verdict absent

    absent_refused : (refusal : RefusedCheck) → C refusal → Absent (cause_of_refused step refusal)
    absent_refused (refusals.Header line kind) c = absurd (not_read header _ (record { line = line; kind = kind }) lacks c.1)
    absent_refused refusals.NotPublished c = inl refl
    absent_refused refusals.StoreFault c = inr (inl refl)
    absent_refused refusals.NoMemory c = inr (inr refl)

    absent_ends : (cause : Cause) → Ends cause → Absent cause
    absent_ends =
        judged Absent (λ count bytes said. absurd (never_said (Same count bytes) said)) (λ count bytes said rose. absurd (never_said (Same count bytes) said)) (inr (inr refl))
        (λ file at why said. absurd (never_said (Wrong file at why) said)) absent_refused

  -- a verdict that is known
  module _ (verdict : Verdict) (due : HasVerdict step header files verdict) where
    said_is : (other : Verdict) → Said other → other ≡ verdict
    said_is other said = both_of header _ _ due said (λ h known checked.
        both_hold files (λ fs. IsVerdict h step fs other) (λ fs. IsVerdict h step fs verdict) (λ fs mine yours. one_verdict h step other verdict fs mine yours)
        checked.verdict known.1)

    never_absent : C refusals.NotPublished → ⊥
    never_absent c = both_of header _ _ due c (λ h known lacks. by h known.0 known.1 lacks)
      where
        by : (h : HeaderValue) → IsSome h.steps → IsSomeAnd files (λ fs. IsVerdict h step fs verdict) → LacksStep h step files → ⊥
        by h some known (inl none) = timed h.steps some none
        by h some known (inr absent) = both_hold files (IsAbsent h step) (λ fs. IsVerdict h step fs verdict) (λ fs gone is. verdict_stands h step verdict fs is gone) absent known

  module _ (file at : ℕ) (why : WrongKind) (due : HasVerdict step header files (Wrong file at why)) where
    abbrev Different : Cause → Type 0
    Different cause = (cause ≡ causes.NotSame file at why) ⊎ ((status_of cause ≡ 5) ⊎ (status_of cause ≡ 11))

    not_same_too : (count bytes : ℕ) → Said (Same count bytes) → ⊥
    not_same_too count bytes said = let is = said_is (Wrong file at why) due (Same count bytes) said in cc

    wrong_refused : (refusal : RefusedCheck) → C refusal → Different (cause_of_refused step refusal)
    wrong_refused (refusals.Header line kind) c = absurd (not_read header _ (record { line = line; kind = kind }) due c.1)
    wrong_refused refusals.NotPublished c = absurd (never_absent (Wrong file at why) due c)
    wrong_refused refusals.StoreFault c = inr (inl refl)
    wrong_refused refusals.NoMemory c = inr (inr refl)

    wrong_ends : (cause : Cause) → Ends cause → Different cause
    wrong_ends =
        judged Different (λ count bytes said. absurd (not_same_too count bytes said)) (λ count bytes said rose. absurd (not_same_too count bytes said)) (inr (inr refl))
        (λ f a w said. inl (ap cause_in (said_is (Wrong file at why) due (Wrong f a w) said))) wrong_refused

  -- files that are the writer's, where no fault was counted
  module _ (count bytes : ℕ) (due : HasVerdict step header files (Same count bytes)) (bay_quiet : ¬ Rose (bay_before bay) (bay_after bay))
      (quiet : ¬ Rose (reader_before readers) (reader_after readers)) (taken : ¬ Rose (sink_before sink) (sink_after sink)) where
    abbrev Whole : Cause → Type 0
    Whole cause = (status_of cause ≡ 0) ⊎ (status_of cause ≡ 11)

    no_outage : IsBayOutage bay ⊎ IsReaderOutage bay readers → ⊥
    no_outage (inl asked) = bay_quiet asked.rose
    no_outage (inr read) = quiet read.rose

    not_wrong : (file at : ℕ) (why : WrongKind) → Said (Wrong file at why) → ⊥
    not_wrong file at why said = let is = said_is (Same count bytes) due (Wrong file at why) said in cc

    same_refused : (refusal : RefusedCheck) → C refusal → Whole (cause_of_refused step refusal)
    same_refused (refusals.Header line kind) c = absurd (not_read header _ (record { line = line; kind = kind }) due c.1)
    same_refused refusals.NotPublished c = absurd (never_absent (Same count bytes) due c)
    same_refused refusals.StoreFault c = absurd (no_outage (outage c))
    same_refused refusals.NoMemory c = inr refl

    same_ends : (cause : Cause) → Ends cause → Whole cause
    same_ends =
        judged Whole (λ n b said. inl refl) (λ n b said rose. absurd (taken rose)) (inr refl) (λ file at why said. absurd (not_wrong file at why said)) same_refused

  pub check_silent : (cause : Cause) → Ends cause → status_of cause ≢ 0 → status_of cause ≢ 9 → sink.new ≡ sink.old
  check_silent causes.Done m zero nine = absurd (zero refl)
  check_silent causes.SinkFault m zero nine = absurd (nine refl)
  check_silent (causes.NotSame file at why) m zero nine = m.1
  check_silent (causes.Header line kind) m zero nine = m.1
  check_silent (causes.NotPublished time) m zero nine = m.2
  check_silent causes.StoreFault m zero nine = m.1
  check_silent causes.NoMemory m zero nine = m
  check_silent _ m zero nine = absurd m

  -- what the cause says by the counts of the one reader that is used
  pub check_means_first : (counts : ReaderCounts) (cause : Cause) → counts ≡ reader_counts readers → CheckMeans step bay counts sink cause → Ends cause
  check_means_first counts cause same = subst (λ k. CheckMeans step bay k sink cause) same

  -- what was read by the counts of the one reader that is used
  pub same_first : (r : FirstReads) → r ≡ first_reads readers → LooksOnceAtSame step bay r → LooksOnceAtSame step bay (first_reads readers)
  same_first r same = subst (LooksOnceAtSame step bay) same

  pub wrong_first : (r : FirstReads) (verdict : Verdict) → r ≡ first_reads readers → LooksOnce bay r verdict → LooksOnce bay (first_reads readers) verdict
  wrong_first r verdict same = subst (λ x. LooksOnce bay x verdict) same

  pub check_ends : (cause : Cause) → Ends cause →
      ((status_of cause ≡ 0) ⊎ (status_of cause ≡ 9) → LooksOnceAtSame step bay (first_reads readers)) →
      ((file at : ℕ) (why : WrongKind) → cause ≡ causes.NotSame file at why → LooksOnce bay (first_reads readers) (Wrong file at why)) →
      (bay_before bay < bay_after bay → cause ≡ causes.StoreFault) →
      (reader_before readers < reader_after readers → cause ≡ causes.StoreFault) →
      (sink_before sink < sink_after sink → cause ≡ causes.SinkFault) → (IsUnreadCause cause → readers.new ≡ readers.old) →
      (status_of cause ≢ 5 → bay.failed bay.new ≡ bay.failed bay.old) →
      bay.header bay.new ≡ bay.header bay.old → bay.files bay.new ≡ bay.files bay.old →
      bay.begun bay.new ≡ bay.begun bay.old → bay.changes bay.new ≡ bay.changes bay.old →
      NeverFalls (bay_before bay) (bay_after bay) → MeetsOnce (bay_before bay) (bay_after bay) → OthersUntouched readers.old readers.new 0 →
      length readers.new ≡ length readers.old → NeverFalls (reader_before readers) (reader_after readers) → MeetsOnce (reader_before readers) (reader_after readers) →
      NeverFalls (sink_before sink) (sink_after sink) → MeetsOnce (sink_before sink) (sink_after sink) → CheckEnds step bay readers sink cause
  check_ends cause m pieces_same pieces_wrong store_answered reader_answered sink_answered unread unfailed header_same files_same begun changes bay_count bay_once others list reader_count reader_once sink_count sink_once =
      record {
        means = m;
        bad_header = λ bad. bad_ends bad cause m;
        absent = λ lacks. absent_ends lacks cause m;
        not_same = λ file at why due. wrong_ends file at why due cause m;
        bad_header_store = λ bad five. bad_store bad (store_cause cause m five);
        lacks_store = λ lacks five. lacks_first lacks (store_cause cause m five);
        complete = λ count bytes due bay_quiet quiet taken. same_ends count bytes due bay_quiet quiet taken cause m;
        pieces_same = pieces_same;
        pieces_wrong = pieces_wrong;
        store_answered = store_answered;
        reader_answered = reader_answered;
        sink_answered = sink_answered;
        store_outage = λ five. outage (store_cause cause m five);
        unfailed = unfailed;
        unread = unread;
        unchanged = record { header = header_same; files = files_same; begun = begun; changes = changes };
        bay_count = bay_count;
        bay_once = bay_once;
        others = others;
        reader_list = list;
        reader_count = reader_count;
        reader_once = reader_once;
        sink_count = sink_count;
        sink_once = sink_once;
      }
