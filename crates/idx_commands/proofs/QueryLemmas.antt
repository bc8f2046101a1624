-- What a run of `query` comes to where what it meets is known.
use Rattle.std.proofs.Common.{◌≡◌, ◌≢◌, ◌⊎◌, ℕ, ◌<◌, List, length, Option, Some, None, Err, IsErr, IfSome, IsSomeAnd, inl, inr, refl, sym, ◌∙◌, ap, subst}
use Rattle.std.proofs.lemmas.Bool.{false≢true}
use Rattle.idx_outside.specs.Cause.{MeetsOnce, NeverFalls, Rose}
use Rattle.idx_outside.specs.declared.bay_call.BayCall.TheVariants as calls
use Rattle.idx_outside.specs.Objects.{OthersUntouched, faults_at}
use Rattle.idx_outside.specs.declared.mem_file.MemFile.{MemFile}
use Rattle.idx_header.specs.declared.header_fault.HeaderFault.{HeaderFault}
use Rattle.idx_header.specs.Header.{HeaderValue}
use Rattle.idx_header.specs.HeaderOf.{header_of}
use Rattle.idx_plan.specs.Answer.{answer_of}
use Rattle.idx_plan.specs.Needed.{plan_fault}
use Rattle.idx_plan.specs.declared.ask.Ask.{Ask}
use Rattle.idx_plan.specs.declared.plan_fault.PlanFault.{PlanFault}
use Rattle.idx_plan.specs.declared.plan_fault.PlanFault.TheVariants as plans
use Rattle.idx_edition.specs.Newest.{HasBadTable}
use Rattle.idx_edition.specs.Stored.{IsAbsent, StandsAs, first_bad, stored_block}
use Rattle.idx_edition.proofs.NewestLemmas.{newest-not, newest-one}
use Rattle.idx_edition.specs.declared.load_fault.LoadFault.{LoadFault}
use Rattle.idx_edition.specs.declared.load_fault.LoadFault.TheVariants as loads
use Rattle.idx_table.specs.declared.table_fault.TableKind.{TableKind}
use Rattle.idx_plan.specs.QuestionValue.{QuestionValue}
use Rattle.idx_words.specs.QueryValue.{QueryValue}
use Rattle.idx_extract.specs.declared.extract_fault.ExtractFault.{ExtractFault}
use Rattle.idx_extract.specs.declared.extract_fault.ExtractFault.TheVariants as faults
use Rattle.idx_extract.specs.Extract.{Asks, Extracted, HasPlan, IsAnswer, IsAsk, IsExtracted, IsStop, LacksField, ReadsFew, Under}
use Rattle.idx_extract.specs.Stages.{fault_of_load}
use Rattle.idx_commands.specs.declared.causes.Cause.{Cause}
use Rattle.idx_commands.specs.declared.causes.Cause.TheVariants as causes
use Rattle.idx_commands.specs.Cause.{status_of}
use Rattle.idx_commands.specs.Seen.{BaySeen, ReaderCounts, ReadersSeen, SinkSeen, bay_after, bay_before, reader_after, reader_before, reader_counts, sink_after, sink_before}
use Rattle.idx_commands.specs.InfoRun.{HasBadHeader, KnownReads}
use Rattle.idx_commands.proofs.CauseLemmas.{store_fault_is}
use Rattle.idx_commands.proofs.KnownLemmas.{both_hold, not_refused, one_header}
use Rattle.idx_commands.specs.QueryRun.{AnswersStored, HasCause, HasSoundStep, IsBayOutage, IsDue, IsOfQuestion, IsReaderOutage, IsSound, IsUnreadCause, QueryEnds, QueryMeans, ReadsAs, cause_of_extract, known_of, question_of}

-- ---- what is known

-- the header that is known and the one that was read are one
pub both_of : {T : Type 0} (known : Option (List ℕ)) (P Q : HeaderValue → Type 0) → ReadsAs known P → Under known Q → ((h : HeaderValue) → P h → Q h → T) → T
both_of None P Q reads under make = absurd reads
both_of (Some text) P Q (g, (reads, p)) (h, (too, q)) make = make h (subst P (one_header text g h reads too) p) q

-- a text that is refused is not one that was read
pub not_bad : (known : Option (List ℕ)) (Q : HeaderValue → Type 0) → Under known Q → IsSomeAnd known (λ text. IsErr (header_of text)) → ⊥
not_bad None Q under bad = bad
not_bad (Some text) Q (h, (reads, q)) bad = false≢true (subst IsErr reads bad)

pub not_read : (known : Option (List ℕ)) (P : HeaderValue → Type 0) (fault : HeaderFault) → ReadsAs known P → IfSome known (λ text. header_of text ≡ Err fault) → ⊥
not_read None P fault reads refused = reads
not_read (Some text) P fault (h, (reads, p)) refused = not_refused text h fault reads refused

-- ---- one refusal alone

abbrev plan_in : Option PlanFault → PlanFault
plan_in (Some fault) = fault
plan_in None = plans.NoMemory

abbrev load_in : Option LoadFault → LoadFault
load_in (Some fault) = fault
load_in None = loads.NoMemory

pub some_not_none : {X : Type 0} (x : X) (o : Option X) → o ≡ Some x → o ≡ None → ⊥
some_not_none x o some none = let same = sym some ∙ none in cc

-- a step has one newest revision, and this one first faulty row or none
one_bad : (h : HeaderValue) (step : ℕ) (a b : LoadFault) (files : List MemFile) → HasBadTable h step files a → HasBadTable h step files b → Some a ≡ Some b
one_bad h step a b files (m, (stands, bad)) (n, (too, other)) =
    sym bad ∙ ap (λ (r : HeaderValue). first_bad r step files) (newest-one h m n step files stands too) ∙ other

sound_not_bad : (h m : HeaderValue) (step : ℕ) (bad : LoadFault) (files : List MemFile) → StandsAs h step files m → first_bad m step files ≡ None → HasBadTable h step files bad → ⊥
sound_not_bad h m step bad files stands sound (n, (too, is)) =
    some_not_none bad (first_bad n step files) is (ap (λ (r : HeaderValue). first_bad r step files) (newest-one h n m step files too stands) ∙ sound)

bad_not_absent : (h : HeaderValue) (step : ℕ) (bad : LoadFault) (files : List MemFile) → HasBadTable h step files bad → IsAbsent h step files → ⊥
bad_not_absent h step bad files (m, (stands, is)) absent = newest-not h m step files stands absent

module _ (h : HeaderValue) (q : QuestionValue) (files : Option (List MemFile)) where
  -- the words ask one thing
  one_ask : (a b : Ask) → IsAsk h q a → IsAsk h q b → a ≡ b
  one_ask a b first second =
      let field : a.field ≡ b.field = sym (first.only b.field second.field second.named) in
      first.same ∙ (λ i. record { time = q.time; field = field i; region = q.region; lo = q.lo; hi = q.hi }) ∙ sym second.same

  same_plan : (a b : Ask) → IsAsk h q a → IsAsk h q b → plan_fault h a ≡ plan_fault h b
  same_plan a b first second = ap (plan_fault h) (one_ask a b first second)

  other_axes : length q.region ≢ length h.box → (g : ExtractFault) → IsStop h q files g → g ≡ faults.OtherAxes
  other_axes d (faults.Header line kind) c = absurd c
  other_axes d faults.OtherAxes c = refl
  other_axes d faults.UnknownField c = absurd (d c.0)
  other_axes d (faults.Plan fault) c = absurd (d c.1.0.axes)
  other_axes d faults.NotPublished c = absurd (d c.0.1.0.axes)
  other_axes d (faults.BadTable file row kind) c = absurd (d c.0.1.0.axes)
  other_axes d faults.StoreFault c = absurd c
  other_axes d faults.NoMemory c = absurd c

  lacks_none : (ask : Ask) → IsAsk h q ask → LacksField h q → ⊥
  lacks_none ask asked lacks = lacks ask.field asked.field asked.named

  unknown_field : length q.region ≡ length h.box → LacksField h q → (g : ExtractFault) → IsStop h q files g → g ≡ faults.UnknownField
  unknown_field axes lacks (faults.Header line kind) c = absurd c
  unknown_field axes lacks faults.OtherAxes c = absurd (c axes)
  unknown_field axes lacks faults.UnknownField c = refl
  unknown_field axes lacks (faults.Plan fault) c = absurd (lacks_none c.0 c.1.0 lacks)
  unknown_field axes lacks faults.NotPublished c = absurd (lacks_none c.0.0 c.0.1.0 lacks)
  unknown_field axes lacks (faults.BadTable file row kind) c = absurd (lacks_none c.0.0 c.0.1.0 lacks)
  unknown_field axes lacks faults.StoreFault c = absurd c
  unknown_field axes lacks faults.NoMemory c = absurd c

  no_plan : (ask : Ask) → IsAsk h q ask → (fault : PlanFault) → plan_fault h ask ≡ Some fault → (g : ExtractFault) → IsStop h q files g → g ≡ faults.Plan fault
  no_plan ask asked fault is (faults.Header line kind) c = absurd c
  no_plan ask asked fault is faults.OtherAxes c = absurd (c asked.axes)
  no_plan ask asked fault is faults.UnknownField c = absurd (lacks_none ask asked c.1)
  no_plan ask asked fault is (faults.Plan other) c =
      ap (λ o. faults.Plan (plan_in o)) (sym c.1.1 ∙ same_plan c.0 ask c.1.0 asked ∙ is)
  no_plan ask asked fault is faults.NotPublished c =
      absurd (some_not_none fault (plan_fault h ask) is (same_plan ask c.0.0 asked c.0.1.0 ∙ c.0.1.1))
  no_plan ask asked fault is (faults.BadTable file row kind) c =
      absurd (some_not_none fault (plan_fault h ask) is (same_plan ask c.0.0 asked c.0.1.0 ∙ c.0.1.1))
  no_plan ask asked fault is faults.StoreFault c = absurd c
  no_plan ask asked fault is faults.NoMemory c = absurd c

  -- a question that has a plan is stopped by the step alone
  module _ (ask : Ask) (asked : IsAsk h q ask) (sound : plan_fault h ask ≡ None) where
    never_stopped : (fault : PlanFault) → (other : Ask) → IsAsk h q other → plan_fault h other ≡ Some fault → ⊥
    never_stopped fault other too is = some_not_none fault (plan_fault h other) is (same_plan other ask too asked ∙ sound)

    not_published : IsSomeAnd files (IsAbsent h q.time) → (g : ExtractFault) → IsStop h q files g → g ≡ faults.NotPublished
    not_published lacks (faults.Header line kind) c = absurd c
    not_published lacks faults.OtherAxes c = absurd (c asked.axes)
    not_published lacks faults.UnknownField c = absurd (lacks_none ask asked c.1)
    not_published lacks (faults.Plan fault) c = absurd (never_stopped fault c.0 c.1.0 c.1.1)
    not_published lacks faults.NotPublished c = refl
    not_published lacks (faults.BadTable file row kind) c =
        absurd (both_hold files (λ files. HasBadTable h q.time files (loads.BadTable file row kind)) (IsAbsent h q.time)
        (bad_not_absent h q.time (loads.BadTable file row kind)) c.1 lacks)
    not_published lacks faults.StoreFault c = absurd c
    not_published lacks faults.NoMemory c = absurd c

    bad_table : (file row : ℕ) (kind : TableKind) →
        IsSomeAnd files (λ files. HasBadTable h q.time files (loads.BadTable file row kind)) →
        (g : ExtractFault) → IsStop h q files g → g ≡ faults.BadTable file row kind
    bad_table file row kind bad (faults.Header line which) c = absurd c
    bad_table file row kind bad faults.OtherAxes c = absurd (c asked.axes)
    bad_table file row kind bad faults.UnknownField c = absurd (lacks_none ask asked c.1)
    bad_table file row kind bad (faults.Plan fault) c = absurd (never_stopped fault c.0 c.1.0 c.1.1)
    bad_table file row kind bad faults.NotPublished c =
        absurd (both_hold files (IsAbsent h q.time) (λ files. HasBadTable h q.time files (loads.BadTable file row kind))
        (λ files absent is. bad_not_absent h q.time (loads.BadTable file row kind) files is absent) c.1 bad)
    bad_table file row kind bad (faults.BadTable f r k) c =
        both_hold files (λ files. HasBadTable h q.time files (loads.BadTable f r k)) (λ files. HasBadTable h q.time files (loads.BadTable file row kind))
        (λ files mine yours. ap (λ o. fault_of_load (load_in o)) (one_bad h q.time (loads.BadTable f r k) (loads.BadTable file row kind) files mine yours)) c.1 bad
    bad_table file row kind bad faults.StoreFault c = absurd c
    bad_table file row kind bad faults.NoMemory c = absurd c

    never : IsSomeAnd files (IsSound h q.time) → (g : ExtractFault) → IsStop h q files g → ⊥
    never good (faults.Header line kind) c = c
    never good faults.OtherAxes c = c asked.axes
    never good faults.UnknownField c = lacks_none ask asked c.1
    never good (faults.Plan fault) c = never_stopped fault c.0 c.1.0 c.1.1
    never good faults.NotPublished c = both_hold files (IsAbsent h q.time) (IsSound h q.time) (λ files absent sound. newest-not h sound.0 q.time files sound.1.0 absent) c.1 good
    never good (faults.BadTable file row kind) c =
        both_hold files (λ files. HasBadTable h q.time files (loads.BadTable file row kind)) (IsSound h q.time)
        (λ files bad sound. sound_not_bad h sound.0 q.time (loads.BadTable file row kind) files sound.1.0 sound.1.1 bad) c.1 good
    never good faults.StoreFault c = c
    never good faults.NoMemory c = c

-- ---- what is written

-- the bytes of an answer are those that the committed files store, where these and the header are known
pub query_writes : (P : List ℕ → Type 0) (q : QueryValue) (header : Option (List ℕ)) (files : Option (List MemFile)) (before after : ℕ) (bytes : List ℕ) →
    Extracted (question_of q) header files before after bytes → P bytes →
    KnownReads header (λ h. Asks (question_of q) h (λ ask. IfSome files (AnswersStored h ask q.time P)))
query_writes P q None files before after bytes u holds = tt
query_writes P q (Some text) files before after bytes (h, (reads, e)) holds = (h, (reads, (e.ask, (e.asked, at files e.stored))))
  where
    time : e.ask.time ≡ q.time
    time = ap (λ (a : Ask). a.time) e.asked.same

    at : (known : Option (List MemFile)) → IfSome known (λ files. IsAnswer h e.ask files before after bytes) →
        IfSome known (AnswersStored h e.ask q.time P)
    at None is = tt
    at (Some files) is = (
      is.revised,
      (subst (λ t. StandsAs h t files is.revised) time is.stands, subst P (is.answer ∙ ap (λ t. answer_of h e.ask (stored_block is.revised t files)) time) holds),
    )

-- ---- the run

module _ {B R K : Type 0} (q : QueryValue) (bay : BaySeen B) (readers : ReadersSeen R) (sink : SinkSeen K) where
  abbrev header : Option (List ℕ)
  header = bay.header bay.old

  abbrev files : Option (List MemFile)
  files = bay.files bay.old

  abbrev reads_before : ℕ
  reads_before = faults_at readers.reads readers.old 0

  abbrev reads_after : ℕ
  reads_after = faults_at readers.reads readers.new 0

  abbrev C : ExtractFault → Type 0
  C fault = HasCause q bay (reader_counts readers) fault

  abbrev Answered : List ℕ → Type 0
  Answered bytes = Extracted (question_of q) header files reads_before reads_after bytes

  abbrev Ends : Cause → Type 0
  Ends cause = QueryMeans q bay (reader_counts readers) sink cause

  -- this is so of the cause where it is so of an answer, of want of memory, and of each fault
  judged : (P : Cause → Type 0) → ((bytes : List ℕ) → Answered bytes → P causes.Done) →
      ((bytes : List ℕ) → Answered bytes → Rose (sink_before sink) (sink_after sink) → P causes.SinkFault) → P causes.NoMemory →
      ((fault : ExtractFault) → C fault → P (cause_of_extract q.time fault)) → (cause : Cause) → Ends cause → P cause
  judged P done taken starved failed causes.Done ends = done ends.0 ends.1.0
  judged P done taken starved failed causes.SinkFault ends = taken ends.1.0 ends.1.1.0 ends.0
  judged P done taken starved failed (causes.Header line kind) ends = failed (faults.Header line kind) ends.0
  judged P done taken starved failed causes.OtherAxes ends = failed faults.OtherAxes ends.0
  judged P done taken starved failed causes.UnknownField ends = failed faults.UnknownField ends.0
  judged P done taken starved failed (causes.OutsideVolume axis) ends = failed (faults.Plan (plans.OutsideVolume axis)) ends.0
  judged P done taken starved failed (causes.BadLevels lo hi max) ends = failed (faults.Plan (plans.BadLevels lo hi max)) ends.0
  judged P done taken starved failed (causes.TooLarge bytes) ends = failed (faults.Plan (plans.TooLarge bytes)) ends.0
  judged P done taken starved failed (causes.NotPublished time) (is, c, same) =
      subst (λ t. P (causes.NotPublished t)) (sym is) (failed faults.NotPublished c)
  judged P done taken starved failed (causes.BadTable file row kind) ends = failed (faults.BadTable file row kind) ends.0
  judged P done taken starved failed causes.StoreFault ends = failed faults.StoreFault ends.0
  judged P done taken starved failed causes.NoMemory ends = starved
  judged P done taken starved failed _ ends = absurd ends

  -- a header that reads is not refused
  due_reads : (fault : ExtractFault) → IsDue q header files fault → (wrong : HeaderFault) → IfSome header (λ text. header_of text ≡ Err wrong) → ⊥
  due_reads (faults.Header line kind) d wrong refused = not_read header _ wrong d refused
  due_reads faults.OtherAxes d wrong refused = not_read header _ wrong d refused
  due_reads faults.UnknownField d wrong refused = not_read header _ wrong d refused
  due_reads (faults.Plan fault) d wrong refused = not_read header _ wrong d refused
  due_reads faults.NotPublished d wrong refused = not_read header _ wrong d refused
  due_reads (faults.BadTable file row kind) d wrong refused = not_read header _ wrong d refused
  due_reads faults.StoreFault d wrong refused = not_read header _ wrong d refused
  due_reads faults.NoMemory d wrong refused = not_read header _ wrong d refused

  -- what is due is what stops
  due_stops : (fault : ExtractFault) → IsDue q header files fault → (g : ExtractFault) → Under header (λ h. IsStop h (question_of q) files g) → g ≡ fault
  due_stops (faults.Header line kind) d g u = both_of header _ _ d u (λ h p c. absurd p)
  due_stops faults.OtherAxes d g u = both_of header _ _ d u (λ h p c. other_axes h (question_of q) files p g c)
  due_stops faults.UnknownField d g u = both_of header _ _ d u (λ h p c. unknown_field h (question_of q) files p.0 p.1 g c)
  due_stops (faults.Plan fault) d g u = both_of header _ _ d u (λ h p c. no_plan h (question_of q) files p.0 p.1.0 fault p.1.1 g c)
  due_stops faults.NotPublished d g u = both_of header _ _ d u (λ h p c. not_published h (question_of q) files p.0.0 p.0.1.0 p.0.1.1 p.1 g c)
  due_stops (faults.BadTable file row kind) d g u =
      both_of header _ _ d u (λ h p c. bad_table h (question_of q) files p.0.0 p.0.1.0 p.0.1.1 file row kind p.1 g c)
  due_stops faults.StoreFault d g u = both_of header _ _ d u (λ h p c. absurd p)
  due_stops faults.NoMemory d g u = both_of header _ _ d u (λ h p c. absurd p)

  -- where a refusal is due there is no answer
  time_of : (h : HeaderValue) (bytes : List ℕ) → (e : IsExtracted h (question_of q) files reads_before reads_after bytes) → e.ask.time ≡ q.time
  time_of h bytes e = ap (λ (a : Ask). a.time) e.asked.same

  due_unanswered : (fault : ExtractFault) → IsDue q header files fault → (bytes : List ℕ) → Answered bytes → ⊥
  due_unanswered (faults.Header line kind) d bytes u = both_of header _ _ d u (λ h p e. p)
  due_unanswered faults.OtherAxes d bytes u = both_of header _ _ d u (λ h p e. p e.asked.axes)
  due_unanswered faults.UnknownField d bytes u = both_of header _ _ d u (λ h p e. lacks_none h (question_of q) files e.ask e.asked p.1)
  due_unanswered (faults.Plan fault) d bytes u =
      both_of header _ _ d u (λ h p e. some_not_none fault (plan_fault h p.0) p.1.1 (same_plan h (question_of q) files p.0 e.ask p.1.0 e.asked ∙ e.sound))
  due_unanswered faults.NotPublished d bytes u =
      both_of header _ _ d u (λ h p e. both_hold files (λ files. IsAnswer h e.ask files reads_before reads_after bytes) _
      (λ files answer absent. newest-not h answer.revised q.time files (subst (λ t. StandsAs h t files answer.revised) (time_of h bytes e) answer.stands) absent) e.stored p.1)
  due_unanswered (faults.BadTable file row kind) d bytes u =
      both_of header _ _ d u (λ h p e. both_hold files (λ files. IsAnswer h e.ask files reads_before reads_after bytes) _
      (λ files answer bad. sound_not_bad h answer.revised q.time (loads.BadTable file row kind) files
      (subst (λ t. StandsAs h t files answer.revised) (time_of h bytes e) answer.stands)
      (subst (λ t. first_bad answer.revised t files ≡ None) (time_of h bytes e) answer.tables) bad) e.stored p.1)
  due_unanswered faults.StoreFault d bytes u = both_of header _ _ d u (λ h p e. p)
  due_unanswered faults.NoMemory d bytes u = both_of header _ _ d u (λ h p e. p)

  abbrev Comes : ExtractFault → Cause → Type 0
  Comes fault cause = (cause ≡ cause_of_extract q.time fault) ⊎ ((status_of cause ≡ 5) ⊎ (status_of cause ≡ 11))

  module _ (fault : ExtractFault) (d : IsDue q header files fault) where
    comes : (g : ExtractFault) → C g → Comes fault (cause_of_extract q.time g)
    comes (faults.Header line kind) c = absurd (due_reads fault d (record { line = line; kind = kind }) c.1)
    comes faults.OtherAxes c = inl (ap (cause_of_extract q.time) (due_stops fault d faults.OtherAxes c))
    comes faults.UnknownField c = inl (ap (cause_of_extract q.time) (due_stops fault d faults.UnknownField c))
    comes (faults.Plan other) c = inl (ap (cause_of_extract q.time) (due_stops fault d (faults.Plan other) c))
    comes faults.NotPublished c = inl (ap (cause_of_extract q.time) (due_stops fault d faults.NotPublished c))
    comes (faults.BadTable file row kind) c = inl (ap (cause_of_extract q.time) (due_stops fault d (faults.BadTable file row kind) c))
    comes faults.StoreFault c = inr (inl refl)
    comes faults.NoMemory c = inr (inr refl)

    due_ends : (cause : Cause) → Ends cause → Comes fault cause
    due_ends =
        judged (Comes fault) (λ bytes u. absurd (due_unanswered fault d bytes u)) (λ bytes u rose. absurd (due_unanswered fault d bytes u)) (inr (inr refl)) comes

  -- a header that is refused
  module _ (bad : HasBadHeader header) where
    abbrev Bad : Cause → Type 0
    Bad cause = (status_of cause ≡ 2) ⊎ ((status_of cause ≡ 5) ⊎ (status_of cause ≡ 11))

    refused : (g : ExtractFault) → C g → Bad (cause_of_extract q.time g)
    refused (faults.Header line kind) c = inl refl
    refused faults.OtherAxes c = absurd (not_bad header _ c bad)
    refused faults.UnknownField c = absurd (not_bad header _ c bad)
    refused (faults.Plan other) c = absurd (not_bad header _ c bad)
    refused faults.NotPublished c = absurd (not_bad header _ c bad)
    refused (faults.BadTable file row kind) c = absurd (not_bad header _ c bad)
    refused faults.StoreFault c = inr (inl refl)
    refused faults.NoMemory c = inr (inr refl)

    bad_question : (cause : Cause) → Ends cause → Bad cause
    bad_question =
        judged Bad (λ bytes u. absurd (not_bad header _ u bad)) (λ bytes u rose. absurd (not_bad header _ u bad)) (inr (inr refl)) refused

  -- a fault of the store
  outage : C faults.StoreFault → IsBayOutage bay ⊎ IsReaderOutage bay readers
  outage (inl asked) = inl (record { rose = asked.rose; call = inl asked.call })
  outage (inr (h, (reads, (plan, inl asked)))) = inl (record { rose = asked.rose; call = inr asked.call })
  outage (inr (h, (reads, (plan, inr read)))) = inr (record { rose = read.rose; count = read.bay.count; call = read.bay.failed })

  store_cause : (cause : Cause) → Ends cause → status_of cause ≡ 5 → C faults.StoreFault
  store_cause cause m five =
      let store : Ends causes.StoreFault = subst Ends (store_fault_is cause five) m in store.0

  -- before a question was accepted the bay was asked for the header alone
  asked_first : C faults.StoreFault → (Under header (HasPlan (question_of q)) → ⊥) → bay.failed bay.new ≡ Some calls.Header
  asked_first (inl asked) none = asked.call
  asked_first (inr (h, (reads, (plan, other)))) none = absurd (none (h, (reads, plan)))

  never_plans : (fault : ExtractFault) → IsDue q header files fault → IsOfQuestion fault → Under header (HasPlan (question_of q)) → ⊥
  never_plans (faults.Header line kind) d of u = absurd of
  never_plans faults.OtherAxes d of u = both_of header _ _ d u (λ h p plan. p plan.1.0.axes)
  never_plans faults.UnknownField d of u = both_of header _ _ d u (λ h p plan. lacks_none h (question_of q) files plan.0 plan.1.0 p.1)
  never_plans (faults.Plan fault) d of u =
      both_of header _ _ d u (λ h p plan. some_not_none fault (plan_fault h p.0) p.1.1 (same_plan h (question_of q) files p.0 plan.0 p.1.0 plan.1.0 ∙ plan.1.1))
  never_plans faults.NotPublished d of u = absurd of
  never_plans (faults.BadTable file row kind) d of u = absurd of
  never_plans faults.StoreFault d of u = absurd of
  never_plans faults.NoMemory d of u = absurd of

  -- nothing is due, and no fault was counted
  module _ (sound : HasSoundStep q header files) (bay_quiet : ¬ Rose (bay_before bay) (bay_after bay)) (quiet : ¬ Rose (reader_before readers) (reader_after readers)) (taken : ¬ Rose (sink_before sink) (sink_after sink)) where
    abbrev Whole : Cause → Type 0
    Whole cause = (status_of cause ≡ 0) ⊎ (status_of cause ≡ 11)

    goes_on : (g : ExtractFault) → Under header (λ h. IsStop h (question_of q) files g) → ⊥
    goes_on g u = both_of header _ _ sound u (λ h p c. never h (question_of q) files p.0.0 p.0.1.0 p.0.1.1 p.1 g c)

    no_outage : C faults.StoreFault → ⊥
    no_outage (inl asked) = bay_quiet asked.rose
    no_outage (inr (h, (reads, (plan, inl asked)))) = bay_quiet asked.rose
    no_outage (inr (h, (reads, (plan, inr read)))) = quiet read.rose

    completes : (g : ExtractFault) → C g → Whole (cause_of_extract q.time g)
    completes (faults.Header line kind) c = absurd (not_read header _ (record { line = line; kind = kind }) sound c.1)
    completes faults.OtherAxes c = absurd (goes_on faults.OtherAxes c)
    completes faults.UnknownField c = absurd (goes_on faults.UnknownField c)
    completes (faults.Plan other) c = absurd (goes_on (faults.Plan other) c)
    completes faults.NotPublished c = absurd (goes_on faults.NotPublished c)
    completes (faults.BadTable file row kind) c = absurd (goes_on (faults.BadTable file row kind) c)
    completes faults.StoreFault c = absurd (no_outage c)
    completes faults.NoMemory c = inr refl

    sound_ends : (cause : Cause) → Ends cause → Whole cause
    sound_ends = judged Whole (λ bytes u. inl refl) (λ bytes u rose. absurd (taken rose)) (inr refl) completes

  pub query_silent : (cause : Cause) → Ends cause → status_of cause ≢ 0 → status_of cause ≢ 9 → sink.new ≡ sink.old
  query_silent causes.Done m zero nine = absurd (zero refl)
  query_silent causes.SinkFault m zero nine = absurd (nine refl)
  query_silent (causes.NotPublished time) m zero nine = m.2
  query_silent causes.NoMemory m zero nine = m
  query_silent (causes.Header line kind) m zero nine = m.1
  query_silent causes.OtherAxes m zero nine = m.1
  query_silent causes.UnknownField m zero nine = m.1
  query_silent (causes.OutsideVolume axis) m zero nine = m.1
  query_silent (causes.BadLevels lo hi max) m zero nine = m.1
  query_silent (causes.TooLarge bytes) m zero nine = m.1
  query_silent (causes.BadTable file row kind) m zero nine = m.1
  query_silent causes.StoreFault m zero nine = m.1
  query_silent _ m zero nine = absurd m

  -- what the cause says by the counts of the one reader that is used
  pub means_of_first : (counts : ReaderCounts) (cause : Cause) → counts.faults_before ≡ reader_before readers →
      counts.faults_after ≡ reader_after readers → counts.reads_before ≡ reads_before → counts.reads_after ≡ reads_after →
      QueryMeans q bay counts sink cause → Ends cause
  means_of_first counts cause a b d e =
      subst (λ k. QueryMeans q bay k sink cause)
      (λ i. record { faults_before = a i; faults_after = b i; reads_before = d i; reads_after = e i })

  pub count_of_first : (before after : ℕ) → before ≡ reader_before readers → after ≡ reader_after readers → NeverFalls before after →
      NeverFalls (reader_before readers) (reader_after readers)
  count_of_first before after a b rises =
      subst (λ n. NeverFalls (reader_before readers) n) b (subst (λ n. NeverFalls n after) a rises)

  pub once_of_first : (before after : ℕ) → before ≡ reader_before readers → after ≡ reader_after readers → MeetsOnce before after →
      MeetsOnce (reader_before readers) (reader_after readers)
  once_of_first before after a b once =
      subst (λ n. MeetsOnce (reader_before readers) n) b (subst (λ n. MeetsOnce n after) a once)

  pub few_of_first : (counts : ReaderCounts) → counts.faults_before ≡ reader_before readers →
      counts.faults_after ≡ reader_after readers → counts.reads_before ≡ reads_before → counts.reads_after ≡ reads_after →
      ReadsFew (question_of q) (known_of bay counts) → ReadsFew (question_of q) (known_of bay (reader_counts readers))
  few_of_first counts a b d e =
      subst (λ k. ReadsFew (question_of q) (known_of bay k))
      (λ i. record { faults_before = a i; faults_after = b i; reads_before = d i; reads_after = e i })

  pub query_ends : (cause : Cause) → Ends cause →
      (bay_before bay < bay_after bay → cause ≡ causes.StoreFault) →
      (reader_before readers < reader_after readers → cause ≡ causes.StoreFault) →
      (sink_before sink < sink_after sink → cause ≡ causes.SinkFault) → (IsUnreadCause cause → readers.new ≡ readers.old) →
      (status_of cause ≢ 5 → bay.failed bay.new ≡ bay.failed bay.old) →
      (status_of cause ≢ 0 → status_of cause ≢ 9 → ReadsFew (question_of q) (known_of bay (reader_counts readers))) →
      bay.header bay.new ≡ bay.header bay.old → bay.files bay.new ≡ bay.files bay.old →
      bay.begun bay.new ≡ bay.begun bay.old → bay.changes bay.new ≡ bay.changes bay.old →
      NeverFalls (bay_before bay) (bay_after bay) → MeetsOnce (bay_before bay) (bay_after bay) → OthersUntouched readers.old readers.new 0 →
      length readers.new ≡ length readers.old → NeverFalls (reader_before readers) (reader_after readers) → MeetsOnce (reader_before readers) (reader_after readers) →
      NeverFalls (sink_before sink) (sink_after sink) → MeetsOnce (sink_before sink) (sink_after sink) → QueryEnds q bay readers sink cause
  query_ends cause m store_answered reader_answered sink_answered unread unfailed few header_same files_same begun changes bay_count bay_once others list reader_count reader_once sink_count sink_once =
      record {
        means = m;
        bad_header = λ bad. bad_question bad cause m;
        due = λ fault d. due_ends fault d cause m;
        bad_header_store = λ bad five. asked_first (store_cause cause m five) (λ u. not_bad header _ u bad);
        due_store = λ fault d of five. asked_first (store_cause cause m five) (never_plans fault d of);
        complete = λ sound bay_quiet quiet taken. sound_ends sound bay_quiet quiet taken cause m;
        store_answered = store_answered;
        reader_answered = reader_answered;
        sink_answered = sink_answered;
        store_outage = λ five. outage (store_cause cause m five);
        unfailed = unfailed;
        unread = unread;
        few_reads = few;
        unchanged = record { header = header_same; files = files_same; begun = begun; changes = changes };
        bay_count = bay_count;
        bay_once = bay_once;
        others = others;
        reader_list = list;
        reader_count = reader_count;
        reader_once = reader_once;
        sink_count = sink_count;
        sink_once = sink_once;
      }
