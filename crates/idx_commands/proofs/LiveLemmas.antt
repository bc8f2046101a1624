-- What a run of `serve` comes to that publishes a step meanwhile.
use Rattle.std.proofs.Common.{◌≡◌, ◌≢◌, ◌⊎◌, ℕ, ◌<◌, ◌≤◌, List, ◌++◌, length, map, min, take, drop, slice_index, Option, Result, Err, Some, None, IfSome, IsSome, IsSomeAnd, inl, inr, refl, sym, ◌∙◌, ap, subst, arith}
use Rattle.std.proofs.lemmas.Bool.{cases_lt, false≢true}
use Rattle.std.proofs.lemmas.List.{get_or-append_right, get_or_append_left, length-append, length-map, length-take-le, map-append, take-append-drop}
use Rattle.idx_outside.specs.Cause.{MeetsOnce, NeverFalls, Rose}
use Rattle.idx_outside.specs.Counts.{EachMeetsOnce}
use Rattle.idx_outside.specs.Contents.{appended, AppendsPrefix}
use Rattle.idx_outside.specs.Objects.{SameContents, faults_at}
use Rattle.idx_outside.specs.declared.mem_file.MemFile.{MemFile}
use Rattle.idx_seal.specs.Rows.{MeetsOnceOrRow}
use Rattle.idx_header.specs.Header.{HeaderValue, volume_bytes}
use Rattle.idx_header.specs.Revisions.{header_to_write}
use Rattle.idx_table.specs.declared.table_fault.TableKind.{TableKind}
use Rattle.idx_edition.specs.declared.load_fault.LoadFault.{LoadFault}
use Rattle.idx_edition.specs.declared.load_fault.LoadFault.TheVariants as loads
use Rattle.idx_gather.specs.Gather.{HasFolder, NoneFalls, too_large}
use Rattle.idx_gather.specs.declared.gather_fault.GatherFault.TheVariants as gathers
use Rattle.idx_convert.specs.Counts.{SomeHigher, SomeRose}
use Rattle.idx_convert.proofs.FirstLemmas.{Parted, contents_first, idle_all, none_falls_all}
use Rattle.idx_convert.proofs.StageLemmas.{none_higher}
use Rattle.idx_extract.specs.Extract.{Under}
use Rattle.idx_serve.specs.declared.door.ServeEnd.TheVariants as ends
use Rattle.idx_workers.specs.Workers.{Tells}
use Rattle.idx_ingest.specs.declared.ingest_end.IngestEnd.{IngestEnd}
use Rattle.idx_ingest.specs.declared.ingest_end.IngestEnd.TheVariants as ingests
use Rattle.idx_ingest.specs.Ingested.{IsIngested, Known as IngestKnown, known as known_of_ingest}
use Rattle.idx_hall.specs.Posts.{Post}
use Rattle.idx_board.specs.Standing.{first_bad_row}
use Rattle.idx_live.specs.Live.{IsBayFault, IsCause, IsLive, IsReaderFault, IsReady, MayWrite, OnlyLoads, OnlyLooks, OnlyMeasures}
use Rattle.idx_live.specs.declared.live_end.Live.{Live}
use Rattle.idx_live.specs.declared.live_fault.LiveFault.{LiveFault}
use Rattle.idx_live.specs.declared.live_fault.LiveFault.TheVariants as faults
use Rattle.idx_words.specs.ServeValue.{IngestValue, ServeValue}
use Rattle.idx_commands.specs.declared.causes.Cause.{Cause}
use Rattle.idx_commands.specs.declared.causes.Cause.TheVariants as causes
use Rattle.idx_commands.specs.Cause.{status_of}
use Rattle.idx_commands.specs.InfoRun.{HasBadHeader}
use Rattle.idx_commands.specs.Known.{Known, known}
use Rattle.idx_commands.specs.QueryRun.{ReadsAs}
use Rattle.idx_commands.specs.Seen.{BaySeen, DoorsSeen, RawsSeen, ReadersSeen, SinkSeen, bay_after, bay_before, doors_after, doors_before, raw_bytes, raws_after, raws_before, reader_after, reader_before, readers_after, readers_before, sink_after, sink_before}
use Rattle.idx_commands.specs.SiteName.{site_name}
use Rattle.idx_commands.specs.Totals.{totals}
use Rattle.idx_commands.specs.LiveRun.{Concludes, HasLive, IsLeftFor, IsThisOrMet, LiveEnds, LiveMeans, MayWriteAnd, Stops, Uses, cause_of_live, seen_of}
use Rattle.idx_commands.proofs.CauseLemmas.{door_fault_is, raw_fault_is, sink_fault_is, store_fault_is}
use Rattle.idx_commands.proofs.HostedLemmas.{Left, door_of_fault, doors_of_done, left_before, left_hosted, not_loaded, not_opened, others_same}
use Rattle.idx_commands.proofs.OnceLemmas.{each_once_all, once_or_row_same}
use Rattle.idx_commands.proofs.KnownLemmas.{both_hold}
use Rattle.idx_commands.proofs.QueryLemmas.{both_of, not_bad, not_read, some_not_none}

-- what the row of a table is answered as, and the bytes of a step
abbrev row_cause : Option LoadFault → Cause
row_cause (Some (loads.BadTable file row kind)) = causes.BadTable file row kind
row_cause other = causes.NoMemory

abbrev size_cause : Option ℕ → Cause
size_cause (Some bytes) = causes.TooLarge bytes
size_cause None = causes.NoMemory

some_or_none : {X : Type 0} (o : Option X) → IsSome o → o ≡ None → ⊥
some_or_none None some none = false≢true some
some_or_none (Some x) some none = cc

one_fault : {T : Type 0} (result : Result T LiveFault) (a b : LiveFault) → result ≡ Err a → result ≡ Err b → a ≡ b
one_fault result a b first second = let same = sym first ∙ second in cc

-- of what is known both things hold, and so each
one_part : {X : Type 0} (o : Option X) (P Q : X → Type 0) → IsSomeAnd o (λ x. P x × Q x) → IsSomeAnd o P
one_part None P Q both = both
one_part (Some x) P Q both = both.0

other_part : {X : Type 0} (o : Option X) (P Q : X → Type 0) → IsSomeAnd o (λ x. P x × Q x) → IsSomeAnd o Q
other_part None P Q both = both
other_part (Some x) P Q both = both.1

-- want of memory is not a refusal of the step
pub no_starved_refusal : {V L D R : Type 0} {tell : Tells L D R} {h : HeaderValue} {name : List ℕ} {time : ℕ} {k : Known} {cache workers : ℕ} {raws_old raws_new : List V} {doors_old doors_new : List D}
    {readers_old readers_new : List R} {live : Live} → IsLive tell h name time k cache workers raws_old raws_new doors_old doors_new readers_old readers_new live → live.ingested ≢ ingests.Refused gathers.NoMemory
no_starved_refusal {time = time} {k = k} is refused =
    (subst (λ end. IsIngested is.written time (known_of_ingest k.raw k.raw_before k.raw_after k.files k.files_after k.bay_before k.bay_after) is.posts is.last end) refused is.ingested).3 refl

module _ {V B R K D L : Type 0} (v : ServeValue) (i : IngestValue) (raws : RawsSeen V) (bay : BaySeen B) (readers : ReadersSeen R) (sink : SinkSeen K) (doors : DoorsSeen D L) where
  abbrev header : Option (List ℕ)
  header = bay.header bay.old

  abbrev files : Option (List MemFile)
  files = bay.files bay.old

  abbrev raw : Option (List ℕ)
  raw = raw_bytes raws

  abbrev Means : Cause → Type 0
  Means cause = LiveMeans v i raws bay readers sink doors cause

  abbrev Stop : LiveFault → Type 0
  Stop fault = Stops v i raws bay readers sink doors fault

  abbrev Met : (Live → Type 0) → Type 0
  Met P = HasLive v i raws bay readers sink doors P

  any_met : (P : Live → Type 0) → Met P → Met (λ l. Unit {0})
  any_met P (l, under, p) = (l, under, tt)

  -- what was so before the first link
  ready : (P : Live → Type 0) → Met P → Under header (λ h. IsReady h i.step (known raws bay) × IfSome files (λ files. first_bad_row h files ≡ None))
  ready P (l, (h, (text, live)), p) = (h, (text, (live.ready, live.hosted.sound)))

  -- what the call that serves and gathers refuses
  pub stops_of : {T : Type 0} (admits : B → List ℕ → Type 0) (result : Result T LiveFault) (fault : LiveFault) → result ≡ Err fault →
      IsCause i.step (known raws bay) (reader_before readers) (reader_after readers) fault → doors.new ≡ doors.old → OnlyLoads readers.faults readers.old readers.new result →
      OnlyMeasures raws.contents raws.asked raws.faults raws.old raws.new result →
      OnlyLooks bay.header bay.files bay.begun bay.changes bay.failed admits bay.faults bay.old bay.new result → sink.new ≡ sink.old → Stop fault
  stops_of admits result fault is cause unopened reads measures looks silent = record {
    cause = cause;
    before = record { unopened = unopened; others = reads.others; reader_list = reads.number; reader_count = reads.count; reader_once = reads.once; silent = silent };
    files = looks.files_same;
    begun = looks.begun_same;
    unasked = measures.unasked;
    behind = measures.behind;
    reader_quiet = λ other. reads.quiet (λ e. other (one_fault result fault faults.StoreFault is e));
    raws_quiet = λ other. measures.quiet (λ e. other (one_fault result fault faults.RawFault is e));
    bay_quiet = λ other. looks.quiet (λ e. other (one_fault result fault faults.StoreFault is e));
    unchanged = λ other. looks.unchanged (λ e. other (one_fault result fault faults.StoreFault is e));
  }

  -- ---- each refusal comes where it is due

  abbrev IsBad : Cause → Type 0
  IsBad cause = (status_of cause ≡ 2) ⊎ ((status_of cause ≡ 5) ⊎ (status_of cause ≡ 11))

  bad_stop : HasBadHeader header → (fault : LiveFault) → Stop fault → IsBad (cause_of_live i.step fault)
  bad_stop bad (faults.Header line kind) m = inl refl
  bad_stop bad faults.NoStep m = absurd (not_bad header _ m.cause bad)
  bad_stop bad (faults.TooLarge bytes) m = absurd (not_bad header _ m.cause bad)
  bad_stop bad faults.AlreadyPublished m = absurd (not_bad header _ m.cause bad)
  bad_stop bad (faults.RawWrongSize want found) m = absurd (not_bad header _ m.cause bad)
  bad_stop bad faults.RawFault m = absurd (not_bad header _ m.cause bad)
  bad_stop bad (faults.BadTable file row kind) m = absurd (not_bad header _ m.cause bad)
  bad_stop bad faults.StoreFault m = inr (inl refl)
  bad_stop bad faults.NoMemory m = inr (inr refl)

  bad_text : HasBadHeader header → (cause : Cause) → Means cause → IsBad cause
  bad_text bad cause (inl (fault, (is, m))) = subst IsBad (sym is) (bad_stop bad fault m)
  bad_text bad cause (inr met) = absurd (not_bad header _ (ready _ met) bad)

  -- The answer is this one, or a fault, or want of memory, where a header is read of which P holds, and what each other answer says of
  -- the header is not so.
  module _ (this : Cause) (P : HeaderValue → Type 0) (due : ReadsAs header P)
      (not_ready : (h : HeaderValue) → P h → IsReady h i.step (known raws bay) → IfSome files (λ files. first_bad_row h files ≡ None) → ⊥)
      (if_no_step : (h : HeaderValue) → P h → ¬ HasFolder h i.step → IsThisOrMet this (causes.NoStep i.step))
      (if_too_large : (bytes : ℕ) (h : HeaderValue) → P h → HasFolder h i.step → too_large h ≡ Some bytes → IsThisOrMet this (causes.TooLarge bytes))
      (if_published : (h : HeaderValue) → P h → MayWrite h i.step → IfSome files (λ files. header_to_write h i.step files ≡ None) →
      IsThisOrMet this (causes.AlreadyPublished i.step))
      (if_other_length : (want found : ℕ) (h : HeaderValue) → P h → MayWrite h i.step → IfSome files (λ files. IsSome (header_to_write h i.step files)) → want ≡ volume_bytes h →
      found ≢ want → IfSome raw (λ bytes. found ≡ length bytes) → IsThisOrMet this (causes.RawWrongSize want found))
      (if_bad_row : (file row : ℕ) (kind : TableKind) (h : HeaderValue) → P h → IsReady h i.step (known raws bay) →
      IfSome files (λ files. first_bad_row h files ≡ Some (loads.BadTable file row kind)) → IsThisOrMet this (causes.BadTable file row kind)) where
    of_stop : (fault : LiveFault) → Stop fault → IsThisOrMet this (cause_of_live i.step fault)
    of_stop (faults.Header line kind) m = absurd (not_read header _ (record { line = line; kind = kind }) due m.cause.1)
    of_stop faults.NoStep m = both_of header P _ due m.cause (λ h p q. if_no_step h p q)
    of_stop (faults.TooLarge bytes) m = both_of header P _ due m.cause (λ h p q. if_too_large bytes h p q.0 q.1)
    of_stop faults.AlreadyPublished m = both_of header P _ due m.cause (λ h p q. if_published h p q.0 q.1)
    of_stop (faults.RawWrongSize want found) m = both_of header P _ due m.cause (λ h p q. if_other_length want found h p q.0 q.1 q.2 q.3 q.4)
    of_stop faults.RawFault m = inr (inl refl)
    of_stop (faults.BadTable file row kind) m = both_of header P _ due m.cause (λ h p q. if_bad_row file row kind h p q.0 q.1)
    of_stop faults.StoreFault m = inr (inr (inl refl))
    of_stop faults.NoMemory m = inr (inr (inr refl))

    comes : (cause : Cause) → Means cause → IsThisOrMet this cause
    comes cause (inl (fault, (is, m))) = subst (IsThisOrMet this) (sym is) (of_stop fault m)
    comes cause (inr met) = absurd (both_of header P _ due (ready _ met) (λ h p both. not_ready h p both.0 both.1))

  -- the header lacks the step
  due_no_step : ReadsAs header (λ h. ¬ HasFolder h i.step) → (cause : Cause) → Means cause → IsThisOrMet (causes.NoStep i.step) cause
  due_no_step due =
      comes (causes.NoStep i.step) (λ h. ¬ HasFolder h i.step) due
      (λ h p r sound. p r.may_write.folder)
      (λ h p lacks. inl refl)
      (λ bytes h p folder large. absurd (p folder))
      (λ h p may none. absurd (p may.folder))
      (λ want found h p may left is differ known. absurd (p may.folder))
      (λ file row kind h p r bad. absurd (p r.may_write.folder))

  -- the step is too large to write
  due_too_large : (bytes : ℕ) → ReadsAs header (λ h. HasFolder h i.step × (too_large h ≡ Some bytes)) → (cause : Cause) → Means cause →
      IsThisOrMet (causes.TooLarge bytes) cause
  due_too_large bytes due =
      comes (causes.TooLarge bytes) (λ h. HasFolder h i.step × (too_large h ≡ Some bytes)) due
      (λ h p r sound. some_not_none bytes (too_large h) p.1 r.may_write.small)
      (λ h p lacks. absurd (lacks p.0))
      (λ other h p folder large. inl (ap size_cause (sym large ∙ p.1)))
      (λ h p may none. absurd (some_not_none bytes (too_large h) p.1 may.small))
      (λ want found h p may left is differ known. absurd (some_not_none bytes (too_large h) p.1 may.small))
      (λ file row kind h p r bad. absurd (some_not_none bytes (too_large h) p.1 r.may_write.small))

  -- no revision is left to write
  abbrev IsFull : HeaderValue → List MemFile → Type 0
  IsFull h committed = header_to_write h i.step committed ≡ None

  not_left : (h : HeaderValue) → IfSome files (λ committed. IsSome (header_to_write h i.step committed)) → IsSomeAnd files (IsFull h) → ⊥
  not_left h left full = both_hold files _ _ (λ committed some none. some_or_none (header_to_write h i.step committed) some none) left full

  due_published : MayWriteAnd header files i.step IsFull → (cause : Cause) → Means cause → IsThisOrMet (causes.AlreadyPublished i.step) cause
  due_published due =
      comes (causes.AlreadyPublished i.step) (λ h. MayWrite h i.step × IsSomeAnd files (IsFull h)) due
      (λ h p r sound. not_left h r.left p.1)
      (λ h p lacks. absurd (lacks p.0.folder))
      (λ bytes h p folder large. absurd (some_not_none bytes (too_large h) large p.0.small))
      (λ h p may none. inl refl)
      (λ want found h p may left is differ known. absurd (not_left h left p.1))
      (λ file row kind h p r bad. absurd (not_left h r.left p.1))

  -- a revision is left, and of the raw volume's bytes this holds
  abbrev Leaves : (HeaderValue → List ℕ → Type 0) → HeaderValue → Type 0
  Leaves Q h = IsSomeAnd files (IsLeftFor raw i.step Q h)

  full_not_left : (Q : HeaderValue → List ℕ → Type 0) (h : HeaderValue) → Leaves Q h → IfSome files (IsFull h) → ⊥
  full_not_left Q h left full = both_hold files _ _ (λ committed none some. some_or_none (header_to_write h i.step committed) some.0 none) full left

  raw_of : (Q : HeaderValue → List ℕ → Type 0) (h : HeaderValue) → Leaves Q h → IsSomeAnd raw (Q h)
  raw_of Q h left = from files left
    where
      from : (o : Option (List MemFile)) → IsSomeAnd o (IsLeftFor raw i.step Q h) → IsSomeAnd raw (Q h)
      from None q = absurd q
      from (Some committed) q = q.1

  -- the raw volume has another length
  abbrev IsOther : ℕ → ℕ → HeaderValue → List ℕ → Type 0
  IsOther want found h bytes = (want ≡ volume_bytes h) × (found ≡ length bytes) × (found ≢ want)

  other_size : (want found : ℕ) (h : HeaderValue) → Leaves (IsOther want found) h → IfSome raw (λ bytes. length bytes ≡ volume_bytes h) → ⊥
  other_size want found h left same = both_hold raw _ _ (λ bytes l o. o.2 (o.1 ∙ l ∙ sym o.0)) same (raw_of (IsOther want found) h left)

  due_other_length : (want found : ℕ) → MayWriteAnd header files i.step (IsLeftFor raw i.step (IsOther want found)) →
      (cause : Cause) → Means cause → IsThisOrMet (causes.RawWrongSize want found) cause
  due_other_length want found due =
      comes (causes.RawWrongSize want found) (λ h. MayWrite h i.step × Leaves (IsOther want found) h) due
      (λ h p r sound. other_size want found h p.1 r.size)
      (λ h p lacks. absurd (lacks p.0.folder))
      (λ bytes h p folder large. absurd (some_not_none bytes (too_large h) large p.0.small))
      (λ h p may none. absurd (full_not_left (IsOther want found) h p.1 none))
      (λ w f h p may left is differ known. inl (both_hold raw _ _ (λ bytes k o. λ j. causes.RawWrongSize ((is ∙ sym o.0) j) ((k ∙ sym o.1) j)) known (raw_of (IsOther want found) h p.1)))
      (λ file row kind h p r bad. absurd (other_size want found h p.1 r.size))

  -- it has the right one, and this is the first faulty row, if there is one
  abbrev IsRight : HeaderValue → List ℕ → Type 0
  IsRight h bytes = length bytes ≡ volume_bytes h

  abbrev IsRow : Option LoadFault → HeaderValue → List MemFile → Type 0
  IsRow fault h committed = IsLeftFor raw i.step IsRight h committed × (first_bad_row h committed ≡ fault)

  abbrev HasRow : Option LoadFault → HeaderValue → Type 0
  HasRow fault h = MayWrite h i.step × IsSomeAnd files (IsRow fault h)

  left_of : (fault : Option LoadFault) (h : HeaderValue) → HasRow fault h → Leaves IsRight h
  left_of fault h p = one_part files (IsLeftFor raw i.step IsRight h) (λ committed. first_bad_row h committed ≡ fault) p.1

  row_of : (fault : Option LoadFault) (h : HeaderValue) → HasRow fault h → IsSomeAnd files (λ committed. first_bad_row h committed ≡ fault)
  row_of fault h p = other_part files (IsLeftFor raw i.step IsRight h) (λ committed. first_bad_row h committed ≡ fault) p.1

  wrong_size : (want found : ℕ) (h : HeaderValue) → Leaves IsRight h → want ≡ volume_bytes h → found ≢ want → IfSome raw (λ bytes. found ≡ length bytes) → ⊥
  wrong_size want found h left is differ known = both_hold raw _ _ (λ bytes k r. differ (k ∙ r ∙ sym is)) known (raw_of IsRight h left)

  due_bad_row : (file row : ℕ) (kind : TableKind) → MayWriteAnd header files i.step (IsRow (Some (loads.BadTable file row kind))) →
      (cause : Cause) → Means cause → IsThisOrMet (causes.BadTable file row kind) cause
  due_bad_row file row kind due =
      let bad : Option LoadFault = Some (loads.BadTable file row kind) in
      comes (causes.BadTable file row kind) (HasRow bad) due
      (λ h p r sound. both_hold files _ _ (λ committed none is. some_not_none (loads.BadTable file row kind) (first_bad_row h committed) is none) sound (row_of bad h p))
      (λ h p lacks. absurd (lacks p.0.folder))
      (λ bytes h p folder large. absurd (some_not_none bytes (too_large h) large p.0.small))
      (λ h p may none. absurd (full_not_left IsRight h (left_of bad h p) none))
      (λ want found h p may left is differ known. absurd (wrong_size want found h (left_of bad h p) is differ known))
      (λ f r k h p ready other. inl (both_hold files _ _ (λ committed b is. ap row_cause (sym b ∙ is)) other (row_of bad h p)))

  -- ---- the counts

  -- what is known of gathering
  abbrev Counted : IngestKnown
  Counted = known_of_ingest raw (raws_before raws) (raws_after raws) files (bay.files bay.new) (bay_before bay) (bay_after bay)

  -- which ends of gathering leave the counts of the raw volumes, and of the bay
  raws_end : (end : IngestEnd) → (h : HeaderValue) (posts last : List Post) →
      IsIngested h i.step Counted posts last end →
      (raws_after raws ≡ raws_before raws) ⊎ ((rank : ℕ) × ((count : ℕ) × ((end ≡ ingests.Refused (gathers.RawFault rank count)) × SomeRose (raws_before raws) (raws_after raws))))
  raws_end (ingests.Published post) h posts last m = inl m.3
  raws_end (ingests.Refused (gathers.RawWrongSize want found)) h posts last m = inl m.1.3
  raws_end (ingests.Refused (gathers.RawFault rank count)) h posts last m = inr (rank, (count, (refl, (rank, (m.1.0.within, m.1.0.rose)))))
  raws_end (ingests.Refused (gathers.StoreFault count)) h posts last m = inl m.1.3
  raws_end (ingests.Refused gathers.NoMemory) h posts last m = inl m.1.1
  raws_end ingests.NoMemory h posts last m = inl m.2

  bay_end : (end : IngestEnd) → (h : HeaderValue) (posts last : List Post) →
      IsIngested h i.step Counted posts last end →
      (bay_after bay ≡ bay_before bay) ⊎ ((count : ℕ) × ((end ≡ ingests.Refused (gathers.StoreFault count)) × Rose (bay_before bay) (bay_after bay)))
  bay_end (ingests.Published post) h posts last m = inl m.4
  bay_end (ingests.Refused (gathers.RawWrongSize want found)) h posts last m = inl m.1.4
  bay_end (ingests.Refused (gathers.RawFault rank count)) h posts last m = inl m.1.1
  bay_end (ingests.Refused (gathers.StoreFault count)) h posts last m = inr (count, (refl, m.1.2))
  bay_end (ingests.Refused gathers.NoMemory) h posts last m = inl m.1.2
  bay_end ingests.NoMemory h posts last m = inl m.3

  -- a fault that was counted is answered
  stop_raws : SomeHigher (raws_before raws) (raws_after raws) → (fault : LiveFault) → Stop fault → fault ≡ faults.RawFault
  stop_raws more faults.RawFault m = refl
  stop_raws more (faults.Header line kind) m = absurd (none_higher (raws_before raws) (raws_after raws) (m.raws_quiet (λ e. cc (e))) more)
  stop_raws more faults.NoStep m = absurd (none_higher (raws_before raws) (raws_after raws) (m.raws_quiet (λ e. cc (e))) more)
  stop_raws more (faults.TooLarge bytes) m = absurd (none_higher (raws_before raws) (raws_after raws) (m.raws_quiet (λ e. cc (e))) more)
  stop_raws more faults.AlreadyPublished m = absurd (none_higher (raws_before raws) (raws_after raws) (m.raws_quiet (λ e. cc (e))) more)
  stop_raws more (faults.RawWrongSize want found) m = absurd (none_higher (raws_before raws) (raws_after raws) (m.raws_quiet (λ e. cc (e))) more)
  stop_raws more (faults.BadTable file row kind) m = absurd (none_higher (raws_before raws) (raws_after raws) (m.raws_quiet (λ e. cc (e))) more)
  stop_raws more faults.StoreFault m = absurd (none_higher (raws_before raws) (raws_after raws) (m.raws_quiet (λ e. cc (e))) more)
  stop_raws more faults.NoMemory m = absurd (none_higher (raws_before raws) (raws_after raws) (m.raws_quiet (λ e. cc (e))) more)

  abbrev IsRawTold : Cause → Type 0
  IsRawTold cause = (cause ≡ causes.RawFault) ⊎ (cause ≡ causes.NoMemory)

  raw_of_end : (l : Live) (rank count : ℕ) → l.ingested ≡ ingests.Refused (gathers.RawFault rank count) → (cause : Cause) → Concludes sink l cause → IsRawTold cause
  raw_of_end l rank count is causes.Done c = let same = sym c.0.1 ∙ is in absurd (cc)
  raw_of_end l rank count is causes.SinkFault c = let same = sym c.0.1 ∙ is in absurd (cc)
  raw_of_end l rank count is causes.DoorFault c = let same = sym c.0.1 ∙ is in absurd (cc)
  raw_of_end l rank count is (causes.RawWrongSize want found) c = let same = sym c.0 ∙ is in absurd (cc)
  raw_of_end l rank count is causes.RawFault c = inl refl
  raw_of_end l rank count is causes.StoreFault c = let same = sym c.0.1 ∙ is in absurd (cc)
  raw_of_end l rank count is causes.NoMemory c = inr refl
  raw_of_end l rank count is _ c = absurd c

  raw_told : SomeHigher (raws_before raws) (raws_after raws) → (cause : Cause) → Means cause → IsRawTold cause
  raw_told more cause (inl (fault, (is, m))) = inl (is ∙ ap (cause_of_live i.step) (stop_raws more fault m))
  raw_told more cause (inr (l, (h, (text, live)), c)) = by (raws_end l.ingested live.written live.posts live.last live.ingested)
    where
      by : (raws_after raws ≡ raws_before raws) ⊎ ((rank : ℕ) × ((count : ℕ) × ((l.ingested ≡ ingests.Refused (gathers.RawFault rank count)) × SomeRose (raws_before raws) (raws_after raws)))) →
          IsRawTold cause
      by (inl same) = absurd (none_higher (raws_before raws) (raws_after raws) same more)
      by (inr (rank, (count, (is, rose)))) = raw_of_end l rank count is cause c

  stop_store : (before after : ℕ) → before < after → ((fault : LiveFault) → fault ≢ faults.StoreFault → Stop fault → after ≡ before) → (fault : LiveFault) → Stop fault → fault ≡ faults.StoreFault
  stop_store before after more quiet faults.StoreFault m = refl
  stop_store before after more quiet faults.RawFault m = absurd (omega (arith, more, quiet faults.RawFault (λ e. cc (e)) m))
  stop_store before after more quiet (faults.Header line kind) m = absurd (omega (arith, more, quiet (faults.Header line kind) (λ e. cc (e)) m))
  stop_store before after more quiet faults.NoStep m = absurd (omega (arith, more, quiet faults.NoStep (λ e. cc (e)) m))
  stop_store before after more quiet (faults.TooLarge bytes) m = absurd (omega (arith, more, quiet (faults.TooLarge bytes) (λ e. cc (e)) m))
  stop_store before after more quiet faults.AlreadyPublished m = absurd (omega (arith, more, quiet faults.AlreadyPublished (λ e. cc (e)) m))
  stop_store before after more quiet (faults.RawWrongSize want found) m = absurd (omega (arith, more, quiet (faults.RawWrongSize want found) (λ e. cc (e)) m))
  stop_store before after more quiet (faults.BadTable file row kind) m = absurd (omega (arith, more, quiet (faults.BadTable file row kind) (λ e. cc (e)) m))
  stop_store before after more quiet faults.NoMemory m = absurd (omega (arith, more, quiet faults.NoMemory (λ e. cc (e)) m))

  abbrev IsStoreTold : Cause → Type 0
  IsStoreTold cause = (cause ≡ causes.StoreFault) ⊎ (cause ≡ causes.NoMemory)

  store_of_end : (l : Live) (count : ℕ) → l.ingested ≡ ingests.Refused (gathers.StoreFault count) → (cause : Cause) → Concludes sink l cause → IsStoreTold cause
  store_of_end l count is causes.Done c = let same = sym c.0.1 ∙ is in absurd (cc)
  store_of_end l count is causes.SinkFault c = let same = sym c.0.1 ∙ is in absurd (cc)
  store_of_end l count is causes.DoorFault c = let same = sym c.0.1 ∙ is in absurd (cc)
  store_of_end l count is (causes.RawWrongSize want found) c = let same = sym c.0 ∙ is in absurd (cc)
  store_of_end l count is causes.RawFault c = let same = sym c.0.1.1 ∙ is in absurd (cc)
  store_of_end l count is causes.StoreFault c = inl refl
  store_of_end l count is causes.NoMemory c = inr refl
  store_of_end l count is _ c = absurd c

  store_told : bay_before bay < bay_after bay → (cause : Cause) → Means cause → IsStoreTold cause
  store_told more cause (inl (fault, (is, m))) =
      inl (is ∙ ap (cause_of_live i.step) (stop_store (bay_before bay) (bay_after bay) more (λ f other s. s.bay_quiet other) fault m))
  store_told more cause (inr (l, (h, (text, live)), c)) = by (bay_end l.ingested live.written live.posts live.last live.ingested)
    where
      by : (bay_after bay ≡ bay_before bay) ⊎ ((count : ℕ) × ((l.ingested ≡ ingests.Refused (gathers.StoreFault count)) × Rose (bay_before bay) (bay_after bay))) →
          IsStoreTold cause
      by (inl same) = absurd (omega (arith, same, more))
      by (inr (count, (is, rose))) = store_of_end l count is cause c

  stop_reader : SomeHigher (readers_before readers) (readers_after readers) → (fault : LiveFault) → Stop fault → fault ≡ faults.StoreFault
  stop_reader more faults.StoreFault m = refl
  stop_reader more faults.RawFault m = absurd (not_loaded v readers doors sink m.before (m.reader_quiet (λ e. cc (e))) more)
  stop_reader more (faults.Header line kind) m = absurd (not_loaded v readers doors sink m.before (m.reader_quiet (λ e. cc (e))) more)
  stop_reader more faults.NoStep m = absurd (not_loaded v readers doors sink m.before (m.reader_quiet (λ e. cc (e))) more)
  stop_reader more (faults.TooLarge bytes) m = absurd (not_loaded v readers doors sink m.before (m.reader_quiet (λ e. cc (e))) more)
  stop_reader more faults.AlreadyPublished m = absurd (not_loaded v readers doors sink m.before (m.reader_quiet (λ e. cc (e))) more)
  stop_reader more (faults.RawWrongSize want found) m = absurd (not_loaded v readers doors sink m.before (m.reader_quiet (λ e. cc (e))) more)
  stop_reader more (faults.BadTable file row kind) m = absurd (not_loaded v readers doors sink m.before (m.reader_quiet (λ e. cc (e))) more)
  stop_reader more faults.NoMemory m = absurd (not_loaded v readers doors sink m.before (m.reader_quiet (λ e. cc (e))) more)

  reader_told : SomeHigher (readers_before readers) (readers_after readers) → (cause : Cause) → Means cause → (cause ≡ causes.StoreFault) ⊎ Met (λ l. Unit {0})
  reader_told more cause (inl (fault, (is, m))) = inl (is ∙ ap (cause_of_live i.step) (stop_reader more fault m))
  reader_told more cause (inr met) = inr (any_met _ met)

  -- ---- a fault comes only where it was counted

  stop_fault : (fault : LiveFault) (status : ℕ) → status_of (cause_of_live i.step fault) ≡ status → (status ≡ 4) ⊎ (status ≡ 5) → (fault ≡ faults.RawFault) ⊎ (fault ≡ faults.StoreFault)
  stop_fault faults.RawFault status is which = inl refl
  stop_fault faults.StoreFault status is which = inr refl
  stop_fault (faults.Header line kind) status is (inl four) = absurd (omega (arith, is, four))
  stop_fault (faults.Header line kind) status is (inr five) = absurd (omega (arith, is, five))
  stop_fault faults.NoStep status is (inl four) = absurd (omega (arith, is, four))
  stop_fault faults.NoStep status is (inr five) = absurd (omega (arith, is, five))
  stop_fault (faults.TooLarge bytes) status is (inl four) = absurd (omega (arith, is, four))
  stop_fault (faults.TooLarge bytes) status is (inr five) = absurd (omega (arith, is, five))
  stop_fault faults.AlreadyPublished status is (inl four) = absurd (omega (arith, is, four))
  stop_fault faults.AlreadyPublished status is (inr five) = absurd (omega (arith, is, five))
  stop_fault (faults.RawWrongSize want found) status is (inl four) = absurd (omega (arith, is, four))
  stop_fault (faults.RawWrongSize want found) status is (inr five) = absurd (omega (arith, is, five))
  stop_fault (faults.BadTable file row kind) status is (inl four) = absurd (omega (arith, is, four))
  stop_fault (faults.BadTable file row kind) status is (inr five) = absurd (omega (arith, is, five))
  stop_fault faults.NoMemory status is (inl four) = absurd (omega (arith, is, four))
  stop_fault faults.NoMemory status is (inr five) = absurd (omega (arith, is, five))

  abbrev StoreRose : Type 0
  StoreRose = Rose (bay_before bay) (bay_after bay) ⊎ Rose (reader_before readers) (reader_after readers)

  store_stop : Stop faults.StoreFault → StoreRose
  store_stop m = of_cause m.cause
    where
      of_cause : IsBayFault i.step (known raws bay) (reader_before readers) (reader_after readers) ⊎ IsReaderFault i.step (known raws bay) (reader_before readers) (reader_after readers) → StoreRose
      of_cause (inl asked) = inl asked.rose
      of_cause (inr read) = inr read.rose

  store_rises : (cause : Cause) → Means cause → status_of cause ≡ 5 → StoreRose
  store_rises cause (inl (fault, (is, m))) five = by (stop_fault fault 5 (ap status_of (sym is) ∙ five) (inr refl))
    where
      by : (fault ≡ faults.RawFault) ⊎ (fault ≡ faults.StoreFault) → StoreRose
      by (inl raw) = absurd (omega (arith, five, ap status_of (is ∙ ap (cause_of_live i.step) raw)))
      by (inr store) = store_stop (subst Stop store m)
  store_rises cause (inr (l, (h, (text, live)), c)) five =
      let refused = subst (Concludes sink l) (store_fault_is cause five) c in
      inl ((subst (λ e. IsIngested live.written i.step Counted live.posts live.last e) refused.0.1 live.ingested).1.2)

  raw_rises : 0 < length raws.old → (cause : Cause) → Means cause → status_of cause ≡ 4 → SomeRose (raws_before raws) (raws_after raws)
  raw_rises some cause (inl (fault, (is, m))) four = by (stop_fault fault 4 (ap status_of (sym is) ∙ four) (inl refl))
    where
      by : (fault ≡ faults.RawFault) ⊎ (fault ≡ faults.StoreFault) → SomeRose (raws_before raws) (raws_after raws)
      by (inl raw) = (0, (omega (arith, some, length-map raws.old raws.faults), (subst Stop raw m).cause.1.1.2))
      by (inr store) = absurd (omega (arith, four, ap status_of (is ∙ ap (cause_of_live i.step) store)))
  raw_rises some cause (inr (l, (h, (text, live)), c)) four =
      let said = subst (Concludes sink l) (raw_fault_is cause four) c in
      let refused = (subst (λ e. IsIngested live.written i.step Counted live.posts live.last e) said.0.1.1 live.ingested).1.0 in
      (said.0.0, (refused.within, refused.rose))

  -- what ends a run before a link was asked for has none of the statuses 0, 1, 9 and 12
  stop_status : (fault : LiveFault) → (2 ≤ status_of (cause_of_live i.step fault)) × (status_of (cause_of_live i.step fault) ≤ 11) × (status_of (cause_of_live i.step fault) ≢ 9)
  stop_status (faults.Header line kind) = (omega arith, omega arith, λ nine. omega (arith, nine))
  stop_status faults.NoStep = (omega arith, omega arith, λ nine. omega (arith, nine))
  stop_status (faults.TooLarge bytes) = (omega arith, omega arith, λ nine. omega (arith, nine))
  stop_status faults.AlreadyPublished = (omega arith, omega arith, λ nine. omega (arith, nine))
  stop_status (faults.RawWrongSize want found) = (omega arith, omega arith, λ nine. omega (arith, nine))
  stop_status faults.RawFault = (omega arith, omega arith, λ nine. omega (arith, nine))
  stop_status (faults.BadTable file row kind) = (omega arith, omega arith, λ nine. omega (arith, nine))
  stop_status faults.StoreFault = (omega arith, omega arith, λ nine. omega (arith, nine))
  stop_status faults.NoMemory = (omega arith, omega arith, λ nine. omega (arith, nine))

  -- ---- what is written

  pub live_not_usage : (at : ℕ) → Means (causes.Usage at) → ⊥
  live_not_usage at (inl (fault, (is, m))) = omega (arith, (stop_status fault).0, ap status_of is)
  live_not_usage at (inr (l, under, c)) = c

  pub live_written : Means causes.Done → (links : ℕ) × (replies : ℕ) × (sink.contents sink.new ≡ appended (sink.contents sink.old) (totals links replies))
  live_written (inl (fault, (is, m))) = absurd (omega (arith, (stop_status fault).0, ap status_of is))
  live_written (inr (l, under, c)) = (l.summary.links, l.summary.replies, c.2)

  pub live_begun : Means causes.SinkFault →
      (links : ℕ) × (replies : ℕ) × AppendsPrefix (sink.contents sink.old) (sink.contents sink.new) (totals links replies)
  live_begun (inl (fault, (is, m))) = absurd ((stop_status fault).2 (ap status_of (sym is)))
  live_begun (inr (l, under, c)) = (l.summary.links, l.summary.replies, c.3)

  end_silent : (l : Live) (cause : Cause) → Concludes sink l cause → status_of cause ≢ 0 → status_of cause ≢ 9 → sink.new ≡ sink.old
  end_silent l causes.Done c zero nine = absurd (zero refl)
  end_silent l causes.SinkFault c zero nine = absurd (nine refl)
  end_silent l causes.DoorFault c zero nine = c.2
  end_silent l (causes.RawWrongSize want found) c zero nine = c.2
  end_silent l causes.RawFault c zero nine = c.2
  end_silent l causes.StoreFault c zero nine = c.2
  end_silent l causes.NoMemory c zero nine = c.1
  end_silent l _ c zero nine = absurd c

  pub live_silent : (cause : Cause) → Means cause → status_of cause ≢ 0 → status_of cause ≢ 9 → sink.new ≡ sink.old
  live_silent cause (inl (fault, (is, m))) zero nine = m.before.silent
  live_silent cause (inr (l, under, c)) zero nine = end_silent l cause c zero nine

  sink_rises : (cause : Cause) → Means cause → status_of cause ≡ 9 → Rose (sink_before sink) (sink_after sink)
  sink_rises cause (inl (fault, (is, m))) nine = absurd ((stop_status fault).2 (ap status_of (sym is) ∙ nine))
  sink_rises cause (inr (l, under, c)) nine = (subst (Concludes sink l) (sink_fault_is cause nine) c).2

  -- ---- what the doors and the readers come to

  module _ (a_reader : 0 < length readers.old) (a_door : 0 < length doors.old) (some : 1 ≤ v.workers) where
    left : (cause : Cause) → Means cause → Left v readers doors
    left cause (inl (fault, (is, m))) = left_before v readers doors a_reader a_door some sink m.before
    left cause (inr (l, (h, (text, live)), c)) =
        left_hosted v readers doors a_reader a_door some h (site_name v.dataset) files live.posts live.last l.summary live.hosted

    door_rises : (cause : Cause) → Means cause → status_of cause ≡ 12 → SomeRose (doors_before doors) (doors_after doors)
    door_rises cause (inl (fault, (is, m))) twelve = absurd (omega (arith, (stop_status fault).1, ap status_of (sym is) ∙ twelve))
    door_rises cause (inr (l, (h, (text, live)), c)) twelve =
        let said = subst (Concludes sink l) (door_fault_is cause twelve) c in
        door_of_fault v readers doors a_reader a_door some h (site_name v.dataset) files live.posts live.last l.summary live.hosted said.1.0 said.1.1

    abbrev IsDoorTold : Cause → Type 0
    IsDoorTold cause = ((cause ≢ causes.Done) × (cause ≢ causes.SinkFault)) × Met (λ l. Unit {0})

    door_told : SomeHigher (doors_before doors) (doors_after doors) → (cause : Cause) → Means cause → IsDoorTold cause
    door_told more cause (inl (fault, (is, m))) = absurd (not_opened v readers doors m.before.unopened more)
    door_told more cause (inr (l, (h, (text, live)), c)) =
        let done : l.summary.end ≡ ends.Done → ⊥ = λ is.
        doors_of_done v readers doors a_reader a_door some h (site_name v.dataset) files live.posts live.last l.summary live.hosted is more in
        (((λ e. done (subst (Concludes sink l) e c).1), (λ e. done (subst (Concludes sink l) e c).1)), (l, (h, (text, live)), tt))

    -- ---- nothing is wrong, and no fault was counted

    module _ (sound : MayWriteAnd header files i.step (IsRow None))
        (bay_quiet : ¬ Rose (bay_before bay) (bay_after bay)) (quiet : ¬ Rose (reader_before readers) (reader_after readers))
        (read : ¬ SomeRose (raws_before raws) (raws_after raws)) (taken : ¬ Rose (sink_before sink) (sink_after sink))
        (opened : ¬ SomeRose (doors_before doors) (doors_after doors)) (a_raw : 0 < length raws.old) where
      abbrev Sound : HeaderValue → Type 0
      Sound = HasRow None

      abbrev IsWhole : Cause → Type 0
      IsWhole cause = (status_of cause ≡ 0) ⊎ (status_of cause ≡ 11)

      refuted : (Q : HeaderValue → Type 0) → ((h : HeaderValue) → Sound h → Q h → ⊥) → Under header Q → ⊥
      refuted Q never under = both_of header Sound Q sound under never

      no_store : StoreRose → ⊥
      no_store (inl rose) = bay_quiet rose
      no_store (inr rose) = quiet rose

      stop_complete : (fault : LiveFault) → Stop fault → IsWhole (cause_of_live i.step fault)
      stop_complete (faults.Header line kind) m = absurd (not_read header _ (record { line = line; kind = kind }) sound m.cause.1)
      stop_complete faults.NoStep m = absurd (refuted _ (λ h p lacks. lacks p.0.folder) m.cause)
      stop_complete (faults.TooLarge bytes) m = absurd (refuted _ (λ h p large. some_not_none bytes (too_large h) large.1 p.0.small) m.cause)
      stop_complete faults.AlreadyPublished m = absurd (refuted _ (λ h p none. full_not_left IsRight h (left_of None h p) none.1) m.cause)
      stop_complete (faults.RawWrongSize want found) m =
          absurd (refuted _ (λ h p q. wrong_size want found h (left_of None h p) q.2 q.3 q.4) m.cause)
      stop_complete faults.RawFault m = absurd (read (0, (omega (arith, a_raw, length-map raws.old raws.faults), m.cause.1.1.2)))
      stop_complete (faults.BadTable file row kind) m =
          absurd (refuted _ (λ h p q. both_hold files _ _ (λ committed is none. some_not_none (loads.BadTable file row kind) (first_bad_row h committed) is none) q.1 (row_of None h p)) m.cause)
      stop_complete faults.StoreFault m = absurd (no_store (store_stop m))
      stop_complete faults.NoMemory m = inr refl

      completes : (cause : Cause) → Means cause → IsWhole cause
      completes cause (inl (fault, (is, m))) = subst IsWhole (sym is) (stop_complete fault m)
      completes cause (inr (l, (h, (text, live)), c)) = by cause c
        where
          by : (other : Cause) → Concludes sink l other → IsWhole other
          by causes.Done d = inl refl
          by causes.SinkFault d = absurd (taken d.2)
          by causes.DoorFault d =
              absurd (opened (door_of_fault v readers doors a_reader a_door some h (site_name v.dataset) files live.posts live.last l.summary live.hosted d.1.0 d.1.1))
          by (causes.RawWrongSize want found) d =
              let q = (subst (λ e. IsIngested live.written i.step Counted live.posts live.last e) d.0 live.ingested).1 in
              absurd (refuted (λ g. volume_bytes live.written ≡ volume_bytes g)
              (λ g p same. wrong_size want found g (left_of None g p) (q.0 ∙ same) q.1 q.2)
              (h, (text, ap volume_bytes live.revised.same)))
          by causes.RawFault d =
              let refused = (subst (λ e. IsIngested live.written i.step Counted live.posts live.last e) d.0.1.1 live.ingested).1.0 in
              absurd (read (d.0.0, (refused.within, refused.rose)))
          by causes.StoreFault d =
              absurd (bay_quiet ((subst (λ e. IsIngested live.written i.step Counted live.posts live.last e) d.0.1 live.ingested).1.2))
          by causes.NoMemory d = inr refl
          by _ d = absurd d

-- ---- of the first raw volumes, and of all

module _ (before after rest : List ℕ) (number : length after ≡ length before) where
  first_after : (n : ℕ) → n < length before → slice_index (after ++ rest) n ≡ slice_index after n
  first_after n less = get_or_append_left after rest 0 n (omega (arith, number, less))

  first_before : (n : ℕ) → n < length before → slice_index (before ++ rest) n ≡ slice_index before n
  first_before n less = get_or_append_left before rest 0 n less

  rest_same : (n : ℕ) → length before ≤ n → slice_index (after ++ rest) n ≡ slice_index (before ++ rest) n
  rest_same n more = get_or-append_right after rest (length before) n 0 number more ∙ sym (get_or-append_right before rest (length before) n 0 refl more)

  -- what counted a fault is one of the first
  higher_first : SomeHigher (before ++ rest) (after ++ rest) → SomeHigher before after
  higher_first (n, (within, more)) = by (cases_lt n (length before))
    where
      by : (n < length before) ⊎ (length before ≤ n) → SomeHigher before after
      by (inl less) = (n, (less, omega (arith, more, first_after n less, first_before n less)))
      by (inr behind) = absurd (omega (arith, more, rest_same n behind))

  -- and one of all
  rose_all : SomeRose before after → SomeRose (before ++ rest) (after ++ rest)
  rose_all (n, (within, rose)) = (
    n,
    (
      omega (arith, within, length-append before rest),
      subst (λ a. Rose (slice_index (before ++ rest) n) a) (sym (first_after n within)) (subst (λ b. Rose b (slice_index after n)) (sym (first_before n within)) rose),
    ),
  )

module _ {V B R K D L : Type 0} (v : ServeValue) (i : IngestValue) (raws : RawsSeen V) (bay : BaySeen B) (readers : ReadersSeen R) (sink : SinkSeen K) (doors : DoorsSeen D L)
    (first after rest : List V) (uses : Uses raws first after rest) (some_first : 0 < length first)
    (a_reader : 0 < length readers.old) (a_door : 0 < length doors.old) (some : 1 ≤ v.workers) where
  abbrev used : RawsSeen V
  used = seen_of raws first after

  parted : Parted raws.old raws.new first after rest
  parted = record { was = uses.was; is = uses.is; number = uses.number; some = some_first }

  raw_is : raw_bytes raws ≡ raw_bytes used
  raw_is = sym (contents_first raws.old raws.new first after rest parted raws.contents)

  counts_were : raws_before raws ≡ raws_before used ++ map raws.faults rest
  counts_were = ap (map raws.faults) uses.was ∙ map-append raws.faults first rest

  counts_are : raws_after raws ≡ raws_after used ++ map raws.faults rest
  counts_are = ap (map raws.faults) uses.is ∙ map-append raws.faults after rest

  as_many_used : length (raws_after used) ≡ length (raws_before used)
  as_many_used = length-map after raws.faults ∙ uses.number ∙ sym (length-map first raws.faults)

  higher_used : SomeHigher (raws_before raws) (raws_after raws) → SomeHigher (raws_before used) (raws_after used)
  higher_used more = higher_first (raws_before used) (raws_after used) (map raws.faults rest) as_many_used
      (subst (λ a. SomeHigher (raws_before used ++ map raws.faults rest) a) counts_are (subst (λ b. SomeHigher b (raws_after raws)) counts_were more))

  rose_used : SomeRose (raws_before used) (raws_after used) → SomeRose (raws_before raws) (raws_after raws)
  rose_used rose = subst (λ b. SomeRose b (raws_after raws)) (sym counts_were)
      (subst (λ a. SomeRose (raws_before used ++ map raws.faults rest) a) (sym counts_are) (rose_all (raws_before used) (raws_after used) (map raws.faults rest) as_many_used rose))

  -- what is due by all is due by the first
  due_used : (P : Option (List ℕ) → HeaderValue → List MemFile → Type 0) → MayWriteAnd (bay.header bay.old) (bay.files bay.old) i.step (P (raw_bytes raws)) →
      MayWriteAnd (bay.header bay.old) (bay.files bay.old) i.step (P (raw_bytes used))
  due_used P due = subst (λ r. MayWriteAnd (bay.header bay.old) (bay.files bay.old) i.step (P r)) raw_is due

  pub live_ends : (cause : Cause) → LiveMeans v i used bay readers sink doors cause →
      (sink_before sink < sink_after sink → cause ≡ causes.SinkFault) → SameContents raws.contents first after → NoneFalls (raws_before used) (raws_after used) →
      EachMeetsOnce (raws_before used) (raws_after used) → bay.header bay.new ≡ bay.header bay.old → NeverFalls (bay_before bay) (bay_after bay) →
      MeetsOnceOrRow (bay.failed bay.new) 256 (bay_before bay) (bay_after bay) → NeverFalls (sink_before sink) (sink_after sink) →
      MeetsOnce (sink_before sink) (sink_after sink) →
      LiveEnds v i raws bay readers sink doors cause
  live_ends cause m sink_answered same raw_count raws_once header_same bay_count bay_once sink_count sink_once =
      let leaves = left v i used bay readers sink doors a_reader a_door some cause m in
      record {
        first = first;
        after = after;
        rest = rest;
        uses = uses;
        means = m;
        bad_header = λ bad. bad_text v i used bay readers sink doors bad cause m;
        no_step = λ due. due_no_step v i used bay readers sink doors due cause m;
        too_large = λ bytes due. due_too_large v i used bay readers sink doors bytes due cause m;
        published = λ due. due_published v i used bay readers sink doors due cause m;
        other_length = λ want found due. due_other_length v i used bay readers sink doors want found
            (due_used (λ r. IsLeftFor r i.step (λ g bytes. (want ≡ volume_bytes g) × (found ≡ length bytes) × (found ≢ want))) due) cause m;
        bad_row = λ file row kind due. due_bad_row v i used bay readers sink doors file row kind
            (due_used (λ r h committed. IsLeftFor r i.step (λ g bytes. length bytes ≡ volume_bytes g) h committed × (first_bad_row h committed ≡ Some (loads.BadTable file row kind))) due) cause m;
        complete = λ sound bay_quiet quiet read taken opened. completes v i used bay readers sink doors a_reader a_door some
            (due_used (λ r h committed. IsLeftFor r i.step (λ g bytes. length bytes ≡ volume_bytes g) h committed × (first_bad_row h committed ≡ None)) sound)
            bay_quiet quiet (λ rose. read (rose_used rose)) taken opened some_first cause m;
        raw_answered = λ more. raw_told v i used bay readers sink doors (higher_used more) cause m;
        store_answered = λ more. store_told v i used bay readers sink doors more cause m;
        reader_answered = λ more. reader_told v i used bay readers sink doors more cause m;
        sink_answered = sink_answered;
        sink_rose = λ nine. sink_rises v i used bay readers sink doors cause m nine;
        door_answered = λ more. door_told v i used bay readers sink doors a_reader a_door some more cause m;
        raw_rose = λ four. rose_used (raw_rises v i used bay readers sink doors some_first cause m four);
        store_rose = λ five. store_rises v i used bay readers sink doors cause m five;
        door_rose = λ twelve. door_rises v i used bay readers sink doors a_reader a_door some cause m twelve;
        raws_kept = ap (map raws.contents) uses.is ∙ map-append raws.contents after rest ∙ ap (λ told. told ++ map raws.contents rest) same
            ∙ sym (map-append raws.contents first rest) ∙ sym (ap (map raws.contents) uses.was);
        raws_idle = idle_all raws.old raws.new first after rest parted (min 256 (length raws.old)) (sym uses.many);
        raw_counts = none_falls_all raws.old raws.new first after rest parted raws.faults raw_count;
        raws_once = each_once_all raws.faults raws.old raws.new first after rest uses.was uses.is uses.number raws_once;
        header = header_same;
        bay_count = bay_count;
        bay_once = bay_once;
        idle_readers = leaves.idle_readers;
        reader_counts = leaves.reader_counts;
        sink_count = sink_count;
        sink_once = sink_once;
        idle_doors = leaves.idle_doors;
        door_counts = leaves.door_counts;
        doors_once = leaves.doors_once;
      }

-- Before anything was asked of any object there was no memory.
pub none_began : {V B R K D L : Type 0} (v : ServeValue) (i : IngestValue) (raws : RawsSeen V) (bay : BaySeen B) (readers : ReadersSeen R) (sink : SinkSeen K) (doors : DoorsSeen D L) →
    0 < length raws.old → 0 < length readers.old → 0 < length doors.old → 1 ≤ v.workers → raws.new ≡ raws.old → bay.new ≡ bay.old → readers.new ≡ readers.old →
    sink.new ≡ sink.old → doors.new ≡ doors.old → LiveEnds v i raws bay readers sink doors causes.NoMemory
none_began {V} v i raws bay readers sink doors a_raw a_reader a_door some raws_same bay_same readers_same silent unopened =
    let n = min 256 (length raws.old) in
    let first : List V = take n raws.old in
    let rest : List V = drop n raws.old in
    let many : length first ≡ n = length-take-le n raws.old (omega arith) in
    let uses : Uses raws first first rest = record {
      was = sym (take-append-drop n raws.old);
      is = raws_same ∙ sym (take-append-drop n raws.old);
      number = refl;
      many = many;
    } in
    live_ends v i raws bay readers sink doors first first rest uses (omega (arith, many, a_raw)) a_reader a_door some causes.NoMemory
    (inl (
      faults.NoMemory,
      (
        refl,
        record {
          cause = tt;
          before = record {
            unopened = unopened;
            others = others_same readers.old readers.new readers_same;
            reader_list = ap length readers_same;
            reader_count = omega (arith, ap (λ these. faults_at readers.faults these 0) readers_same);
            reader_once = omega (arith, ap (λ these. faults_at readers.faults these 0) readers_same);
            silent = silent;
          };
          files = ap bay.files bay_same;
          begun = ap bay.begun bay_same;
          unasked = refl;
          behind = λ count one. refl;
          reader_quiet = λ other. ap (λ these. faults_at readers.faults these 0) readers_same;
          raws_quiet = λ other. refl;
          bay_quiet = λ other. ap bay.faults bay_same;
          unchanged = λ other. ap bay.changes bay_same;
        },
      ),
    ))
    (λ more. absurd (omega (arith, more, ap sink.faults silent))) refl (refl, λ index within. omega arith) (λ index. omega arith) (ap bay.header bay_same)
    (omega (arith, ap bay.faults bay_same)) (once_or_row_same (bay.failed bay.new) 256 (bay_before bay) (bay_after bay) (ap bay.faults bay_same))
    (omega (arith, ap sink.faults silent)) (omega (arith, ap sink.faults silent))
