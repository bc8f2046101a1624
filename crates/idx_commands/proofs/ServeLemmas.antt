-- What a run of `serve` comes to where what it meets is known.
use Rattle.std.proofs.Common.{◌≡◌, ◌≢◌, ◌⊎◌, ℕ, ◌<◌, ◌≤◌, List, length, Option, Some, None, IfSome, inl, inr, refl, sym, ◌∙◌, ap, subst}
use Rattle.idx_outside.specs.Cause.{MeetsOnce, NeverFalls, Rose}
use Rattle.idx_outside.specs.Contents.{appended, AppendsPrefix}
use Rattle.idx_outside.specs.declared.bay_call.BayCall.TheVariants as calls
use Rattle.idx_outside.specs.declared.mem_file.MemFile.{MemFile}
use Rattle.idx_header.specs.Header.{HeaderValue}
use Rattle.idx_table.specs.declared.table_fault.TableKind.{TableKind}
use Rattle.idx_edition.specs.declared.load_fault.LoadFault.{LoadFault}
use Rattle.idx_edition.specs.declared.load_fault.LoadFault.TheVariants as loads
use Rattle.idx_convert.specs.Counts.{SomeHigher, SomeRose}
use Rattle.idx_extract.specs.Extract.{Under}
use Rattle.idx_serve.specs.declared.door.ServeEnd.TheVariants as ends
use Rattle.idx_serve.specs.declared.door.Summary.{Summary}
use Rattle.idx_board.specs.Standing.{first_bad_row}
use Rattle.idx_host.specs.Host.{Hosted, IsCause}
use Rattle.idx_host.specs.declared.host_fault.HostFault.TheVariants as faults
use Rattle.idx_words.specs.ServeValue.{ServeValue}
use Rattle.idx_commands.specs.declared.causes.Cause.{Cause}
use Rattle.idx_commands.specs.declared.causes.Cause.TheVariants as causes
use Rattle.idx_commands.specs.Cause.{status_of}
use Rattle.idx_commands.specs.InfoRun.{HasBadHeader}
use Rattle.idx_commands.specs.QueryRun.{IsBayOutage, IsReaderOutage, known_of}
use Rattle.idx_commands.specs.Seen.{BaySeen, DoorsSeen, ReaderCounts, ReadersSeen, SinkSeen, bay_after, bay_before, doors_after, doors_before, reader_after, reader_before, reader_counts, readers_after, readers_before, sink_after, sink_before}
use Rattle.idx_commands.specs.ServeRun.{HasBadRow, HasServed, HasSoundSteps, IsBefore, IsQuietBefore, ServeEnds, ServeMeans, tells_of, workers_in}
use Rattle.idx_commands.specs.SiteName.{site_name}
use Rattle.idx_commands.specs.Totals.{totals}
use Rattle.idx_commands.proofs.CauseLemmas.{door_fault_is, store_fault_is}
use Rattle.idx_commands.proofs.HostedLemmas.{Left, door_of_fault, doors_of_done, left_before, left_hosted, not_loaded, not_opened}
use Rattle.idx_commands.proofs.KnownLemmas.{both_hold}
use Rattle.idx_commands.proofs.QueryLemmas.{both_of, not_bad, not_read, some_not_none}

-- ---- what the causes say

-- what the row of a table is answered as
abbrev row_cause : Option LoadFault → Cause
row_cause (Some (loads.BadTable file row kind)) = causes.BadTable file row kind
row_cause other = causes.NoMemory

-- ---- the record

module _ {B R K D L : Type 0} (v : ServeValue) (bay : BaySeen B) (readers : ReadersSeen R) (sink : SinkSeen K) (doors : DoorsSeen D L) where
  abbrev header : Option (List ℕ)
  header = bay.header bay.old

  abbrev files : Option (List MemFile)
  files = bay.files bay.old

  abbrev counts : ReaderCounts
  counts = reader_counts readers

  abbrev Ends : Cause → Type 0
  Ends cause = ServeMeans v bay readers sink doors cause

  abbrev Met : (Summary → Type 0) → Type 0
  Met P = HasServed v bay readers doors P

  abbrev HasNoBadRow : HeaderValue → Type 0
  HasNoBadRow h = IfSome files (λ committed. first_bad_row h committed ≡ None)

  sound_rows : (P : Summary → Type 0) → Met P → Under header HasNoBadRow
  sound_rows P (s, (h, (reads, (posts, hosted))), p) = (h, (reads, hosted.sound))

  any_met : (P : Summary → Type 0) → Met P → Met (λ s. Unit {0})
  any_met P (s, hosted, p) = (s, hosted, tt)

  bad_text : HasBadHeader header → (cause : Cause) → Ends cause → (status_of cause ≡ 2) ⊎ ((status_of cause ≡ 5) ⊎ (status_of cause ≡ 11))
  bad_text bad causes.Done m = absurd (not_bad header _ (sound_rows _ m) bad)
  bad_text bad causes.SinkFault m = absurd (not_bad header _ (sound_rows _ m.1) bad)
  bad_text bad causes.DoorFault m = absurd (not_bad header _ (sound_rows _ m.0) bad)
  bad_text bad (causes.Header line kind) m = inl refl
  bad_text bad (causes.BadTable file row kind) m = absurd (not_bad header _ m.0 bad)
  bad_text bad causes.StoreFault m = inr (inl refl)
  bad_text bad causes.NoMemory m = inr (inr refl)
  bad_text bad _ m = absurd m

  module _ (file row : ℕ) (kind : TableKind) (bad : HasBadRow header files file row kind) where
    abbrev IsAnswered : Cause → Type 0
    IsAnswered cause = (cause ≡ causes.BadTable file row kind) ⊎ ((status_of cause ≡ 5) ⊎ (status_of cause ≡ 11))

    not_sound : Under header HasNoBadRow → ⊥
    not_sound sound =
        both_of header _ _ bad sound (λ h is none. both_hold files _ _ (λ committed n i.
        some_not_none (loads.BadTable file row kind) (first_bad_row h committed) i n) none is)

    answered_row : (cause : Cause) → Ends cause → IsAnswered cause
    answered_row causes.Done m = absurd (not_sound (sound_rows _ m))
    answered_row causes.SinkFault m = absurd (not_sound (sound_rows _ m.1))
    answered_row causes.DoorFault m = absurd (not_sound (sound_rows _ m.0))
    answered_row (causes.Header line other) m = absurd (not_read header _ (record { line = line; kind = other }) bad m.0.1)
    answered_row (causes.BadTable f r k) m =
        inl (both_of header _ _ bad m.0 (λ h is other. both_hold files _ _ (λ committed o i. ap row_cause (sym o ∙ i)) other is))
    answered_row causes.StoreFault m = inr (inl refl)
    answered_row causes.NoMemory m = inr (inr refl)
    answered_row _ m = absurd m

  -- a fault of the store
  abbrev StoreCause : Type 0
  StoreCause = IsCause (known_of bay counts) faults.StoreFault

  store_cause : (cause : Cause) → Ends cause → status_of cause ≡ 5 → StoreCause
  store_cause cause m five = let store : Ends causes.StoreFault = subst Ends (store_fault_is cause five) m in store.0

  outage : StoreCause → IsBayOutage bay ⊎ IsReaderOutage bay readers
  outage (inl asked) = inl (record { rose = asked.rose; call = inl asked.call })
  outage (inr (h, (reads, inl asked))) = inl (record { rose = asked.rose; call = inr asked.call })
  outage (inr (h, (reads, inr read))) = inr (record { rose = read.rose; count = read.bay.count; call = read.bay.failed })

  asked_first : HasBadHeader header → StoreCause → bay.failed bay.new ≡ Some calls.Header
  asked_first bad (inl asked) = asked.call
  asked_first bad (inr under) = absurd (not_bad header _ under bad)

  -- what came of serving, by how the line was written
  pub means_of_end : (s : Summary) → Hosted (tells_of readers doors) (site_name v.dataset) header files v.cache (workers_in v readers doors) doors.old doors.new readers.old readers.new s →
      (cause : Cause) → (cause ≡ causes.Done → (s.end ≡ ends.Done) × (sink.contents sink.new ≡ appended (sink.contents sink.old) (totals s.links s.replies))) →
      (cause ≡ causes.SinkFault → Rose (sink_before sink) (sink_after sink) × (s.end ≡ ends.Done)
      × AppendsPrefix (sink.contents sink.old) (sink.contents sink.new) (totals s.links s.replies)) →
      (cause ≡ causes.DoorFault → ((faults : ℕ) × (s.end ≡ ends.DoorFault faults)) × (sink.new ≡ sink.old)) →
      (cause ≡ causes.NoMemory → ((s.end ≡ ends.Done) ⊎ (s.end ≡ ends.NoMemory)) × (sink.new ≡ sink.old)) →
      (cause ≡ causes.Done) ⊎ ((cause ≡ causes.SinkFault) ⊎ ((cause ≡ causes.DoorFault) ⊎ (cause ≡ causes.NoMemory))) → Ends cause
  means_of_end s hosted cause done cut failed starved (inl is) = subst Ends (sym is) (s, hosted, done is)
  means_of_end s hosted cause done cut failed starved (inr (inl is)) = let c = cut is in subst Ends (sym is) (c.0, (s, hosted, (c.1, c.2)))
  means_of_end s hosted cause done cut failed starved (inr (inr (inl is))) = let c = failed is in subst Ends (sym is) ((s, hosted, c.0), c.1)
  means_of_end s hosted cause done cut failed starved (inr (inr (inr is))) = let c = starved is in subst Ends (sym is) (inr ((s, hosted, c.0), c.1))

  -- ---- what the doors and the readers come to

  pub serve_silent : (cause : Cause) → Ends cause → status_of cause ≢ 0 → status_of cause ≢ 9 → sink.new ≡ sink.old
  serve_silent causes.Done m zero nine = absurd (zero refl)
  serve_silent causes.SinkFault m zero nine = absurd (nine refl)
  serve_silent causes.DoorFault m zero nine = m.1
  serve_silent (causes.Header line kind) m zero nine = m.1.before.silent
  serve_silent (causes.BadTable file row kind) m zero nine = m.1.before.silent
  serve_silent causes.StoreFault m zero nine = m.1.silent
  serve_silent causes.NoMemory (inl m) zero nine = m.before.silent
  serve_silent causes.NoMemory (inr m) zero nine = m.1
  serve_silent _ m zero nine = absurd m

  -- the line that was written, or begun
  pub totals_written : Ends causes.Done → (links : ℕ) × (replies : ℕ) × (sink.contents sink.new ≡ appended (sink.contents sink.old) (totals links replies))
  totals_written (s, hosted, (end, written)) = (s.links, s.replies, written)

  pub totals_begun : Ends causes.SinkFault →
      (links : ℕ) × (replies : ℕ) × AppendsPrefix (sink.contents sink.old) (sink.contents sink.new) (totals links replies)
  totals_begun (rose, (s, hosted, (end, written))) = (s.links, s.replies, written)

  module _ (a_reader : 0 < length readers.old) (a_door : 0 < length doors.old) (some : 1 ≤ v.workers) where
    rose_of : Met (λ s. (faults : ℕ) × (s.end ≡ ends.DoorFault faults)) → SomeRose (doors_before doors) (doors_after doors)
    rose_of (s, (h, (reads, (posts, hosted))), (faults, is)) =
        door_of_fault v readers doors a_reader a_door some h (site_name v.dataset) files posts posts s hosted faults is

    quiet_of : (P : Summary → Type 0) → ((s : Summary) → P s → s.end ≡ ends.Done) → Met P → SomeHigher (doors_before doors) (doors_after doors) → ⊥
    quiet_of P done (s, (h, (reads, (posts, hosted))), p) =
        doors_of_done v readers doors a_reader a_door some h (site_name v.dataset) files posts posts s hosted (done s p)

    -- ---- nothing is wrong, and no fault was counted

    module _ (sound : HasSoundSteps header files) (bay_quiet : ¬ Rose (bay_before bay) (bay_after bay)) (quiet : ¬ Rose (reader_before readers) (reader_after readers)) (taken : ¬ Rose (sink_before sink) (sink_after sink)) (opened : ¬ SomeRose (doors_before doors) (doors_after doors)) where
      no_outage : IsBayOutage bay ⊎ IsReaderOutage bay readers → ⊥
      no_outage (inl asked) = bay_quiet asked.rose
      no_outage (inr read) = quiet read.rose

      not_faulty : (fault : LoadFault) → Under header (λ h. IfSome files (λ committed. first_bad_row h committed ≡ Some fault)) → ⊥
      not_faulty fault faulty =
          both_of header _ _ sound faulty (λ h none is. both_hold files _ _ (λ committed i n.
          some_not_none fault (first_bad_row h committed) i n) is none)

      completes : (cause : Cause) → Ends cause → (status_of cause ≡ 0) ⊎ (status_of cause ≡ 11)
      completes causes.Done m = inl refl
      completes causes.SinkFault m = absurd (taken m.0)
      completes causes.DoorFault m = absurd (opened (rose_of m.0))
      completes (causes.Header line kind) m = absurd (not_read header _ (record { line = line; kind = kind }) sound m.0.1)
      completes (causes.BadTable file row kind) m = absurd (not_faulty (loads.BadTable file row kind) m.0)
      completes causes.StoreFault m = absurd (no_outage (outage m.0))
      completes causes.NoMemory m = inr refl
      completes _ m = absurd m

    -- ---- a fault that was counted is answered

    not_read_of : IsQuietBefore readers sink doors → SomeHigher (readers_before readers) (readers_after readers) → ⊥
    not_read_of m = not_loaded v readers doors sink m.before m.quiet

    reader_told : SomeHigher (readers_before readers) (readers_after readers) → (cause : Cause) → Ends cause → (cause ≡ causes.StoreFault) ⊎ Met (λ s. Unit {0})
    reader_told more causes.Done m = inr (any_met _ m)
    reader_told more causes.SinkFault m = inr (any_met _ m.1)
    reader_told more causes.DoorFault m = inr (any_met _ m.0)
    reader_told more (causes.Header line kind) m = absurd (not_read_of m.1 more)
    reader_told more (causes.BadTable file row kind) m = absurd (not_read_of m.1 more)
    reader_told more causes.StoreFault m = inl refl
    reader_told more causes.NoMemory (inl m) = absurd (not_read_of m more)
    reader_told more causes.NoMemory (inr m) = inr (any_met _ m.0)
    reader_told more _ m = absurd m

    door_told : SomeHigher (doors_before doors) (doors_after doors) → (cause : Cause) → Ends cause → (cause ≡ causes.DoorFault) ⊎ (cause ≡ causes.NoMemory)
    door_told more causes.Done m = absurd (quiet_of _ (λ s p. p.0) m more)
    door_told more causes.SinkFault m = absurd (quiet_of _ (λ s p. p.0) m.1 more)
    door_told more causes.DoorFault m = inl refl
    door_told more (causes.Header line kind) m = absurd (not_opened v readers doors m.1.before.unopened more)
    door_told more (causes.BadTable file row kind) m = absurd (not_opened v readers doors m.1.before.unopened more)
    door_told more causes.StoreFault m = absurd (not_opened v readers doors m.1.unopened more)
    door_told more causes.NoMemory m = inr refl
    door_told more _ m = absurd m

    -- ---- what is left

    left_met : (P : Summary → Type 0) → Met P → Left v readers doors
    left_met P (s, (h, (reads, (posts, hosted))), p) =
        left_hosted v readers doors a_reader a_door some h (site_name v.dataset) files posts posts s hosted

    before : IsBefore readers sink doors → Left v readers doors
    before m = left_before v readers doors a_reader a_door some sink m

    left : (cause : Cause) → Ends cause → Left v readers doors
    left causes.Done m = left_met _ m
    left causes.SinkFault m = left_met _ m.1
    left causes.DoorFault m = left_met _ m.0
    left (causes.Header line kind) m = before m.1.before
    left (causes.BadTable file row kind) m = before m.1.before
    left causes.StoreFault m = before m.1
    left causes.NoMemory (inl m) = before m.before
    left causes.NoMemory (inr m) = left_met _ m.0
    left _ m = absurd m

    door_rises : (cause : Cause) → Ends cause → status_of cause ≡ 12 → SomeRose (doors_before doors) (doors_after doors)
    door_rises cause m twelve = let failed : Ends causes.DoorFault = subst Ends (door_fault_is cause twelve) m in rose_of failed.0

    pub serve_ends : (cause : Cause) → Ends cause →
        (bay_before bay < bay_after bay → cause ≡ causes.StoreFault) → (sink_before sink < sink_after sink → cause ≡ causes.SinkFault) →
        (status_of cause ≢ 5 → bay.failed bay.new ≡ bay.failed bay.old) →
        bay.header bay.new ≡ bay.header bay.old → bay.files bay.new ≡ bay.files bay.old →
        bay.begun bay.new ≡ bay.begun bay.old → bay.changes bay.new ≡ bay.changes bay.old →
        NeverFalls (bay_before bay) (bay_after bay) → MeetsOnce (bay_before bay) (bay_after bay) → NeverFalls (sink_before sink) (sink_after sink) → MeetsOnce (sink_before sink) (sink_after sink) →
        ServeEnds v bay readers sink doors cause
    serve_ends cause m store_answered sink_answered unfailed header_same files_same begun changes bay_count bay_once sink_count sink_once =
        let leaves = left cause m in
        record {
          means = m;
          bad_header = λ bad. bad_text bad cause m;
          bad_row = λ file row kind bad. answered_row file row kind bad cause m;
          bad_header_store = λ bad five. asked_first bad (store_cause cause m five);
          complete = λ sound bay_quiet quiet taken opened. completes sound bay_quiet quiet taken opened cause m;
          store_answered = store_answered;
          reader_answered = λ more. reader_told more cause m;
          sink_answered = sink_answered;
          door_answered = λ more. door_told more cause m;
          store_outage = λ five. outage (store_cause cause m five);
          unfailed = unfailed;
          door_rose = door_rises cause m;
          unchanged = record { header = header_same; files = files_same; begun = begun; changes = changes };
          bay_count = bay_count;
          bay_once = bay_once;
          idle_readers = leaves.idle_readers;
          reader_counts = leaves.reader_counts;
          sink_count = sink_count;
          sink_once = sink_once;
          idle_doors = leaves.idle_doors;
          door_counts = leaves.door_counts;
          doors_once = leaves.doors_once;
        }
