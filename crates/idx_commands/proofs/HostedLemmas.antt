-- What a dataset that was hosted leaves of the readers and the doors, as a run of `serve` sees them.
use Rattle.std.proofs.Common.{◌≡◌, ◌≢◌, ◌⊎◌, ℕ, zero, suc, ◌+◌, ◌<◌, ◌≤◌, List, [], ◌∷◌, length, map, take, drop, slice_index, Option, inl, inr, refl, sym, ◌∙◌, ap, subst, arith}
use Rattle.std.proofs.lemmas.List.{drop-drop, length-map}
use Rattle.idx_outside.specs.Cause.{NeverFalls}
use Rattle.idx_outside.specs.Counts.{EachMeetsOnce}
use Rattle.idx_outside.specs.Objects.{OthersUntouched, faults_at}
use Rattle.idx_outside.specs.declared.mem_file.MemFile.{MemFile}
use Rattle.idx_header.specs.Header.{HeaderValue}
use Rattle.idx_hall.specs.Posts.{Post}
use Rattle.idx_lock.specs.Seats.{SeatValue}
use Rattle.idx_gather.specs.Gather.{NoneFalls}
use Rattle.idx_convert.specs.Counts.{SomeHigher, SomeRose}
use Rattle.idx_serve.specs.declared.door.ServeEnd.{ServeEnd}
use Rattle.idx_serve.specs.declared.door.ServeEnd.TheVariants as ends
use Rattle.idx_serve.specs.declared.door.Summary.{Summary}
use Rattle.idx_workers.specs.Workers.{AreServed, AreWorks, KeepsBehind, NoneBegan, Work, end_of, ends_of}
use Rattle.idx_workers.proofs.CountLemmas.{door_rose, doors_fall, doors_once, doors_quiet, readers_fall}
use Rattle.idx_query.specs.Capacity.{capacity_for}
use Rattle.idx_host.specs.Host.{IsHosted, serving_seat, site_of}
use Rattle.idx_words.specs.ServeValue.{ServeValue}
use Rattle.idx_commands.specs.Seen.{DoorsSeen, ReadersSeen, SinkSeen, doors_after, doors_before, reader_after, reader_before, readers_after, readers_before}
use Rattle.idx_commands.specs.ServeRun.{IsBefore, tells_of, workers_in}
use Rattle.idx_commands.proofs.OnceLemmas.{none_met}

-- ---- the counts of some objects

-- where only the first was touched, the others' counts are as they were
pub other_count : {T : Type 0} (count : T → ℕ) (old new : List T) → length new ≡ length old → OthersUntouched old new 0 → (i : ℕ) →
    slice_index (map count new) (suc i) ≡ slice_index (map count old) (suc i)
other_count count [] [] number others i = refl
other_count count [] (y ∷ new) number others i = absurd (omega (arith, number))
other_count count (x ∷ old) [] number others i = absurd (omega (arith, number))
other_count count (x ∷ old) (y ∷ new) number others i = ap (λ xs. slice_index (map count xs) i) others.behind

as_many_counts : {T : Type 0} (count : T → ℕ) (old new : List T) → length new ≡ length old → length (map count new) ≡ length (map count old)
as_many_counts count old new number = length-map new count ∙ number ∙ sym (length-map old count)

-- and no count fell, where the first one's did not
pub first_counts_fall : {T : Type 0} (count : T → ℕ) (old new : List T) → length new ≡ length old → OthersUntouched old new 0 →
    NeverFalls (faults_at count old 0) (faults_at count new 0) → NoneFalls (map count old) (map count new)
first_counts_fall count old new number others first = (as_many_counts count old new number, each)
  where
    each : (i : ℕ) → i < length (map count old) → slice_index (map count old) i ≤ slice_index (map count new) i
    each zero within = first
    each (suc i) within = omega (arith, other_count count old new number others i)

-- and none is higher, where the first one's is not
pub none_above : {T : Type 0} (count : T → ℕ) (old new : List T) → length new ≡ length old → OthersUntouched old new 0 →
    faults_at count new 0 ≡ faults_at count old 0 → SomeHigher (map count old) (map count new) → ⊥
none_above count old new number others first (zero, (within, more)) = omega (arith, first, more)
none_above count old new number others first (suc i, (within, more)) = omega (arith, other_count count old new number others i, more)

-- no count fell from one time to the next, and so from the first to the last
falls_on : (one two three : List ℕ) → NoneFalls one two → NoneFalls two three → NoneFalls one three
falls_on one two three (many, first) (more, second) = (more ∙ many, each)
  where
    each : (i : ℕ) → i < length one → slice_index one i ≤ slice_index three i
    each i within = omega (arith, first i within, second i (omega (arith, within, many)))

pub others_same : {T : Type 0} (old new : List T) → new ≡ old → OthersUntouched old new 0
others_same old new same = record { before = ap (λ xs. take 0 xs) same; behind = ap (λ xs. drop (0 + 1) xs) same }

same_falls : {T : Type 0} (count : T → ℕ) (old new : List T) → new ≡ old → NoneFalls (map count old) (map count new)
same_falls count old new same = subst (λ xs. NoneFalls (map count old) (map count xs)) (sym same) (refl, λ i within. omega arith)

pub not_above : (before after : List ℕ) → ((i : ℕ) → i < length before → slice_index after i ≡ slice_index before i) → SomeHigher before after → ⊥
not_above before after same (i, (within, more)) = omega (arith, same i within, more)

-- ---- what is behind the first

-- where only the first was touched, those behind the first so many are as they were
behind_more : {T : Type 0} (count : ℕ) (old new : List T) → 1 ≤ count → OthersUntouched old new 0 → drop count new ≡ drop count old
behind_more zero old new some others = absurd (omega (arith, some))
behind_more (suc count) old new some others =
    let one : 1 + count ≡ suc count = omega arith in
    ap (λ (k : ℕ). drop k new) (sym one) ∙ sym (drop-drop count 1 new) ∙ ap (drop count) others.behind ∙ drop-drop count 1 old
    ∙ ap (λ (k : ℕ). drop k old) one

keeps_on : {T : Type 0} (count : ℕ) (one two three : List T) → KeepsBehind count one two → KeepsBehind count two three → KeepsBehind count one three
keeps_on count one two three first second = record { number = second.number ∙ first.number; behind = second.behind ∙ first.behind }

keeps_all : {T : Type 0} (count : ℕ) (old new : List T) → new ≡ old → KeepsBehind count old new
keeps_all count old new same = record { number = ap length same; behind = ap (drop count) same }

-- ---- what is left

module _ {R D L : Type 0} (v : ServeValue) (readers : ReadersSeen R) (doors : DoorsSeen D L) where
  -- What a run leaves of readers and doors.
  pub record Left : Type 0 where
    pub idle_readers : KeepsBehind (workers_in v readers doors) readers.old readers.new
    pub reader_counts : NoneFalls (readers_before readers) (readers_after readers)
    pub idle_doors : KeepsBehind (workers_in v readers doors) doors.old doors.new
    pub door_counts : NoneFalls (doors_before doors) (doors_after doors)
    pub doors_once : EachMeetsOnce (doors_before doors) (doors_after doors)

  -- where the doors are as they were, none is higher
  pub not_opened : doors.new ≡ doors.old → SomeHigher (doors_before doors) (doors_after doors) → ⊥
  not_opened same = not_above (doors_before doors) (doors_after doors) (λ i within. ap (λ these. slice_index (map doors.faults these) i) same)

  -- where the first reader counted no fault and the others were not touched, none is higher
  pub not_loaded : {K : Type 0} (sink : SinkSeen K) → IsBefore readers sink doors → reader_after readers ≡ reader_before readers →
      SomeHigher (readers_before readers) (readers_after readers) → ⊥
  not_loaded sink m quiet = none_above readers.faults readers.old readers.new m.reader_list m.others quiet

  module _ (a_reader : 0 < length readers.old) (a_door : 0 < length doors.old) (some : 1 ≤ v.workers) where
    abbrev workers : ℕ
    workers = workers_in v readers doors

    one_worker : 1 ≤ workers
    one_worker = omega (arith, a_reader, a_door, some)

    door_each : workers ≤ length doors.old
    door_each = omega arith

    reader_each : (loaded : List R) → length loaded ≡ length readers.old → workers ≤ length loaded
    reader_each loaded number = omega (arith, number)

    -- before the first link
    pub left_before : {K : Type 0} (sink : SinkSeen K) → IsBefore readers sink doors → Left
    left_before sink m = record {
      idle_readers = record { number = m.reader_list; behind = behind_more workers readers.old readers.new one_worker m.others };
      reader_counts = first_counts_fall readers.faults readers.old readers.new m.reader_list m.others m.reader_count;
      idle_doors = keeps_all workers doors.old doors.new m.unopened;
      door_counts = same_falls doors.faults doors.old doors.new m.unopened;
      doors_once = none_met doors.faults doors.old doors.new m.unopened;
    }

    module _ (h : HeaderValue) (name : List ℕ) (files : Option (List MemFile)) (posts last : List Post) (s : Summary)
        (hosted : IsHosted (tells_of readers doors) h name files v.cache workers doors.old doors.new readers.old readers.new posts last s) where
      abbrev Loaded : List R
      Loaded = hosted.loaded

      abbrev Seat : SeatValue
      Seat = serving_seat hosted.served.lock h (capacity_for h v.cache) posts

      abbrev Served : Type 0
      Served = AreServed (tells_of readers doors) (site_of h name) workers Seat hosted.served.back doors.old doors.new Loaded readers.new s

      abbrev Unbegun : Type 0
      Unbegun = NoneBegan Seat hosted.served.back doors.old doors.new Loaded readers.new s

      -- What workers leave.
      abbrev Leave : Type 0
      Leave =
          NoneFalls (doors_before doors) (doors_after doors) × NoneFalls (map readers.faults Loaded) (readers_after readers)
          × KeepsBehind workers doors.old doors.new × KeepsBehind workers Loaded readers.new

      leave : Served ⊎ Unbegun → Leave
      leave (inl served) = (
        doors_fall (tells_of readers doors) (site_of h name) workers Seat doors.old doors.new Loaded readers.new door_each (reader_each Loaded hosted.load.number) served.works served.made,
        readers_fall (tells_of readers doors) (site_of h name) workers Seat doors.old doors.new Loaded readers.new door_each (reader_each Loaded hosted.load.number) served.works served.made,
        served.made.doors,
        served.made.readers,
      )
      leave (inr none) = (
        same_falls doors.faults doors.old doors.new none.same_doors,
        same_falls readers.faults Loaded readers.new none.same_readers,
        keeps_all workers doors.old doors.new none.same_doors,
        keeps_all workers Loaded readers.new none.same_readers,
      )

      -- each door met one fault at most
      met : Served ⊎ Unbegun → EachMeetsOnce (doors_before doors) (doors_after doors)
      met (inl served) =
          doors_once (tells_of readers doors) (site_of h name) workers Seat doors.old doors.new Loaded readers.new door_each (reader_each Loaded hosted.load.number) served.works served.made
      met (inr none) = none_met doors.faults doors.old doors.new none.same_doors

      pub left_hosted : Left
      left_hosted =
          let load = hosted.load in
          let end = leave hosted.served.served in
          record {
            idle_readers = keeps_on workers readers.old Loaded readers.new
                (record { number = load.number; behind = behind_more workers readers.old Loaded one_worker load.others }) end.3;
            reader_counts = falls_on (readers_before readers) (map readers.faults Loaded) (readers_after readers)
                (first_counts_fall readers.faults readers.old Loaded load.number load.others (omega (arith, load.quiet))) end.1;
            idle_doors = end.2;
            door_counts = end.0;
            doors_once = met hosted.served.served;
          }

      -- how the workers ended, where that was not for want of memory
      abbrev WorksEnd : ServeEnd → Type 0
      WorksEnd end =
          (works : List Work) × AreWorks (tells_of readers doors) (site_of h name) workers Seat doors.old doors.new Loaded readers.new works
          × (end_of (ends_of works) ≡ end)

      works_end : (end : ServeEnd) → s.end ≡ end → (end ≢ ends.NoMemory) → Served ⊎ Unbegun → WorksEnd end
      works_end end is other (inl served) = (served.works, served.made, sym served.sums.end ∙ is)
      works_end end is other (inr none) = absurd (other (sym is ∙ ap (λ (t : Summary). t.end) none.none))

      pub door_of_fault : (faults : ℕ) → s.end ≡ ends.DoorFault faults → SomeRose (doors_before doors) (doors_after doors)
      door_of_fault faults is =
          let found = works_end (ends.DoorFault faults) is (λ e. cc (e)) hosted.served.served in
          door_rose (tells_of readers doors) (site_of h name) workers Seat doors.old doors.new Loaded readers.new door_each (reader_each Loaded hosted.load.number) found.0 found.1 faults found.2

      pub doors_of_done : s.end ≡ ends.Done → SomeHigher (doors_before doors) (doors_after doors) → ⊥
      doors_of_done is =
          let found = works_end ends.Done is (λ e. cc (e)) hosted.served.served in
          not_above (doors_before doors) (doors_after doors)
          (doors_quiet (tells_of readers doors) (site_of h name) workers Seat doors.old doors.new Loaded readers.new door_each (reader_each Loaded hosted.load.number) found.0 found.1 found.2)
