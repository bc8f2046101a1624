-- What the counts of doors and readers come to where workers served.
use Rattle.std.proofs.Common.{◌≡◌, ◌⊎◌, ℕ, zero, suc, ◌+◌, ◌-◌, ◌<◌, ◌≤◌, Bool, true, false, ◌||◌, List, [], ◌∷◌, Option, length, map, drop, get_or, slice_index, inl, inr, refl, sym, ap, subst, ◌∙◌, arith}
use Rattle.std.specs.Prelude.{if◌then◌else◌}
use Rattle.std.specs.List.{list_any}
use Rattle.std.proofs.lemmas.Bool.{cases_lt}
use Rattle.std.proofs.lemmas.List.{get_or-drop, get_or-map, get_or_past, length-map}
use Rattle.idx_outside.specs.Cause.{MeetsOnce, NeverFalls, Rose}
use Rattle.idx_outside.specs.Counts.{EachMeetsOnce}
use Rattle.idx_outside.specs.Doors.{DoorTold}
use Rattle.idx_lock.specs.Seats.{SeatValue}
use Rattle.idx_serve.specs.Visits.{IsEnd}
use Rattle.idx_serve.specs.declared.door.ServeEnd.{ServeEnd}
use Rattle.idx_serve.specs.declared.door.ServeEnd.TheVariants as S
use Rattle.idx_serve.specs.declared.door.Summary.{Summary}
use Rattle.idx_serve.specs.declared.site.Site.{Site}
use Rattle.idx_workers.specs.Workers.{AreServed, AreWorks, IsWork, KeepsBehind, NoneBegan, Tells, Work, end_of, ends_of, first_fault, is_memoryless}

-- ---- how all ended

-- an end that is not want of memory is that of some worker
by_test : (b : Bool) (fault end : ServeEnd) → (if b then S.NoMemory else fault) ≡ end → (end ≡ S.NoMemory → ⊥) → (b ≡ false) × (fault ≡ end)
by_test true fault end is other = absurd (other (sym is))
by_test false fault end is other = (refl, is)

first_done : (ends : List ServeEnd) → list_any is_memoryless ends ≡ false → first_fault ends ≡ S.Done → (i : ℕ) (d : ServeEnd) → i < length ends →
    get_or ends i d ≡ S.Done
first_done [] any is i d lt = absurd (omega (arith, lt))
first_done (S.Done ∷ ends) any is zero d lt = refl
first_done (S.Done ∷ ends) any is (suc i) d lt = first_done ends any is i d (omega (arith, lt))
first_done (S.DoorFault faults ∷ ends) any is i d lt = absurd (cc (is))
first_done (S.NoMemory ∷ ends) any is i d lt = absurd (cc (any))

-- The worker of this number ended with this fault of its door.
abbrev FailedAt : List ServeEnd → ℕ → ℕ → Type 0
FailedAt ends faults i = (i < length ends) × ((d : ServeEnd) → get_or ends i d ≡ S.DoorFault faults)

first_failed : (ends : List ServeEnd) (faults : ℕ) → list_any is_memoryless ends ≡ false → first_fault ends ≡ S.DoorFault faults → (i : ℕ) × FailedAt ends faults i
first_failed [] faults any is = absurd (cc (is))
first_failed (S.Done ∷ ends) faults any is =
    let later = first_failed ends faults any is in
    (suc later.0, (omega (arith, later.1.0), later.1.1))
first_failed (S.DoorFault other ∷ ends) faults any is = (0, (omega arith, λ d. is))
first_failed (S.NoMemory ∷ ends) faults any is = absurd (cc (any))

-- where all are done, each is
all_done : (ends : List ServeEnd) → end_of ends ≡ S.Done → (i : ℕ) (d : ServeEnd) → i < length ends → get_or ends i d ≡ S.Done
all_done ends is =
    let both = by_test (list_any is_memoryless ends) (first_fault ends) S.Done is (λ e. cc (e)) in
    first_done ends both.0 both.1

-- where a door failed, it is that of some worker
one_failed : (ends : List ServeEnd) (faults : ℕ) → end_of ends ≡ S.DoorFault faults → (i : ℕ) × FailedAt ends faults i
one_failed ends faults is =
    let both = by_test (list_any is_memoryless ends) (first_fault ends) (S.DoorFault faults) is (λ e. cc (e)) in
    first_failed ends faults both.0 both.1

-- ---- objects of a list

some_of : {X : Type 0} (xs : List X) (i : ℕ) → i < length xs → X
some_of [] i within = absurd (omega (arith, within))
some_of (x ∷ xs) i within = x

-- the count of the one of this number
count_at : {X : Type 0} (count : X → ℕ) (xs : List X) (i : ℕ) (d : X) → i < length xs → slice_index (map count xs) i ≡ count (get_or xs i d)
count_at count xs i d within = get_or-map count xs i d 0 within

-- those behind the first are as they were
same_behind : {X : Type 0} (number : ℕ) (old new : List X) → KeepsBehind number old new → (i : ℕ) (d : X) → number ≤ i → get_or new i d ≡ get_or old i d
same_behind number old new keeps i d behind =
    let at : number + (i - number) ≡ i = omega (arith, behind) in
    ap (λ (k : ℕ). get_or new k d) (sym at) ∙ sym (get_or-drop number new (i - number) d)
    ∙ ap (λ (xs : List _). get_or xs (i - number) d) keeps.behind
    ∙ get_or-drop number old (i - number) d ∙ ap (λ (k : ℕ). get_or old k d) at

-- What holds of the counts of each of the first holds of those of all, where it holds of equal counts.
of_all : {X : Type 0} (count : X → ℕ) (Holds : ℕ → ℕ → Type 0) (number : ℕ) (old new : List X) → KeepsBehind number old new → ((n : ℕ) → Holds n n) →
    ((i : ℕ) (d : X) → i < number → i < length old → Holds (count (get_or old i d)) (count (get_or new i d))) → (i : ℕ) → i < length (map count old) →
    Holds (slice_index (map count old) i) (slice_index (map count new) i)
of_all {X} count Holds number old new keeps same first i within =
    let in_old : i < length old = omega (arith, within, length-map old count) in
    let in_new : i < length new = omega (arith, in_old, keeps.number) in
    let d : X = some_of old i in_old in
    let here : Holds (count (get_or old i d)) (count (get_or new i d)) = by_place d in_old (cases_lt i number) in
    rw (count_at count old i d in_old, count_at count new i d in_new) here
  where
    by_place : (d : X) → i < length old → (i < number) ⊎ (number ≤ i) → Holds (count (get_or old i d)) (count (get_or new i d))
    by_place d lt (inl front) = first i d front lt
    by_place d lt (inr behind) =
        subst (λ (x : X). Holds (count (get_or old i d)) (count x)) (sym (same_behind number old new keeps i d behind)) (same (count (get_or old i d)))

as_many : {X : Type 0} (count : X → ℕ) (number : ℕ) (old new : List X) → KeepsBehind number old new → length (map count new) ≡ length (map count old)
as_many count number old new keeps = length-map new count ∙ keeps.number ∙ sym (length-map old count)

-- ---- what workers leave of the counts

-- a door's count does not fall
end_count : {L : Type 0} (told : Option (DoorTold L)) (before after links : ℕ) (starved : Bool) (end : ServeEnd) → IsEnd told before after links starved end → NeverFalls before after
end_count told before after links starved S.Done (left, same, fed) = omega (arith, same)
end_count told before after links starved (S.DoorFault faults) (inl more, is, fed) = omega (arith, more)
end_count told before after links starved (S.DoorFault faults) (inr (first, last), is, fed) = omega (arith, first, last)
end_count told before after links starved S.NoMemory (inl (hungry, inl (left, same))) = omega (arith, same)
end_count told before after links starved S.NoMemory (inl (hungry, inr (inl more))) = omega (arith, more)
end_count told before after links starved S.NoMemory (inl (hungry, inr (inr (first, last)))) = omega (arith, first, last)
end_count told before after links starved S.NoMemory (inr (many, same)) = omega (arith, same)

module _ {L D R : Type 0} (tell : Tells L D R) (site : Site) (workers : ℕ) (seat : SeatValue) (doors_old doors_new : List D) (readers_old readers_new : List R)
    (a_door : workers ≤ length doors_old) (a_reader : workers ≤ length readers_old) where
  abbrev Made : List Work → Type 0
  Made works = AreWorks tell site workers seat doors_old doors_new readers_old readers_new works

  -- what the worker of this number came to
  work_at : (works : List Work) → Made works → (i : ℕ) (d : D) (w : Work) → i < workers →
      (r : R) × IsWork tell site seat (get_or doors_old i d) (get_or doors_new i d) (get_or readers_old i r) (get_or readers_new i r) (get_or works i w)
  work_at works made i d w within =
      let r : R = some_of readers_old i (omega (arith, within, a_reader)) in
      (r, made.each i d r w within)

  end_at : (works : List Work) → Made works → (i : ℕ) (d : D) (w : Work) → i < workers → (end : ServeEnd) → get_or (ends_of works) i S.Done ≡ end →
      (links : ℕ) × (starved : Bool) × IsEnd (tell.told (get_or doors_new i d)) (tell.door_faults (get_or doors_old i d)) (tell.door_faults (get_or doors_new i d)) links starved end
  end_at works made i d w within end is =
      let k = (work_at works made i d w within).1 in
      let in_works : i < length works = omega (arith, within, made.number) in
      let same : (get_or works i w).summary.end ≡ end = sym (get_or-map (λ (x : Work). x.summary.end) works i w S.Done in_works) ∙ is in (
        (get_or works i w).summary.links,
        k.starved,
        subst (IsEnd (tell.told (get_or doors_new i d)) (tell.door_faults (get_or doors_old i d)) (tell.door_faults (get_or doors_new i d))
            (get_or works i w).summary.links k.starved) same k.end,
      )

  module _ (works : List Work) (made : Made works) where
    some_work : (i : ℕ) → i < workers → Work
    some_work i within = some_of works i (omega (arith, within, made.number))

    -- no door's count falls
    pub doors_fall : (length (map tell.door_faults doors_new) ≡ length (map tell.door_faults doors_old)) × ((i : ℕ) → i < length (map tell.door_faults doors_old) →
        NeverFalls (slice_index (map tell.door_faults doors_old) i) (slice_index (map tell.door_faults doors_new) i))
    doors_fall = (
      as_many tell.door_faults workers doors_old doors_new made.doors,
      of_all tell.door_faults NeverFalls workers doors_old doors_new made.doors (λ n. omega arith) (λ i d within lt.
          let k = end_at works made i d (some_work i within) within _ refl in
          end_count _ _ _ k.0 k.1 _ k.2),
    )

    -- each door counts one fault at most
    pub doors_once : EachMeetsOnce (map tell.door_faults doors_old) (map tell.door_faults doors_new)
    doors_once i = by_place (cases_lt i (length (map tell.door_faults doors_old)))
      where
        by_place : (i < length (map tell.door_faults doors_old)) ⊎ (length (map tell.door_faults doors_old) ≤ i) →
            MeetsOnce (slice_index (map tell.door_faults doors_old) i) (slice_index (map tell.door_faults doors_new) i)
        by_place (inl within) =
            of_all tell.door_faults MeetsOnce workers doors_old doors_new made.doors (λ n. omega arith)
            (λ i d front lt. (work_at works made i d (some_work i front) front).1.once) i within
        by_place (inr past) =
            let past_new : length (map tell.door_faults doors_new) ≤ i = omega (arith, past, as_many tell.door_faults workers doors_old doors_new made.doors) in
            omega (arith, get_or_past (map tell.door_faults doors_new) i 0 past_new)

    -- no reader's count falls
    pub readers_fall : (length (map tell.reader_faults readers_new) ≡ length (map tell.reader_faults readers_old)) × ((i : ℕ) → i < length (map tell.reader_faults readers_old) →
        NeverFalls (slice_index (map tell.reader_faults readers_old) i) (slice_index (map tell.reader_faults readers_new) i))
    readers_fall = (
      as_many tell.reader_faults workers readers_old readers_new made.readers,
      of_all tell.reader_faults NeverFalls workers readers_old readers_new made.readers (λ n. omega arith) (λ i r within lt.
          let d : D = some_of doors_old i (omega (arith, within, a_door)) in
          (made.each i d r (some_work i within) within).later.count),
    )

    -- where all are done, no door counted a fault
    pub doors_quiet : end_of (ends_of works) ≡ S.Done → (i : ℕ) → i < length (map tell.door_faults doors_old) →
        slice_index (map tell.door_faults doors_new) i ≡ slice_index (map tell.door_faults doors_old) i
    doors_quiet done = of_all tell.door_faults (λ before after. after ≡ before) workers doors_old doors_new made.doors (λ n. refl) (λ i d within lt.
        let is = all_done (ends_of works) done i S.Done (omega (arith, within, made.number, length-map works (λ (x : Work). x.summary.end))) in
        (end_at works made i d (some_work i within) within S.Done is).2.1)

    -- where a door failed, some door counted a fault
    pub door_rose : (faults : ℕ) → end_of (ends_of works) ≡ S.DoorFault faults → (i : ℕ) × ((i < length (map tell.door_faults doors_old)) ×
        Rose (slice_index (map tell.door_faults doors_old) i) (slice_index (map tell.door_faults doors_new) i))
    door_rose faults failed =
        let found = one_failed (ends_of works) faults failed in
        let i = found.0 in
        let within : i < workers = omega (arith, found.1.0, made.number, length-map works (λ (x : Work). x.summary.end)) in
        let in_old : i < length doors_old = omega (arith, within, a_door) in
        let in_new : i < length doors_new = omega (arith, in_old, made.doors.number) in
        let d : D = some_of doors_old i in_old in
        let rose : Rose (tell.door_faults (get_or doors_old i d)) (tell.door_faults (get_or doors_new i d)) =
        (end_at works made i d (some_work i within) within (S.DoorFault faults) (found.1.1 S.Done)).2.0 in
        (i, (omega (arith, in_old, length-map doors_old tell.door_faults), rw (count_at tell.door_faults doors_old i d in_old, count_at tell.door_faults doors_new i d in_new) rose))
