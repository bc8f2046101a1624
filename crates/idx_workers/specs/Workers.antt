-- What comes of serving by many workers: worker i serves at door i with reader i.
use Rattle.std.specs.Prelude.{◌≡◌, ℕ, ◌<◌, Bool, true, false, if◌then◌else◌, List, [], ◌∷◌, All, drop, length, map, slice_index_or, sum_by, Option, Some, None}
use Rattle.std.specs.List.{list_any}
use Rattle.idx_outside.specs.Cause.{MeetsOnce}
use Rattle.idx_outside.specs.Doors.{DoorTold}
use Rattle.idx_lock.specs.Seats.{SeatValue}
use Rattle.idx_serve.specs.Later.{IsLater}
use Rattle.idx_serve.specs.Visits.{AtDoor, IsEnd, LinkTells, capped}
use Rattle.idx_serve.specs.declared.door.ServeEnd.{ServeEnd}
use Rattle.idx_serve.specs.declared.door.ServeEnd.TheVariants as S
use Rattle.idx_serve.specs.declared.door.Summary.{Summary}
use Rattle.idx_serve.specs.declared.site.Site.{Site}
use Rattle.idx_session.specs.Entry.{State, state_of}
use Rattle.idx_turn.specs.Stands.{Begins}

-- What links, doors and readers tell, by the ghost members of their traits.
pub record Tells (L D R : Type 0) : Type 0 where
  pub links : LinkTells L
  pub told : D → Option (DoorTold L)
  pub door_faults : D → ℕ
  pub reader_faults : R → ℕ
  pub reads : R → ℕ

-- the same of its parts
abbrev pub tells : {L D R : Type 0} → LinkTells L → (D → Option (DoorTold L)) → (D → ℕ) → (R → ℕ) → (R → ℕ) → Tells L D R
tells links told door_faults reader_faults reads =
    record { links = links; told = told; door_faults = door_faults; reader_faults = reader_faults; reads = reads }

-- What a worker came to: its seat at its end, and how many links and heads it served and how it ended.
pub record Work : Type 0 where
  pub seat : SeatValue
  pub summary : Summary

-- the two together
abbrev pub work : SeatValue → Summary → Work
work seat summary = record { seat = seat; summary = summary }

-- how these workers ended
abbrev pub ends_of : List Work → List ServeEnd
ends_of works = map (λ w. w.summary.end) works

-- there was no memory for this worker or for a head of one of its links
abbrev pub is_memoryless : ServeEnd → Bool
is_memoryless S.NoMemory = true
is_memoryless end = false

-- the fault of the first door that failed; without one all are done
abbrev pub first_fault : List ServeEnd → ServeEnd
first_fault [] = S.Done
first_fault (S.DoorFault faults ∷ ends) = S.DoorFault faults
first_fault (end ∷ ends) = first_fault ends

-- How all ended: without memory where one of them did, or else with the fault of the least worker whose door failed, or
-- else done.
abbrev pub end_of : List ServeEnd → ServeEnd
end_of ends = if list_any is_memoryless ends then S.NoMemory else first_fault ends

-- The links of all workers and their heads are added up, each sum to the end of its type, and this is how all ended.
pub record IsTotal (works : List Work) (total : Summary) : Type 0 where
  pub links : total.links ≡ capped (sum_by (λ w. w.summary.links) works)
  pub replies : total.replies ≡ capped (sum_by (λ w. w.summary.replies) works)
  pub end : total.end ≡ end_of (ends_of works)

-- The seat that comes back is of the same lock and no writer, the shape is the same, and it has seen all that the one
-- handed in had seen and all that those of the workers have.
pub record IsBack (seat : SeatValue) (works : List Work) (back : SeatValue) : Type 0 where
  pub lock : back.lock ≡ seat.lock
  pub writer : back.writer ≡ false
  pub shape : back.seen.shape ≡ seat.seen.shape
  pub begins : Begins seat.seen.posts back.seen.posts
  pub each : All (λ w. Begins w.seat.seen.posts back.seen.posts) works

-- there are as many as before, and those behind the first so many are as before
pub record KeepsBehind {A : Type 0} (count : ℕ) (old new : List A) : Type 0 where
  pub number : length new ≡ length old
  pub behind : drop count new ≡ drop count old

-- no link, no head, and no memory
abbrev pub nothing_served : Summary
nothing_served = record { links = 0; replies = 0; end = S.NoMemory }

module _ {L D R : Type 0} (tell : Tells L D R) where
  -- What a worker's seat and reader tell. A seat tells no hall. How often it took the hall is counted from the beginning of
  -- the call, modulo 2^64.
  abbrev pub state_at : SeatValue → R → ℕ → State
  state_at seat reader holds = state_of seat.seen.posts seat.writer (tell.reader_faults reader) (tell.reads reader) None holds

  module _ (site : Site) where
    -- What a worker came to that began on this seat: what is promised of one who serves a door alone, by what its own seat
    -- had seen when it began and when it ended. Its door counted one fault at most.
    pub record IsWork (seat : SeatValue) (door_old door_new : D) (reader_old reader_new : R) (w : Work) : Type 0 where
      pub holds : ℕ
      pub starved : Bool
      pub served : AtDoor tell.links false site (state_at seat reader_old 0) (state_at w.seat reader_new holds)
          (tell.told door_old) (tell.told door_new) w.summary.links w.summary.replies starved
      pub end : IsEnd (tell.told door_new) (tell.door_faults door_old) (tell.door_faults door_new) w.summary.links starved w.summary.end
      pub once : MeetsOnce (tell.door_faults door_old) (tell.door_faults door_new)
      pub later : IsLater (state_at seat reader_old 0) (state_at w.seat reader_new holds) seat.seen.shape w.seat.seen.shape
          (Some seat.lock) (Some w.seat.lock)

    -- So many workers served, which all began on a seat like the one handed in, and this came of each.
    pub record AreWorks (workers : ℕ) (seat : SeatValue) (doors_old doors_new : List D) (readers_old readers_new : List R)
        (works : List Work) : Type 0 where
      pub number : length works ≡ workers
      pub each : (i : ℕ) (d : D) (r : R) (w : Work) → i < workers →
          IsWork seat (slice_index_or doors_old i d) (slice_index_or doors_new i d)
          (slice_index_or readers_old i r) (slice_index_or readers_new i r) (slice_index_or works i w)
      pub doors : KeepsBehind workers doors_old doors_new
      pub readers : KeepsBehind workers readers_old readers_new

    -- What came of serving by so many workers, from the seat that was handed in to the one that comes back.
    pub record AreServed (workers : ℕ) (seat back : SeatValue) (doors_old doors_new : List D)
        (readers_old readers_new : List R) (total : Summary) : Type 0 where
      pub works : List Work
      pub made : AreWorks workers seat doors_old doors_new readers_old readers_new works
      pub sums : IsTotal works total
      pub returns : IsBack seat works back

-- there was no memory for the workers, and none began
pub record NoneBegan {D R : Type 0} (seat back : SeatValue) (doors_old doors_new : List D) (readers_old readers_new : List R)
    (total : Summary) : Type 0 where
  pub same_seat : back ≡ seat
  pub same_doors : doors_new ≡ doors_old
  pub same_readers : readers_new ≡ readers_old
  pub none : total ≡ nothing_served
