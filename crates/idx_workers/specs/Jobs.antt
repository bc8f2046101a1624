-- What workers do with their jobs, and what is left of the jobs.
use Rattle.std.specs.Prelude.{◌≡◌, ℕ, ◌<◌, false, List, ◌++◌, [], length, map, slice_index_or, Option, Some, None}
use Rattle.idx_outside.specs.Shape.{Shape}
use Rattle.idx_lock.specs.Seats.{SeatValue, seat_value}
use Rattle.idx_turn.specs.LockId.{LockId}
use Rattle.idx_turn.specs.Stands.{stand}
use Rattle.idx_serve.specs.declared.door.Summary.{Summary}
use Rattle.idx_serve.specs.declared.site.Site.{Site}
use Rattle.idx_workers.specs.Workers.{IsBack, IsTotal, IsWork, Tells, Work, work}
use Rattle.idx_workers.specs.declared.job.Job.{Job}

-- the seat in its place, or a seat of no lock while it is out
abbrev pub seat_in : Option SeatValue → SeatValue
seat_in (Some seat) = seat
seat_in None = seat_value (record { marks = [] }) (stand (record { blocks = 0; lengths = [] }) 0 []) false

module _ {S D R : Type 0} where
  -- what a job came to
  abbrev pub work_of : Job S D R → Work
  work_of job = work (seat_in job.place) job.summary

  -- the doors and the readers of jobs, and what they came to
  abbrev pub doors_of : List (Job S D R) → List D
  doors_of jobs = map (λ job. job.door) jobs

  abbrev pub readers_of : List (Job S D R) → List R
  readers_of jobs = map (λ job. job.reader) jobs

  abbrev pub works_of : List (Job S D R) → List Work
  works_of jobs = map work_of jobs

  -- a job begins on this seat
  abbrev pub IsBegun : SeatValue → Job S D R → Type 0
  IsBegun seat job = job.place ≡ Some seat

  -- the seat of a job is in its place, of this lock and no writer, and stands for values of this shape
  pub record IsReady (lock : LockId) (shape : Shape) (job : Job S D R) : Type 0 where
    pub is : job.place ≡ Some (seat_in job.place)
    pub of : (seat_in job.place).lock ≡ lock
    pub reader : (seat_in job.place).writer ≡ false
    pub stands : (seat_in job.place).seen.shape ≡ shape

  -- what a worker makes of its job
  pub record Works {L : Type 0} (tell : Tells L D R) (site : Site) (old new : Job S D R) : Type 0 where
    pub is : new.place ≡ Some (seat_in new.place)
    pub work : IsWork tell site (seat_in old.place) old.door new.door old.reader new.reader (work_of new)

  -- what all workers make of their jobs
  pub record AllWork {L : Type 0} (tell : Tells L D R) (site : Site) (old new : List (Job S D R)) : Type 0 where
    pub number : length new ≡ length old
    pub each : (i : ℕ) (d : Job S D R) → i < length old → Works tell site (slice_index_or old i d) (slice_index_or new i d)

  -- How far the jobs were given back, of which these are left: the doors and the readers of the rest stand in front of the others,
  -- their seats are one with the seat, and this is what they came to.
  pub record GivenBack (seat : SeatValue) (all left : List (Job S D R)) (doors_old doors : List D) (readers_old readers : List R) (back : SeatValue) (total : Summary) : Type 0 where
    pub rest : List (Job S D R)
    pub all_are : left ++ rest ≡ all
    pub doors_are : doors ≡ doors_of rest ++ doors_old
    pub readers_are : readers ≡ readers_of rest ++ readers_old
    pub returns : IsBack seat (works_of rest) back
    pub sums : IsTotal (works_of rest) total
