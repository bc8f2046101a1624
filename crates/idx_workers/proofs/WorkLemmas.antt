-- From jobs to what the workers came to.
use Rattle.std.proofs.Common.{◌≡◌, ℕ, ◌<◌, false, List, [], ◌∷◌, ◌++◌, Some, length, map, drop, get_or, sym, ap, subst, ◌∙◌, arith, length-append}
use Rattle.std.specs.Prelude.{All}
use Rattle.std.proofs.lemmas.List.{get_or-map, get_or_append_left, length-map}
use Rattle.std.proofs.Math.Seq.{drop-append_seam}
use Rattle.idx_outside.specs.Shape.{Shape}
use Rattle.idx_lock.specs.Seats.{SeatValue}
use Rattle.idx_turn.specs.LockId.{LockId}
use Rattle.idx_serve.specs.declared.site.Site.{Site}
use Rattle.idx_workers.specs.Jobs.{AllWork, IsBegun, IsReady, Works, doors_of, readers_of, seat_in, work_of, works_of}
use Rattle.idx_workers.specs.Workers.{AreWorks, IsWork, KeepsBehind, Tells}
use Rattle.idx_workers.specs.declared.job.Job.{Job}

some_of : {X : Type 0} (xs : List X) (i : ℕ) → i < length xs → X
some_of [] i within = absurd (omega arith)
some_of (x ∷ xs) i within = x

-- an element of what was moved out of jobs, in front of the others
at_job : {X Y : Type 0} (f : X → Y) (jobs : List X) (left : List Y) (i : ℕ) (d : Y) (j : X) → i < length jobs → get_or (map f jobs ++ left) i d ≡ f (get_or jobs i j)
at_job f jobs left i d j lt =
    let within : i < length (map f jobs) = omega (arith, lt, length-map jobs f) in
    get_or_append_left (map f jobs) left d i within ∙ get_or-map f jobs i j d lt

-- those behind what was moved out of jobs
keeps_behind : {X Y : Type 0} (f : X → Y) (old new : List X) (left : List Y) (workers : ℕ) → length old ≡ workers → length new ≡ length old →
    KeepsBehind workers (map f old ++ left) (map f new ++ left)
keeps_behind f old new left workers number same = record {
  number = omega (arith, same, length-append (map f new) left, length-append (map f old) left, length-map new f, length-map old f);
  behind = past new (same ∙ number) ∙ sym (past old number);
}
  where
    past : (jobs : List _) → length jobs ≡ workers → drop workers (map f jobs ++ left) ≡ left
    past jobs is = ap (λ (n : ℕ). drop n (map f jobs ++ left)) (sym (length-map jobs f ∙ is)) ∙ drop-append_seam (map f jobs) left

-- each job that begins on a seat of the lock that is no writer can be run
pub are_ready : {S D R : Type 0} (seat : SeatValue) (lock : LockId) (shape : Shape) (jobs : List (Job S D R)) → seat.lock ≡ lock → seat.writer ≡ false → seat.seen.shape ≡ shape →
    All (IsBegun seat) jobs → All (IsReady lock shape) jobs
are_ready seat lock shape jobs of reader stands begun k d lt =
    let is = begun k d lt in
    let in_place = ap seat_in is in
    record {
      is = is ∙ ap Some (sym in_place);
      of = ap (λ (s : SeatValue). s.lock) in_place ∙ of;
      reader = ap (λ (s : SeatValue). s.writer) in_place ∙ reader;
      stands = ap (λ (s : SeatValue). s.seen.shape) in_place ∙ stands;
    }

module _ {S L D R : Type 0} (tell : Tells L D R) (site : Site) where
  of_job : (seat : SeatValue) (old new : Job S D R) → IsBegun seat old → Works tell site old new → IsWork tell site seat old.door new.door old.reader new.reader (work_of new)
  of_job seat old new begun made = subst (λ (s : SeatValue). IsWork tell site s old.door new.door old.reader new.reader (work_of new)) (ap seat_in begun) made.work

  -- each job that was run can be given back
  pub still_ready : (seat : SeatValue) (lock : LockId) (shape : Shape) (old new : List (Job S D R)) → seat.lock ≡ lock → seat.writer ≡ false → seat.seen.shape ≡ shape →
      All (IsBegun seat) old → AllWork tell site old new → All (IsReady lock shape) new
  still_ready seat lock shape old new of reader stands begun made k d lt =
      let in_old : k < length old = omega (arith, lt, made.number) in
      let here = made.each k d in_old in
      let w = of_job seat (get_or old k d) (get_or new k d) (begun k d in_old) here in
      let locked : (seat_in (get_or new k d).place).lock ≡ seat.lock = cc (w.later.lock) in
      record {
        is = here.is;
        of = locked ∙ of;
        reader = w.later.grew.may_add ∙ reader;
        stands = w.later.shape ∙ stands;
      }

  -- what the workers came to, by their jobs
  pub are_works : (workers : ℕ) (seat : SeatValue) (old new : List (Job S D R)) (doors : List D) (readers : List R) → length old ≡ workers → All (IsBegun seat) old → AllWork tell site old new →
      AreWorks tell site workers seat (doors_of old ++ doors) (doors_of new ++ doors) (readers_of old ++ readers) (readers_of new ++ readers) (works_of new)
  are_works workers seat old new doors readers number begun made = record {
    number = length-map new work_of ∙ made.number ∙ number;
    each = λ i d r w within.
        let in_old : i < length old = omega (arith, within, number) in
        let in_new : i < length new = omega (arith, in_old, made.number) in
        let j : Job S D R = some_of old i in_old in
        let work = of_job seat (get_or old i j) (get_or new i j) (begun i j in_old) (made.each i j in_old) in
        rw (
          at_job (λ (job : Job S D R). job.door) old doors i d j in_old,
          at_job (λ (job : Job S D R). job.door) new doors i d j in_new,
          at_job (λ (job : Job S D R). job.reader) old readers i r j in_old,
          at_job (λ (job : Job S D R). job.reader) new readers i r j in_new,
          get_or-map work_of new i j w in_new,
        ) work;
    doors = keeps_behind (λ (job : Job S D R). job.door) old new doors workers number made.number;
    readers = keeps_behind (λ (job : Job S D R). job.reader) old new readers workers number made.number;
  }
