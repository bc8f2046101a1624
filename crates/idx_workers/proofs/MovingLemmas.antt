-- Doors, readers and seats, moved into jobs and back.
use Rattle.std.proofs.Common.{◌≡◌, ◌<◌, Bool, false, ◌||◌, List, [], ◌∷◌, ◌++◌, Option, Some, length, map, get_or, refl, sym, ap, subst, ◌∙◌, arith, append_assoc, append-nil}
use Rattle.std.specs.Prelude.{remove}
use Rattle.std.proofs.lemmas.List.{map-append}
use Rattle.std.proofs.lemmas.List.Elements.{All-cons, All-nil}
use Rattle.idx_lock.specs.Seats.{Joined, SeatValue, seat_value}
use Rattle.idx_turn.specs.LockId.{LockId}
use Rattle.idx_turn.specs.Stands.{Begins}
use Rattle.idx_serve.specs.declared.door.Summary.{Summary}
use Rattle.idx_workers.specs.Jobs.{GivenBack, seat_in, work_of, works_of}
use Rattle.idx_workers.specs.Workers.{IsTotal, Work, work}
use Rattle.idx_workers.specs.declared.job.Job.{Job}

-- a list whose first element is removed
pub first_out : {X : Type 0} (xs ys : List X) (x : X) → 0 < length xs → x ≡ get_or xs 0 x → ys ≡ remove xs 0 → xs ≡ x ∷ ys
first_out [] ys x some is left = absurd (omega arith)
first_out (a ∷ xs) ys x some is left = ap (λ z. z ∷ xs) (sym is) ∙ ap (λ zs. x ∷ zs) (sym left)

-- what was moved into one more job
pub moved : {X Y : Type 0} (f : X → Y) (jobs : List X) (job : X) (xs ys all : List Y) → xs ≡ f job ∷ ys → map f jobs ++ xs ≡ all → map f (jobs ++ job ∷ []) ++ ys ≡ all
moved f jobs job xs ys all first is =
    ap (λ zs. zs ++ ys) (map-append f jobs (job ∷ [])) ∙ append_assoc (map f jobs) (f job ∷ []) ys ∙ ap (λ zs. map f jobs ++ zs) (sym first) ∙ is

-- a seat that was split from one that is no writer
pub same_seat : (seat : SeatValue) (lock : LockId) → seat.lock ≡ lock → seat.writer ≡ false → seat_value lock seat.seen false ≡ seat
same_seat seat lock of reader = λ i. seat_value (sym of i) seat.seen (sym reader i)

begins_same : {X : Type 0} (xs : List X) → Begins xs xs
begins_same xs = record { rest = []; is = sym (append-nil xs) }

begins_on : {X : Type 0} {xs ys zs : List X} → Begins xs ys → Begins ys zs → Begins xs zs
begins_on {X} {xs} {ys} {zs} h k = record {
  rest = h.rest ++ k.rest;
  is = k.is ∙ (ap (λ (l : List X). l ++ k.rest) h.is ∙ append_assoc xs h.rest k.rest);
}

module _ {S D R : Type 0} where
  -- no job was given back yet
  pub given_none : (seat : SeatValue) (all : List (Job S D R)) (doors : List D) (readers : List R) (total : Summary) → seat.writer ≡ false → IsTotal [] total →
      GivenBack seat all all doors doors readers readers seat total
  given_none seat all doors readers total reader sums = record {
    rest = [];
    all_are = append-nil all;
    doors_are = refl;
    readers_are = refl;
    returns = record {
      lock = refl;
      writer = reader;
      shape = refl;
      begins = begins_same seat.seen.posts;
      each = All-nil (λ (w : Work). Begins w.seat.seen.posts seat.seen.posts);
    };
    sums = sums;
  }

  -- one more was
  pub given_next : {seat back both : SeatValue} {all left now : List (Job S D R)} {doors_old doors : List D} {readers_old readers : List R} {total more : Summary} →
      GivenBack seat all left doors_old doors readers_old readers back total → (job : Job S D R) (other : SeatValue) → left ≡ now ++ job ∷ [] → job.place ≡ Some other →
      other.writer ≡ false → Joined back other both → ((s : SeatValue) (works : List Work) → IsTotal works total → IsTotal (work s job.summary ∷ works) more) →
      GivenBack seat all now doors_old (job.door ∷ doors) readers_old (job.reader ∷ readers) both more
  given_next {seat} {back} {both} {all} {left} {now} h job other popped placed reader joined adds = record {
    rest = job ∷ h.rest;
    all_are = sym (append_assoc now (job ∷ []) h.rest) ∙ ap (λ (xs : List (Job S D R)). xs ++ h.rest) (sym popped) ∙ h.all_are;
    doors_are = ap (λ (xs : List D). job.door ∷ xs) h.doors_are;
    readers_are = ap (λ (xs : List R). job.reader ∷ xs) h.readers_are;
    returns = record {
      lock = joined.lock ∙ h.returns.lock;
      writer = joined.writer ∙ ap (λ (b : Bool). b || other.writer) h.returns.writer ∙ reader;
      shape = joined.shape ∙ h.returns.shape;
      begins = begins_on h.returns.begins joined.begins;
      each = All-cons (λ (w : Work). Begins w.seat.seen.posts both.seen.posts) (work_of job) (works_of h.rest)
          (subst (λ (o : Option SeatValue). Begins (seat_in o).seen.posts both.seen.posts) (sym placed) joined.other_begins)
          (λ k d lt. begins_on (h.returns.each k d lt) joined.begins);
    };
    sums = adds (seat_in job.place) (works_of h.rest) h.sums;
  }
