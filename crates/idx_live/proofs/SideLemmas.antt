-- What was served, by what those who serve came to.
use Rattle.std.proofs.Common.{◌≡◌, ◌⊎◌, ℕ, false, List, subst}
use Rattle.idx_outside.specs.Shape.{Shape}
use Rattle.idx_layout.specs.Shape.{shape_of}
use Rattle.idx_hall.specs.Posts.{Post}
use Rattle.idx_turn.specs.LockId.{LockId}
use Rattle.idx_turn.specs.Stands.{Begins, Stand, stand}
use Rattle.idx_lock.specs.Seats.{SeatValue, seat_value}
use Rattle.idx_serve.specs.declared.door.Summary.{Summary}
use Rattle.idx_serve.specs.declared.site.Site.{Site}
use Rattle.idx_workers.specs.Workers.{AreServed, NoneBegan, Tells}
use Rattle.idx_host.specs.Host.{AreServedOut}

module _ {L D R : Type 0} (tell : Tells L D R) (site : Site) (workers : ℕ) (doors_old doors_new : List D) (readers_old readers_new : List R) (summary : Summary) where
  -- by a seat of this lock that had seen this, all of which has come back
  abbrev AreDone : SeatValue → SeatValue → List D → List D → Type 0
  AreDone seat back doors doors' =
      AreServed tell site workers seat back doors doors' readers_old readers_new summary ⊎ NoneBegan seat back doors doors' readers_old readers_new summary

  pub served_out : (lock : LockId) (seen : Stand) (seat back : SeatValue) (last : List Post) (doors doors' : List D) → seat ≡ seat_value lock seen false → doors ≡ doors_old → doors' ≡ doors_new →
      seen.shape ≡ shape_of site.header →
      AreServed tell site workers seat back doors doors' readers_old readers_new summary ⊎ NoneBegan seat back doors doors' readers_old readers_new summary →
      Begins back.seen.posts last → AreServedOut tell site seen.capacity workers doors_old doors_new readers_old readers_new seen.posts last summary
  served_out lock seen seat back last doors doors' split was is shape served begins = record {
    lock = lock;
    back = back;
    served = subst (λ (s : Shape). AreDone (seat_value lock (stand s seen.capacity seen.posts) false) back doors_old doors_new) shape
        (subst (λ (s : SeatValue). AreDone s back doors_old doors_new) split
        (subst (λ (d : List D). AreDone seat back d doors_new) was (subst (λ (d : List D). AreDone seat back doors d) is served)));
    seen = begins;
  }
