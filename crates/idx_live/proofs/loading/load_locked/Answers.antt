use Rattle.std.proofs.Common.{◌≡◌, ◌∙◌, List, ap, subst, sym}
use Rattle.std.specs.Prelude.{IfSome}
use Rattle.idx_hall.specs.Posts.{Post}
use Rattle.idx_lock.specs.Seats.{SeatValue}
use Rattle.idx_board.specs.Standing.{standing_posts}
use Rattle.idx_live.proofs.loading.load_locked.Goals as goal

pub returns-clause-locked : goal.returns-clause-locked
returns-clause-locked g c =
    let loaded = c.in_ok-hall.ensures in
    let writer = c.in-Ok.ensures.opened in
    record {
      sound = loaded.sound;
      standing = subst (λ (posts : List Post). IfSome (g.B.Bay.files c.args.bay.now) (λ files. posts ≡ standing_posts c.args.header.now files))
          (sym (ap (λ (seat : SeatValue). seat.seen.posts) writer)) loaded.board;
      shape = ap (λ (seat : SeatValue). seat.seen.shape) writer ∙ loaded.shape;
      capacity = ap (λ (seat : SeatValue). seat.seen.capacity) writer ∙ loaded.capacity;
      of = ap (λ (seat : SeatValue). seat.lock) writer;
      writes = ap (λ (seat : SeatValue). seat.writer) writer;
      loaded = loaded.loaded;
    }
