-- What contracts say of a lock, its seats and its chairs.
use Rattle.std.specs.Prelude.{◌≡◌, ◌⊎◌, ℕ, Bool, true, false, ◌||◌, [], ◌∷◌, Option, Some, None}
use Rattle.atomic_table.specs.Seated.{TableId}
use Rattle.crossbeam_queue.specs.Passes.{Pass, view}
use Rattle.idx_turn.specs.Stands.{Begins, Stand, stand}
use Rattle.idx_turn.specs.LockId.{LockId}
use Rattle.idx_turn.specs.SoloValue.{SoloValue, given_unless}
use Rattle.idx_lock.specs.declared.seat_view.SeatView.{SeatView}

-- a seat: the lock that it is of, what it has seen, and whether it is its lock's writer
pub record SeatValue : Type 0 where
  pub lock : LockId
  pub seen : Stand
  pub writer : Bool

-- the three together
abbrev pub seat_value : LockId → Stand → Bool → SeatValue
seat_value lock seen writer = record { lock = lock; seen = seen; writer = writer }

-- a chair: its seat, whether the value is out with it, and how many times it took the value, modulo 2^64
pub record ChairValue : Type 0 where
  pub seat : SeatValue
  pub is_out : Bool
  pub holds : ℕ

-- the three together
abbrev pub chair_value : SeatValue → Bool → ℕ → ChairValue
chair_value seat is_out holds = record { seat = seat; is_out = is_out; holds = holds }

-- what is out while it is
abbrev pub given_while : Bool → Stand → Option Stand
given_while true seen = Some seen
given_while false seen = None

-- what is out with a chair
abbrev pub given_by : ChairValue → Option Stand
given_by c = given_while c.is_out c.seat.seen

-- Two seats that were made one. It has seen all that either had, which is what one of them had seen, and that one is the
-- writer where either is; then it is the writer. Not both of them are.
pub record Joined (seat other both : SeatValue) : Type 0 where
  pub lock : both.lock ≡ seat.lock
  pub shape : both.seen.shape ≡ seat.seen.shape
  pub other_shape : both.seen.shape ≡ other.seen.shape
  pub capacity : both.seen.capacity ≡ seat.seen.capacity
  pub other_capacity : both.seen.capacity ≡ other.seen.capacity
  pub begins : Begins seat.seen.posts both.seen.posts
  pub other_begins : Begins other.seen.posts both.seen.posts
  pub one : (both.seen ≡ seat.seen) ⊎ (both.seen ≡ other.seen)
  pub same : seat.writer ≡ true → both.seen ≡ seat.seen
  pub other_same : other.writer ≡ true → both.seen ≡ other.seen
  pub writer : both.writer ≡ (seat.writer || other.writer)
  pub one_writer : seat.writer ≡ true → other.writer ≡ false

-- a seat later on, where its holder published nothing: the writer has seen no more than before
pub record IsLater (seat later : SeatValue) : Type 0 where
  pub lock : later.lock ≡ seat.lock
  pub shape : later.seen.shape ≡ seat.seen.shape
  pub capacity : later.seen.capacity ≡ seat.seen.capacity
  pub begins : Begins seat.seen.posts later.seen.posts
  pub writer : later.writer ≡ seat.writer
  pub same : seat.writer ≡ true → later.seen.posts ≡ seat.seen.posts

-- which lock it is, by the numbers of its queue
abbrev pub lock_of : TableId → LockId
lock_of id =
    record { marks = id.words ∷ id.slots ∷ id.views_name ∷ id.atom ∷ id.block ∷ id.offset ∷ id.slot_names }

-- what was seen, or nothing yet
abbrev pub seen_or_none : Option Stand → Stand
seen_or_none (Some seen) = seen
seen_or_none None = stand (record { blocks = 0; lengths = [] }) 0 []

module _ {S : Type 0} where
  -- the seat of a queue's pass
  abbrev pub seat_of : Pass S SeatView → SeatValue
  seat_of pass = seat_value (lock_of pass.table_id) (seen_or_none (view pass).seen) (view pass).writer

  -- whether the value is out with a pass
  abbrev pub is_out_of : Pass S SeatView → Bool
  is_out_of pass = (view pass).holds

  -- a pass of this lock
  pub record IsPass (lock : LockId) (pass : Pass S SeatView) : Type 0 where
    pub of : lock_of pass.table_id ≡ lock
    pub idle : pass.me.1 ≡ []

  -- a pass that holds no value, and has seen one
  pub record Rests (pass : Pass S SeatView) : Type 0 where
    pub idle : pass.me.1 ≡ []
    pub free : (view pass).holds ≡ false
    pub known : (view pass).seen ≡ Some (seen_or_none (view pass).seen)

  -- what is out with an owner
  abbrev pub out_with : (S → Stand) → Option (SoloValue S) → Option Stand
  out_with stands (Some owner) = given_unless owner.kept (stands owner.taken)
  out_with stands None = None

  -- a pass of this lock that has seen a value, beside the owner of what is out with it
  pub record Sits (stands : S → Stand) (lock : LockId) (pass : Pass S SeatView) (owner : Option (SoloValue S)) : Type 0 where
    pub of : IsPass lock pass
    pub known : (view pass).seen ≡ Some (seen_or_none (view pass).seen)
    pub out : out_with stands owner ≡ given_while (view pass).holds (seen_or_none (view pass).seen)
