-- The rule of a lock: what its queue holds, and what its seats know.
use Rattle.std.specs.Prelude.{◌≡◌, ◌⊎◌, ℕ, Bool, true, false, cond, ◌||◌, leb, length, List, [], ◌∷◌, Option, Some, None}
use mathlib.Core.Option.{some}
use lib.ListN.{get_elem?}
use Rattle.idx_outside.specs.Shape.{Shape}
use Rattle.idx_hall.specs.Posts.{Post}
use Rattle.idx_turn.specs.Stands.{Begins, Stand, stand}
use Rattle.idx_lock.specs.declared.seat_view.SeatView.{SeatView}

-- what a value stands for
abbrev pub stands : {S : Type 0} → (S → Shape) → (S → ℕ) → (S → List Post) → S → Stand
stands shape capacity posts value = stand (shape value) (capacity value) (posts value)

-- what a seat knows: what it has seen, the lesser of the two lists that it last joined, whether it is the writer, and
-- whether it holds the value
abbrev pub seat_view : Option Stand → Option Stand → Bool → Bool → SeatView
seat_view seen lesser writer holds = record { seen = seen; lesser = lesser; writer = writer; holds = holds }

-- the opening seat: it has seen nothing, is the writer, and holds the value that is still to be put in
abbrev pub opening : SeatView
opening = seat_view None None true true

-- a seat that was joined away
abbrev pub spent : SeatView
spent = seat_view None None false false

-- The first list begins the second, and the shapes are the same, and so is how many blocks are kept. What has no shape begins
-- everything.
abbrev pub Precedes : Option Stand → Option Stand → Type 0
Precedes None g = Unit {0}
Precedes (Some a) None = ⊥
Precedes (Some a) (Some b) = (a.shape ≡ b.shape) × (a.capacity ≡ b.capacity) × Begins a.posts b.posts

-- of two, the one with more posts
abbrev pub longer : Option Stand → Option Stand → Option Stand
longer None b = b
longer (Some a) None = Some a
longer (Some a) (Some b) = cond (leb (length a.posts) (length b.posts)) (Some b) (Some a)

-- and the other
abbrev pub shorter : Option Stand → Option Stand → Option Stand
shorter None b = None
shorter (Some a) None = None
shorter (Some a) (Some b) = cond (leb (length a.posts) (length b.posts)) (Some a) (Some b)

-- this holds of each seat, by its number and what it knows
abbrev pub EachSeat : List SeatView → (ℕ → SeatView → Type 0) → Type 0
EachSeat views P = (seat : ℕ) (v : SeatView) → get_elem? views seat ≡ some v → P seat v

-- this holds of any two seats, or of one taken twice, by their numbers and what they know
abbrev pub AnyTwo : List SeatView → (ℕ → SeatView → ℕ → SeatView → Type 0) → Type 0
AnyTwo views P =
    (seat : ℕ) (v : SeatView) (other : ℕ) (u : SeatView) → get_elem? views seat ≡ some v → get_elem? views other ≡ some u → P seat v other u

-- what a seat has seen begins the list g, and no seat but this one is the writer
pub record Fits (g : Option Stand) (writer : ℕ) (seat : ℕ) (v : SeatView) : Type 0 where
  pub seen : Precedes v.seen g
  pub lesser : Precedes v.lesser v.seen
  pub writes : v.writer ≡ true → seat ≡ writer

-- this seat is the writer, and has seen g
pub record Writes (g : Option Stand) (views : List SeatView) (seat : ℕ) : Type 0 where
  pub of : SeatView
  pub at : get_elem? views seat ≡ some of
  pub is : of.writer ≡ true
  pub seen : of.seen ≡ g

-- this seat holds the value and no other does, and it has seen g
pub record Holds (g : Option Stand) (views : List SeatView) (seat : ℕ) : Type 0 where
  pub of : SeatView
  pub at : get_elem? views seat ≡ some of
  pub is : of.holds ≡ true
  pub seen : of.seen ≡ g
  pub alone : EachSeat views (λ other v. v.holds ≡ true → other ≡ seat)

-- split: the new seat has seen what the old one has, and is not the writer
abbrev pub newcomer : SeatView → SeatView
newcomer v = seat_view v.seen None false false

-- join: the writer's list where one of the two is the writer, or else the longer one. Two writers there never are: their
-- list would begin nothing.
abbrev pub joined_seen : SeatView → SeatView → Option Stand
joined_seen v u = cond v.writer (cond u.writer None v.seen) (cond u.writer u.seen (longer v.seen u.seen))

-- and the other list
abbrev pub joined_lesser : SeatView → SeatView → Option Stand
joined_lesser v u = cond v.writer u.seen (cond u.writer v.seen (shorter v.seen u.seen))

-- the seat is the writer where either was
abbrev pub joined : SeatView → SeatView → SeatView
joined v u = seat_view (joined_seen v u) (joined_lesser v u) (v.writer || u.writer) false

module _ {S : Type 0} (stands : S → Stand) where
  -- the queue holds one value, which stands for g, and no seat holds one
  pub record IsIn (g : Option Stand) (items : List S) (views : List SeatView) : Type 0 where
    pub value : S
    pub one : items ≡ value ∷ []
    pub for : g ≡ Some (stands value)
    pub none_holds : EachSeat views (λ seat v. v.holds ≡ false)

  -- the queue is empty, and one seat holds the value
  pub record IsOut (g : Option Stand) (items : List S) (views : List SeatView) : Type 0 where
    pub empty : items ≡ []
    pub holder : ℕ
    pub holds : Holds g views holder

  -- One seat is the writer and has seen g; each seat has seen a beginning of g; and the value, which stands for g where it
  -- was last put in, is in the queue or with one seat.
  pub record LockRule (items : List S) (views : List SeatView) : Type 0 where
    pub g : Option Stand
    pub writer : ℕ
    pub writes : Writes g views writer
    pub fits : EachSeat views (Fits g writer)
    pub place : IsIn g items views ⊎ IsOut g items views

  -- A pop that gives a value: what was seen begins what the value stands for, and is all of it where the taker is the writer.
  -- The taker holds the value then, and has seen what it stands for.
  pub record Took (v : SeatView) (value : S) (w : SeatView) : Type 0 where
    pub now : w ≡ seat_view (Some (stands value)) None v.writer true
    pub begins : Precedes v.seen (Some (stands value))
    pub same : v.writer ≡ true → v.seen ≡ Some (stands value)

  -- a push: the seat holds nothing then, and has seen what the value stands for
  abbrev pub gave : SeatView → S → SeatView
  gave v value = seat_view (Some (stands value)) None v.writer false

  -- what a seat may push: it holds the value, what it has seen begins what comes back, and is all of it unless it is the writer
  pub record MayPush (v : SeatView) (value : S) : Type 0 where
    pub holds : v.holds ≡ true
    pub begins : Precedes v.seen (Some (stands value))
    pub same : v.writer ≡ false → v.seen ≡ Some (stands value)
