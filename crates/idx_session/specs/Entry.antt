-- One head that was answered.
use Rattle.std.specs.Prelude.{◌≡◌, ℕ, ◌≤◌, Bool, List, [], ◌∷◌, length, drop, Option, ⊤}
use Rattle.httparse.specs.Grammar.{print_request}
use Rattle.idx_outside.specs.declared.served.Served.{Served}
use Rattle.idx_hall.specs.Hall.{HallValue}
use Rattle.idx_hall.specs.Posts.{Post}
use Rattle.idx_http.specs.Heads.{Next, whole, bad, too_big, ended, cut}
use Rattle.idx_http.specs.Values.{values_of}
use Rattle.idx_session.specs.declared.asked.Asked.{Asked}
use Rattle.idx_session.specs.declared.asked.Asked.TheVariants as A

-- What a turn and a reader tell: the published steps that were seen, whether more may be added meanwhile, the reader's
-- counts of faults and of reads, the hall, where it is told, and how many times it was taken, modulo 2^64.
pub record State : Type 0 where
  pub posts : List Post
  pub may_add : Bool
  pub faults : ℕ
  pub reads : ℕ
  pub hall : Option HallValue
  pub holds : ℕ

-- the same of its parts
abbrev pub state_of : List Post → Bool → ℕ → ℕ → Option HallValue → ℕ → State
state_of posts may_add faults reads hall holds =
    record { posts = posts; may_add = may_add; faults = faults; reads = reads; hall = hall; holds = holds }

-- what is known after a reply, and the length of the board that the last reply which names one was made from
pub record Mark : Type 0 where
  pub state : State
  pub seen : ℕ

-- the two together
abbrev pub mark_of : State → ℕ → Mark
mark_of state seen = record { state = state; seen = seen }

-- a reply: its status, its bytes, whether it is the last one, and what is known after it
pub record Reply : Type 0 where
  pub status : ℕ
  pub bytes : List ℕ
  pub closes : Bool
  pub mark : Mark

-- a head and its reply
pub record Entry : Type 0 where
  pub asked : Asked
  pub reply : Reply

-- the target that was asked for; empty where there was none
abbrev pub target_of : Asked → List ℕ
target_of (A.Head head) = head.target
target_of A.Bad = []
target_of A.TooBig = []

-- what is noted of an entry
abbrev pub served_of : Entry → Served
served_of e = record { target = target_of e.asked; status = e.reply.status; seen = e.reply.mark.seen; faults = e.reply.mark.state.faults }

-- what is known after these entries
abbrev pub mark_after : Mark → List Entry → Mark
mark_after mark [] = mark
mark_after mark (e ∷ entries) = mark_after e.reply.mark entries

-- The board that is named never gets shorter along these entries, and after each of them at least so many posts were seen.
abbrev pub SeenRises : Mark → List Entry → Type 0
SeenRises mark [] = ⊤
SeenRises mark (e ∷ entries) =
    (mark.seen ≤ e.reply.mark.seen) × (e.reply.mark.seen ≤ length e.reply.mark.state.posts) × SeenRises e.reply.mark entries

-- which replies may follow what is known, to what was asked, as the last one or not
abbrev pub Answers : Type 1
Answers = Mark → Asked → Bool → Reply → Type 0

-- what a head may leave that gets no reply
abbrev pub Lost : Type 1
Lost = Mark → Mark → Type 0

-- what stands next asks this
abbrev pub IsAsked : Next → Asked → Type 0
IsAsked (whole h) asked = asked ≡ A.Head (values_of h)
IsAsked bad asked = asked ≡ A.Bad
IsAsked too_big asked = asked ≡ A.TooBig
IsAsked ended asked = ⊥
IsAsked (cut kept) asked = ⊥

-- what is left of an input behind what stands next
abbrev pub left_of : Next → List ℕ → List ℕ
left_of (whole h) s = drop (length (print_request h)) s
left_of bad s = s
left_of too_big s = s
left_of ended s = s
left_of (cut kept) s = s
