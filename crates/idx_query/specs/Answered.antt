-- What an answer says, and what it leaves in a hall that is told.
use Rattle.std.specs.Prelude.{◌≡◌, ◌⊎◌, ℕ, ◌+◌, ◌*◌, ◌<◌, ◌≤◌, List, ◌++◌, length, take, sum_by, Option, Some, IfSome, slice_get}
use Rattle.idx_header.specs.Header.{HeaderValue}
use Rattle.idx_hall.specs.declared.key.Key.{Key}
use Rattle.idx_hall.specs.Posts.{Post, IsNewestOf, bytes_at, has_at}
use Rattle.idx_hall.specs.Hall.{HallValue, after_look}
use Rattle.idx_turn.specs.Stands.{Begins, MadeHolds}
use Rattle.idx_plan.specs.Answer.{answer_of}
use Rattle.idx_plan.specs.Needed.{answer_bytes, needed, needed_keys}
use Rattle.idx_plan.specs.Rounds.{rounds}
use Rattle.idx_plan.specs.declared.ask.Ask.{Ask}
use Rattle.idx_query.specs.Blocks.{blocks_of, lacking}
use Rattle.idx_query.specs.Rounds.{AreRounds, after_answer, holds_by}
use Rattle.idx_query.specs.declared.query_fault.QueryFault.{QueryFault}
use Rattle.idx_query.specs.declared.query_fault.QueryFault.TheVariants as faults
use Rattle.idx_query.specs.declared.report.Report.{Report}

-- The answer is out of one post, of the report's number: the newest of the question's time on a board that was taken, which begins
-- with what was seen before and begins what was seen afterwards. It stands behind what was there. Each needed block came once: out of
-- the cache, by a read, or as zeros.
pub record IsAnswered (h : HeaderValue) (ask : Ask) (seen_before seen_after : List Post) (before after : List ℕ) (report : Report) : Type 0 where
  pub board : List Post
  pub since : Begins seen_before board
  pub until : Begins board seen_after
  pub post : Post
  pub is : IsNewestOf board ask.time report.post post
  pub answer : IfSome post.stored (λ stored. after ≡ before ++ answer_of h ask (bytes_at stored))
  pub front : take (length before) after ≡ before
  pub many : length after ≡ length before + answer_bytes h ask
  pub all : report.hits + report.reads + report.absent ≡ length (needed h ask)

-- The hall was held once in each round in which nothing was fetched, and twice in each other one: so many blocks were fetched in
-- each round, all together.
pub record IsHeld (h : HeaderValue) (ask : Ask) (before after : ℕ) (report : Report) : Type 0 where
  pub fetched : List ℕ
  pub each : length fetched ≡ length (rounds h ask)
  pub all : sum_by (λ n. n) fetched ≡ report.reads + report.absent
  pub held : MadeHolds before after (sum_by holds_by fetched)

-- Each round was made in the hall that the rounds before it left, out of the newest post of the time. The hits are the keys that were
-- cached, and of the others those are absent that the post lacks. Where what the post stores is known, the hall afterwards is
-- exactly the one that the rounds leave. The hall was held so often as they say.
pub record IsDone (h : HeaderValue) (ask : Ask) (before : HallValue) (after : Option HallValue) (held_before held_after : ℕ) (report : Report) : Type 0 where
  pub post : Post
  pub is : IsNewestOf before.board ask.time report.post post
  pub missing : List Key
  pub holds : ℕ
  pub left : HallValue
  pub made : AreRounds post report.post (rounds h ask) before left missing holds
  pub hits : report.hits + length missing ≡ length (needed_keys h ask)
  pub absent : report.absent ≡ lacking (has_at post ask.field) (blocks_of missing)
  pub hall : after ≡ Some left
  pub stored : IfSome post.stored (λ stored. left ≡ after_answer h ask report.post stored before)
  pub held : MadeHolds held_before held_after holds

-- The first so many rounds were made, out of the newest post of the time, and then this.
pub record IsCutAt (h : HeaderValue) (ask : Ask) (before : HallValue) (Then : ℕ → ℕ → HallValue → ℕ → Type 0) : Type 0 where
  pub number : ℕ
  pub post : Post
  pub is : IsNewestOf before.board ask.time number post
  pub made : ℕ
  pub within : made < length (rounds h ask)
  pub missing : List Key
  pub holds : ℕ
  pub left : HallValue
  pub rounds : AreRounds post number (take made (rounds h ask)) before left missing holds
  pub and_then : Then number made left holds

-- of the next round the look alone was made
abbrev pub IsLookedAt : HeaderValue → Ask → HallValue → Option HallValue → ℕ → ℕ → Type 0
IsLookedAt h ask before after held_before held_after =
    IsCutAt h ask before (λ number made left holds. (keys : List Key) × (slice_get (rounds h ask) made ≡ Some keys)
    × (after ≡ Some (after_look number keys left)) × MadeHolds held_before held_after (holds + 1))

-- nothing more was made, but perhaps a hold for a look that was refused
abbrev pub IsStoppedAt : HeaderValue → Ask → HallValue → Option HallValue → ℕ → ℕ → Type 0
IsStoppedAt h ask before after held_before held_after =
    IsCutAt h ask before (λ number made left holds. (after ≡ Some left)
    × (MadeHolds held_before held_after holds ⊎ MadeHolds held_before held_after (holds + 1)))

-- The hall after a refusal: as it was, or with some rounds, or with the look of one more. How often it was held.
abbrev pub IsLeft : HeaderValue → Ask → HallValue → Option HallValue → ℕ → ℕ → QueryFault → Type 0
IsLeft h ask before after held_before held_after (faults.StoreFault count) = IsLookedAt h ask before after held_before held_after
IsLeft h ask before after held_before held_after faults.NoMemory =
    ((after ≡ Some before) × (MadeHolds held_before held_after 0 ⊎ MadeHolds held_before held_after 1))
    ⊎ (IsStoppedAt h ask before after held_before held_after ⊎ IsLookedAt h ask before after held_before held_after)
IsLeft h ask before after held_before held_after (faults.NotPublished board) = (after ≡ Some before) × MadeHolds held_before held_after 1
IsLeft h ask before after held_before held_after (faults.Plan fault) = (after ≡ Some before) × (held_after ≡ held_before)

-- How often the hall was held, where there is a refusal: not at all where there is no plan, once where the step is not published, and
-- else no more often than in an answer.
abbrev pub IsHeldAtFault : HeaderValue → Ask → ℕ → ℕ → QueryFault → Type 0
IsHeldAtFault h ask before after (faults.Plan fault) = after ≡ before
IsHeldAtFault h ask before after (faults.NotPublished board) = MadeHolds before after 1
IsHeldAtFault h ask before after fault = (n : ℕ) × (n ≤ 2 * length (rounds h ask)) × MadeHolds before after n
