-- What a head does to the turn and to the reader, by what these tell before and afterwards. `tells` says whether the turn tells its
-- hall.
use Rattle.std.specs.Prelude.{◌≡◌, ◌≢◌, ◌⊎◌, ℕ, ◌-◌, ◌*◌, ◌/◌, ◌≤◌, Bool, true, false, List, [], length, Option, Some, None, IfSome, Err}
use Rattle.idx_outside.specs.Cause.{MadeReads, MeetsOnce, Rose}
use Rattle.idx_header.specs.Header.{HeaderValue}
use Rattle.idx_hall.specs.Hall.{HallValue, after_evict}
use Rattle.idx_hall.specs.Posts.{Lacks}
use Rattle.idx_turn.specs.Stands.{MadeHolds}
use Rattle.idx_plan.specs.Needed.{needed, plan_fault}
use Rattle.idx_plan.specs.Rounds.{rounds}
use Rattle.idx_plan.specs.declared.ask.Ask.{Ask}
use Rattle.idx_plan.specs.declared.plan_fault.PlanFault.TheVariants as P
use Rattle.idx_query.specs.Answered.{IsAnswered, IsDone, IsHeld, IsLeft, IsLookedAt}
use Rattle.idx_query.specs.Fault.{HasPost}
use Rattle.idx_query.specs.Reads.{ReadsAtMost}
use Rattle.idx_query.specs.declared.query_fault.QueryFault.TheVariants as Q
use Rattle.idx_query.specs.declared.report.Report.{Report}
use Rattle.idx_request.specs.Faults.{IsRead}
use Rattle.idx_request.specs.declared.target_fault.TargetFault.TheVariants as T
use Rattle.idx_session.specs.Entry.{State}
use Rattle.idx_session.specs.declared.asked.Asked.{Asked}
use Rattle.idx_session.specs.declared.asked.Asked.TheVariants as A
use Rattle.idx_serve.specs.Later.{Grew}
use Rattle.idx_serve.specs.Questions.{IsGet, IsHead, IsQuestion}
use Rattle.idx_serve.specs.declared.refusal.Refusal.{Refusal}
use Rattle.idx_serve.specs.declared.refusal.Refusal.TheVariants as R
use Rattle.idx_serve.specs.declared.site.Site.{Site}

-- where the turn tells its hall: what holds of the one before
abbrev pub OnHall : Bool → State → (HallValue → Type 0) → Type 0
OnHall tells state P = tells ≡ true → IfSome state.hall P

-- the hall was held at most twice in each round of an answer
pub record HeldAtMost (h : HeaderValue) (ask : Ask) (before after : ℕ) : Type 0 where
  pub holds : ℕ
  pub few : holds ≤ 2 * length (rounds h ask)
  pub made : MadeHolds before after holds

-- an answer was made out of the newest post of its time on a board that was taken
pub record IsFound (tells : Bool) (h : HeaderValue) (ask : Ask) (before after : State) (samples : List ℕ) (report : Report) : Type 0 where
  pub plan : plan_fault h ask ≡ None
  pub grew : Grew before after
  pub answer : IsAnswered h ask before.posts after.posts [] samples report
  pub faults : after.faults ≡ before.faults
  pub reads : MadeReads before.reads after.reads report.reads
  pub held : IsHeld h ask before.holds after.holds report
  pub hall : OnHall tells before (λ hall. IsDone h ask hall after.hall before.holds after.holds report)

-- no step of the time was seen, in a board of so many that was taken
pub record IsUnpublished (tells : Bool) (h : HeaderValue) (many : ℕ) (before after : State) (ask : Ask) : Type 0 where
  pub plan : plan_fault h ask ≡ None
  pub grew : Grew before after
  pub lacks : Lacks ask.time after.posts
  pub board : many ≡ length after.posts
  pub faults : after.faults ≡ before.faults
  pub reads : after.reads ≡ before.reads
  pub held : MadeHolds before.holds after.holds 1
  pub hall : OnHall tells before (λ hall. after.hall ≡ Some hall)

-- a read of a block failed, and the reader counted that fault alone
pub record IsStoreFault (tells : Bool) (h : HeaderValue) (before after : State) (ask : Ask) : Type 0 where
  pub plan : plan_fault h ask ≡ None
  pub grew : Grew before after
  pub post : HasPost after.posts ask.time
  pub faults : Rose before.faults after.faults
  pub once : MeetsOnce before.faults after.faults
  pub reads : ReadsAtMost before.reads after.reads (length (needed h ask))
  pub held : HeldAtMost h ask before.holds after.holds
  pub hall : OnHall tells before (λ hall. IsLookedAt h ask hall after.hall before.holds after.holds)

-- what want of memory may leave of a hall: what it leaves within an answer, or the whole answer
abbrev pub MayLeave : HeaderValue → Ask → HallValue → Option HallValue → ℕ → ℕ → Type 0
MayLeave h ask before after held_before held_after =
    IsLeft h ask before after held_before held_after Q.NoMemory ⊎ ((report : Report) × IsDone h ask before after held_before held_after report)

-- there was no memory for an answer
pub record IsMemoryless (tells : Bool) (h : HeaderValue) (before after : State) (ask : Ask) : Type 0 where
  pub grew : Grew before after
  pub faults : after.faults ≡ before.faults
  pub reads : ReadsAtMost before.reads after.reads (length (needed h ask))
  pub held : HeldAtMost h ask before.holds after.holds
  pub hall : OnHall tells before (λ hall. MayLeave h ask hall after.hall before.holds after.holds)

-- why what was asked is refused before it is a question
abbrev pub IsAskRefused : Site → Asked → Refusal → Type 0
IsAskRefused site asked R.BadHead = asked ≡ A.Bad
IsAskRefused site asked R.HeadTooLarge = asked ≡ A.TooBig
IsAskRefused site asked R.HasBody = IsHead asked (λ head. head.body ≡ true)
IsAskRefused site asked R.NotGet = IsHead asked (λ head. (head.body ≡ false) × (head.get ≡ false))
IsAskRefused site asked (R.Target fault) =
    IsHead asked (λ head. IsGet head × IsRead site.header site.name head.target (Err fault)) × (fault ≢ T.NoMemory)
IsAskRefused site asked R.NoMemory = IsHead asked IsGet
IsAskRefused site asked refusal = ⊥

-- why a question is refused, and what that did
abbrev pub IsAnswerRefused : Bool → HeaderValue → State → State → Refusal → Ask → Type 0
IsAnswerRefused tells h before after (R.Plan fault) ask = (plan_fault h ask ≡ Some fault) × (fault ≢ P.NoMemory) × (after ≡ before)
IsAnswerRefused tells h before after (R.NotPublished board) ask = IsUnpublished tells h board before after ask
IsAnswerRefused tells h before after R.StoreFault ask = IsStoreFault tells h before after ask
IsAnswerRefused tells h before after R.NoMemory ask = IsMemoryless tells h before after ask
IsAnswerRefused tells h before after refusal ask = ⊥

-- Why what was asked is refused, and what that did: nothing where it is no question.
abbrev pub IsRefused : Bool → Site → Asked → State → State → Refusal → Type 0
IsRefused tells site asked before after refusal =
    (IsAskRefused site asked refusal × (after ≡ before))
    ⊎ ((ask : Ask) × IsQuestion site asked ask × IsAnswerRefused tells site.header before after refusal ask)

-- half of so many, rounded up
abbrev pub half_up : ℕ → ℕ
half_up n = n - n / 2

-- a hall without the half of its cached blocks, rounded up, that was used least recently
abbrev pub halved : HallValue → HallValue
halved hall = after_evict (half_up (length hall.cache.pairs)) hall

-- half of the cached blocks were dropped, in one hold of the hall, and nothing else happened
pub record IsHalved (tells : Bool) (before after : State) : Type 0 where
  pub grew : Grew before after
  pub faults : after.faults ≡ before.faults
  pub reads : after.reads ≡ before.reads
  pub held : MadeHolds before.holds after.holds 1
  pub hall : OnHall tells before (λ hall. after.hall ≡ Some (halved hall))

-- what follows a refusal that was answered: half of the cached blocks are dropped for want of memory, and else nothing happens
abbrev pub IsEased : Bool → Refusal → State → State → Type 0
IsEased tells R.NoMemory before after = IsHalved tells before after
IsEased tells refusal before after = after ≡ before
