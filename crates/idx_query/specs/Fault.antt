-- Why a question has no answer.
use Rattle.std.specs.Prelude.{◌≡◌, ◌≢◌, ℕ, List, length, Some, None}
use Rattle.idx_outside.specs.Cause.{Rose}
use Rattle.idx_header.specs.Header.{HeaderValue}
use Rattle.idx_hall.specs.Posts.{Post, IsPostOf, Lacks}
use Rattle.idx_plan.specs.Needed.{plan_fault}
use Rattle.idx_plan.specs.declared.ask.Ask.{Ask}
use Rattle.idx_plan.specs.declared.plan_fault.PlanFault.{PlanFault}
use Rattle.idx_plan.specs.declared.plan_fault.PlanFault.TheVariants as plans
use Rattle.idx_query.specs.declared.query_fault.QueryFault.{QueryFault}
use Rattle.idx_query.specs.declared.query_fault.QueryFault.TheVariants.{Plan, NotPublished, StoreFault, NoMemory}

-- the fault that is answered where there is no plan
abbrev pub fault_of_plan : PlanFault → QueryFault
fault_of_plan plans.NoMemory = NoMemory
fault_of_plan fault = Plan fault

-- some post has the question's time
abbrev pub HasPost : List Post → ℕ → Type 0
HasPost seen time = (number : ℕ) × (post : Post) × IsPostOf seen time number post

-- What each fault says of the question, of the posts that were seen, and of the reader's counts of faults before and after.
abbrev pub IsCaused : HeaderValue → Ask → List Post → ℕ → ℕ → QueryFault → Type 0
IsCaused h ask seen before after (Plan fault) =
    (plan_fault h ask ≡ Some fault) × (fault ≢ plans.NoMemory) × (after ≡ before)
IsCaused h ask seen before after (NotPublished board) =
    (plan_fault h ask ≡ None) × Lacks ask.time seen × (board ≡ length seen) × (after ≡ before)
IsCaused h ask seen before after (StoreFault faults) =
    (plan_fault h ask ≡ None) × HasPost seen ask.time × (faults ≡ after) × Rose before after
IsCaused h ask seen before after NoMemory = after ≡ before

-- the fault comes before the first read
abbrev pub IsUnread : QueryFault → Type 0
IsUnread (Plan fault) = Unit {0}
IsUnread (NotPublished board) = Unit {0}
IsUnread fault = ⊥
