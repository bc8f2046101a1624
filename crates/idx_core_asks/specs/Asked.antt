-- A question with its plan, and how far it is.
use Rattle.std.specs.Prelude.{◌≡◌, ℕ, ◌*◌, ◌^◌, All, List, length, map, Option}
use Rattle.idx_hall.specs.declared.key.Key.{Key}
use Rattle.idx_plan.specs.Plan.{PlanValue}
use Rattle.idx_plan.specs.declared.ask.Ask.{Ask}
use Rattle.idx_query.specs.Blocks.{IsPlanOf}
use Rattle.idx_events.specs.World.{Query, Round}
use Rattle.idx_core_model.specs.Headline.{CanBeAsked}
use Rattle.idx_core_model.specs.Layers.{held_block}
use Rattle.idx_core_layers.specs.Division.{DivisionValue}

-- how far a question is: the post that it noted, how many rounds have ended, the round that it is in, and what it holds
pub record ProgressValue : Type 0 where
  pub post : Option ℕ
  pub ended : ℕ
  pub round : Option Round
  pub kept : List (ℕ × List ℕ)

-- a question that is so far, and its answer
abbrev pub query_of : Ask → ProgressValue → Option (List ℕ) → Query
query_of ask p answer =
    record { ask = ask; post = p.post; ended = p.ended; round = p.round; kept = p.kept; answer = answer }

-- how far the question is
abbrev pub progress_of : Query → ProgressValue
progress_of x = record { post = x.post; ended = x.ended; round = x.round; kept = x.kept }

-- a question and its plan
pub record AskedValue : Type 0 where
  pub query : Query
  pub plan : PlanValue

-- another question with the plan
abbrev pub with_query : AskedValue → Query → AskedValue
with_query x query = record { query = query; plan = x.plan }

-- the dataset can be asked the question, and the plan is its plan
pub record IsPlanned (d : DivisionValue) (x : AskedValue) : Type 0 where
  pub can : CanBeAsked d.header x.query.ask
  pub plan : IsPlanOf d.header x.query.ask x.plan

-- the numbers of the blocks of keys
abbrev pub block_numbers : List Key → List ℕ
block_numbers keys = map (λ key. key.block) keys

-- each block of a plan is among those that are held, and is whole
abbrev pub AreWhole : PlanValue → List (ℕ × List ℕ) → Type 0
AreWhole plan held = All (λ key. length (held_block held key.block) ≡ plan.size * 2 ^ plan.bits) plan.keys
