-- A world as plain data.
use Rattle.std.specs.Prelude.{ℕ, Bool, true, false, List, [], ◌++◌, Option, Some, None}
use Rattle.idx_hall.specs.Hall.{HallValue}
use Rattle.idx_plan.specs.declared.ask.Ask.{Ask}
use Rattle.idx_events.specs.declared.phase.Phase.{Phase}
use Rattle.idx_events.specs.declared.phase.Phase.TheVariants.{Staged, Published, Abandoned}

-- one file of a volume: its number, the samples of its dock by field and address, and, once it is sealed, its name and bytes
pub record Slot : Type 0 where
  pub file : ℕ
  pub dock : List (List (List ℕ))
  pub sealed : Option (List ℕ × List ℕ)

-- a revision of a timestep, out of its raw bytes; its slots stand by rising file number, so that the sealed files come rising in
-- whatever order they were sealed
pub record Volume : Type 0 where
  pub time : ℕ
  pub revision : ℕ
  pub raw : List ℕ
  pub phase : Phase
  pub given : List (ℕ × ℕ)
  pub shipped : List (ℕ × ℕ)
  pub slots : List Slot

-- a round that has begun: the blocks that were not found, and the loaded ones with their bytes
pub record Round : Type 0 where
  pub missing : List ℕ
  pub loaded : List (ℕ × List ℕ)

-- a query: its post's number, how many rounds have ended, the round that it is in, the blocks that it held before the round's
-- loads, and its answer
pub record Query : Type 0 where
  pub ask : Ask
  pub post : Option ℕ
  pub ended : ℕ
  pub round : Option Round
  pub kept : List (ℕ × List ℕ)
  pub answer : Option (List ℕ)

pub record World : Type 0 where
  pub volumes : List Volume
  pub hall : HallValue
  pub queries : List Query

abbrev pub is_staged : Phase → Bool
is_staged Staged = true
is_staged Published = false
is_staged Abandoned = false

abbrev pub is_published : Phase → Bool
is_published Staged = false
is_published Published = true
is_published Abandoned = false

abbrev pub is_abandoned : Phase → Bool
is_abandoned Staged = false
is_abandoned Published = false
is_abandoned Abandoned = true

abbrev pub loaded_in : Option Round → List (ℕ × List ℕ)
loaded_in None = []
loaded_in (Some r) = r.loaded

-- the blocks that a query holds
abbrev pub held : Query → List (ℕ × List ℕ)
held x = x.kept ++ loaded_in x.round
