-- A world in code, and what a step and a list of steps answer and leave.
use Rattle.std.specs.List.{list_any}
use Rattle.std.specs.Prelude.{Bool, not, ◌&&◌, find, ◌≡◌, ℕ, ◌<◌, All, true, false, List, length, get_or, map, take, Result, Ok, Err}
use Rattle.idx_hall.specs.Hall.{HallValue}
use Rattle.idx_events.specs.World.{Volume, World}
use Rattle.idx_events.specs.WorldOk.{WorldOk}
use Rattle.idx_events.specs.Events.{all_enabled, effect, enabled, hall_after_publish, run}
use Rattle.idx_events.specs.Lists.{change_first}
use Rattle.idx_events.specs.Volumes.{can_publish, is_later, is_of, publish, sealed_files}
use Rattle.idx_events.specs.Setting.{Setting, step_files}
use Rattle.idx_events.specs.declared.event.Event.{Event}
use Rattle.idx_core_model.specs.Headline.{IsDivided}
use Rattle.idx_core_layers.specs.Division.{DivisionValue, layers_of}
use Rattle.idx_core_layers.specs.declared.step_refusal.StepRefusal.{StepRefusal}
use Rattle.idx_core_layers.specs.declared.step_refusal.StepRefusal.TheVariants.{NotEnabled, NoMemory}
use Rattle.idx_core_asks.specs.Asked.{AskedValue, IsPlanned}
use Rattle.idx_core_steps.specs.Steps.{AreSlots, StepValue, step_can, volume_of}

-- the revisions of timesteps, the hall and the questions
abbrev pub world_of : List StepValue → HallValue → List AskedValue → World
world_of steps hall asked = record { volumes = map volume_of steps; hall = hall; queries = map (λ x. x.query) asked }

-- a dataset and its world
pub record CoreValue : Type 0 where
  pub layers : DivisionValue
  pub world : World

abbrev pub core_of : DivisionValue → List StepValue → HallValue → List AskedValue → CoreValue
core_of d steps hall asked = record { layers = d; world = world_of steps hall asked }

-- What holds of every world: what events keep, and that each aggregator and each plan is that of the dataset.
pub record IsCore (d : DivisionValue) (steps : List StepValue) (hall : HallValue) (asked : List AskedValue) : Type 0 where
  pub divided : IsDivided d.header d.digits d.ranks
  pub world : WorldOk (layers_of d) (world_of steps hall asked)
  pub slots : All (AreSlots d) steps
  pub planned : All (IsPlanned d) asked

-- the revision may be published, and no later one of its timestep is
abbrev pub may_publish : Setting → ℕ → ℕ → List StepValue → Bool
may_publish s time revision steps = step_can (can_publish s) time revision steps && not (list_any (is_later time revision) (map volume_of steps))

-- a volume that is whole and of a valid step has all files as they are to be, once it may be published
pub record AreWritten (s : Setting) (v : Volume) : Type 0 where
  pub step : s.valid_step v.time v.revision ≡ true
  pub whole : s.valid_raw v.raw ≡ true
  pub files : can_publish s v ≡ true → sealed_files v.slots ≡ step_files s v.time v.revision v.raw

-- A revision is published, and the hall with it: done exactly where it may be published and no later one is; not enabled, or
-- without memory, nothing has changed.
abbrev pub IsPublishing : Setting → ℕ → ℕ → List StepValue → HallValue → Result (Unit {0}) StepRefusal → List StepValue → HallValue → Type 0
IsPublishing s time revision old h (Ok done) new l =
    (may_publish s time revision old ≡ true) × (map volume_of new ≡ change_first (is_of time revision) (publish s) (map volume_of old))
    × (l ≡ hall_after_publish s (find (is_of time revision) (map volume_of old)) h)
IsPublishing s time revision old h (Err NotEnabled) new l = (may_publish s time revision old ≡ false) × (new ≡ old) × (l ≡ h)
IsPublishing s time revision old h (Err NoMemory) new l = (may_publish s time revision old ≡ true) × (new ≡ old) × (l ≡ h)

-- `Ok` with exactly the effect, `NotEnabled` exactly where the event may not happen, `NoMemory`: after either nothing has changed
abbrev pub IsStep : Setting → World → Event → Result (Unit {0}) StepRefusal → World → Type 0
IsStep s old e (Ok done) new = (enabled s old e ≡ true) × (new ≡ effect s old e)
IsStep s old e (Err NotEnabled) new = (enabled s old e ≡ false) × (new ≡ old)
IsStep s old e (Err NoMemory) new = (enabled s old e ≡ true) × (new ≡ old)

-- the events one after another: all of them, or those before the place of the first that is refused
abbrev pub IsReplay : Setting → World → List Event → Result (Unit {0}) (ℕ × StepRefusal) → World → Type 0
IsReplay s old es (Ok done) new = (all_enabled s old es ≡ true) × (new ≡ run s old es)
IsReplay s old es (Err refused) new =
    (refused.0 < length es) × (all_enabled s old (take refused.0 es) ≡ true) × (new ≡ run s old (take refused.0 es))
    × ((d : Event) → IsStep s new (get_or es refused.0 d) (Err refused.1) new)

-- the same of a world that is handed over and comes back
abbrev pub IsReplayed : Setting → World → List Event → Result CoreValue (CoreValue × ℕ × StepRefusal) → Type 0
IsReplayed s old es (Ok new) = IsReplay s old es (Ok tt) new.world
IsReplayed s old es (Err refused) = IsReplay s old es (Err (refused.1, refused.2)) refused.0.world
