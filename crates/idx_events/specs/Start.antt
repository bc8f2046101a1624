-- A new world, and what a list of events makes of it.
use Rattle.std.specs.Prelude.{ℕ, ◌+◌, if◌then◌else◌, List, [], ◌∷◌, map, None}
use Rattle.idx_cache.specs.Cached.{cached}
use Rattle.idx_hall.specs.Hall.{hall}
use Rattle.idx_plan.specs.declared.ask.Ask.{Ask}
use Rattle.idx_events.specs.Setting.{Setting, table}
use Rattle.idx_events.specs.World.{World, Volume, Slot, Query}
use Rattle.idx_events.specs.Volumes.{count_of}
use Rattle.idx_events.specs.Events.{enabled, effect}
use Rattle.idx_events.specs.declared.event.Event.{Event}
use Rattle.idx_events.specs.declared.phase.Phase.TheVariants.{Staged}

abbrev pub new_query : Ask → Query
new_query ask = record { ask = ask; post = None; ended = 0; round = None; kept = []; answer = None }

module _ (s : Setting) where
  abbrev pub new_slot : ℕ → Slot
  new_slot file = record { file = file; dock = table s file (λ field address. s.zero field); sealed = None }

  abbrev pub new_volume : ℕ → ℕ → List ℕ → Volume
  new_volume time revision raw =
      record { time = time; revision = revision; raw = raw; phase = Staged; given = []; shipped = []; slots = map new_slot s.files }

  -- the volumes, given by timestep and raw bytes; those of a timestep are its revisions, in order
  abbrev pub new_volumes : List ℕ → List (ℕ × List ℕ) → List Volume
  new_volumes before [] = []
  new_volumes before (v ∷ more) = new_volume v.0 (count_of v.0 before) v.1 ∷ new_volumes (v.0 ∷ before) more

  abbrev pub new_world : List (ℕ × List ℕ) → List Ask → ℕ → World
  new_world volumes asks capacity = record { volumes = new_volumes [] volumes; hall = hall s.shape [] (cached [] capacity); queries = map new_query asks }

  -- how many events come before the first that is not enabled, and the world after these
  abbrev pub accepted : World → List Event → ℕ
  accepted w [] = 0
  accepted w (e ∷ es) = (if enabled s w e then accepted (effect s w e) es + 1 else 0)

  abbrev pub replayed : World → List Event → World
  replayed w [] = w
  replayed w (e ∷ es) = (if enabled s w e then replayed (effect s w e) es else w)
