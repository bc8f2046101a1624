-- A new dataset whose one step is written and then asked.
use Rattle.std.specs.Prelude.{ℕ, List, [], ◌∷◌, ◌++◌, map, Option, Some}
use Rattle.idx_cache.specs.Cached.{cached}
use Rattle.idx_hall.specs.Hall.{HallValue, hall, after_publish}
use Rattle.idx_events.specs.Setting.{Setting, step_files, post_of_files}
use Rattle.idx_events.specs.World.{World}
use Rattle.idx_events.specs.Start.{new_world}
use Rattle.idx_events.specs.WorldOk.{WorldOk}
use Rattle.idx_events.specs.declared.event.Event.{Event}
use Rattle.idx_drill_events.specs.Lists.{Asking, written, all_asked}
use Rattle.idx_drill_events.specs.Written.{AreAll}
use Rattle.idx_drill_events.specs.Asked.{AreAsked}

-- the answers out of the volume
abbrev pub right_answers : Setting → List ℕ → List Asking → List (Option (List ℕ))
right_answers s raw questions = map (λ x. Some (s.answer raw x.ask)) questions

module _ (s : Setting) (step : ℕ) (volume : List ℕ) where
  -- the hall with the step of the volume, and nothing cached
  abbrev pub opened_hall : ℕ → HallValue
  opened_hall capacity = after_publish (post_of_files s step 0 (step_files s step 0 volume)) (hall s.shape [] (cached [] capacity))

  -- a new world of one volume and these questions
  abbrev pub drill_world : List Asking → ℕ → World
  drill_world questions capacity = new_world s ((step, volume) ∷ []) (map (λ x. x.ask) questions) capacity

  -- its step is written, and each question is asked
  abbrev pub drill_events : List ℕ → ℕ → List Asking → List Event
  drill_events pieces ranks questions = written s step 0 pieces ranks ++ all_asked 0 questions

  -- these are all pieces and ranks, the world is one that may be begun with, and each question reads what it does not find
  pub record IsDrill (pieces : List ℕ) (ranks capacity : ℕ) (questions : List Asking) : Type 0 where
    pub all : AreAll s pieces ranks
    pub start : WorldOk s (drill_world questions capacity)
    pub asked : AreAsked s (opened_hall capacity) questions
