-- A small drill, for worked values: the small dataset with one round for each question, two questions, and a cache of one block.
use Rattle.std.specs.Prelude.{ℕ, List, [], ◌∷◌}
use Rattle.idx_events.specs.Setting.{Setting}
use Rattle.idx_events.specs.World.{World}
use Rattle.idx_events.specs.Tiny.{tiny, tiny_ask, numbers}
use Rattle.idx_events.specs.declared.event.Event.{Event}
use Rattle.idx_drill_events.specs.Lists.{Asking}
use Rattle.idx_drill_events.specs.Drill.{drill_world, drill_events}

abbrev pub small : Setting
small = record tiny { rounds = λ ask. numbers 0 1 ∷ [] }

abbrev pub small_volume : List ℕ
small_volume = 10 ∷ numbers 20 30

-- a question of both blocks of the first post
abbrev pub small_asking : List ℕ → Asking
small_asking missing = record { ask = tiny_ask; post = 0; blocks = numbers 0 1; missing = missing }

-- the first question finds nothing, and the second one the block that came last
abbrev pub small_questions : List Asking
small_questions = small_asking (numbers 0 1) ∷ small_asking (0 ∷ []) ∷ []

abbrev pub small_world : World
small_world = drill_world small 5 small_volume small_questions 1

abbrev pub small_events : List Event
small_events = drill_events small 5 small_volume (numbers 0 1) 2 small_questions
