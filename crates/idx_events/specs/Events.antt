-- Where each event is enabled, and what it leaves.
use Rattle.std.specs.Prelude.{ℕ, Bool, true, false, not, ◌&&◌, if◌then◌else◌, List, [], ◌∷◌, find, slice_get, slice_set, Option, Some, None}
use Rattle.std.specs.Option.{option_map_or}
use Rattle.std.specs.List.{list_any}
use Rattle.idx_events.specs.Lists.{change_first}
use Rattle.idx_hall.specs.Hall.{HallValue, after_publish, after_look, after_fill, after_evict}
use Rattle.idx_hall.specs.declared.key.Key.{Key}
use Rattle.idx_events.specs.Setting.{Setting}
use Rattle.idx_events.specs.World.{World, Volume, Query}
use Rattle.idx_events.specs.Volumes.{is_of, is_later, can_give, can_ship, can_write, can_publish, can_abandon, give, ship, seal, publish, abandon, post_of_sealed}
use Rattle.idx_events.specs.Queries.{can_look, can_read, can_fill, can_answer, look, read, fill, answered, post_for, round_keys, loaded_pairs}
use Rattle.idx_events.specs.declared.event.Event.{Event}
use Rattle.idx_events.specs.declared.event.Event.TheVariants.{Give, Ship, Write, Publish, Abandon, Look, Read, Fill, Evict, Answer}

-- the volume of a timestep's revision passes a test
abbrev pub volume_can : ℕ → ℕ → (Volume → Bool) → World → Bool
volume_can time revision test w = option_map_or test (find (is_of time revision) w.volumes) false

abbrev pub query_can : ℕ → (Query → Bool) → World → Bool
query_can number test w = option_map_or test (slice_get w.queries number) false

-- a world with the volume of a timestep's revision changed, and nothing else
abbrev pub on_volume : ℕ → ℕ → (Volume → Volume) → World → World
on_volume time revision f w = record w { volumes = change_first (is_of time revision) f w.volumes }

-- a hall after a look in a post, if there is one
abbrev pub after_look_in : Option ℕ → List Key → HallValue → HallValue
after_look_in None keys h = h
after_look_in (Some number) keys h = after_look number keys h

-- a hall after the blocks of a question's post came
abbrev pub after_fill_of : Query → HallValue → HallValue
after_fill_of x h = option_map_or (λ number. after_fill number (loaded_pairs x) h) x.post h

-- a world with a query and the hall changed, and nothing else; both may depend on the query
abbrev pub on_query : ℕ → (Query → HallValue) → (Query → Query) → World → World
on_query number h f w = option_map_or (λ x. record w { hall = h x; queries = slice_set w.queries number (f x) }) (slice_get w.queries number) w

module _ (s : Setting) where
  abbrev pub enabled : World → Event → Bool
  enabled w (Give time revision rank piece) = volume_can time revision (can_give s rank piece) w
  enabled w (Ship time revision piece file) = volume_can time revision (can_ship s piece file) w
  enabled w (Write time revision file) = volume_can time revision (can_write s file) w
  enabled w (Publish time revision) = volume_can time revision (can_publish s) w && not (list_any (is_later time revision) w.volumes)
  enabled w (Abandon time revision) = volume_can time revision (can_abandon s) w
  enabled w (Look query) = query_can query (can_look s w.hall.board) w
  enabled w (Read query block) = query_can query (can_read block) w
  enabled w (Fill query) = query_can query can_fill w
  enabled w (Evict count) = true
  enabled w (Answer query) = query_can query (can_answer s) w

  abbrev pub hall_after_publish : Option Volume → HallValue → HallValue
  hall_after_publish v h = option_map_or (λ u. after_publish (post_of_sealed s u) h) v h

  abbrev pub effect : World → Event → World
  effect w (Give time revision rank piece) = on_volume time revision (give s rank piece) w
  effect w (Ship time revision piece file) = on_volume time revision (ship s piece file) w
  effect w (Write time revision file) = on_volume time revision (seal s file) w
  effect w (Publish time revision) = record (on_volume time revision (publish s) w) { hall = hall_after_publish (find (is_of time revision) w.volumes) w.hall }
  effect w (Abandon time revision) = on_volume time revision (abandon s) w
  effect w (Look query) = on_query query (λ x. after_look_in (post_for w.hall.board x) (round_keys s x) w.hall) (look s w.hall) w
  effect w (Read query block) = on_query query (λ x. w.hall) (read w.hall.board block) w
  effect w (Fill query) = on_query query (λ x. after_fill_of x w.hall) fill w
  effect w (Evict count) = record w { hall = after_evict count w.hall }
  effect w (Answer query) = on_query query (λ x. w.hall) (answered s) w

  -- the events one after another, as far as each is enabled: the world after all of them, or the world before the first that is
  -- not, and its place
  abbrev pub run : World → List Event → World
  run w [] = w
  run w (e ∷ es) = run (effect w e) es

  abbrev pub all_enabled : World → List Event → Bool
  all_enabled w [] = true
  all_enabled w (e ∷ es) = (if enabled w e then all_enabled (effect w e) es else false)
