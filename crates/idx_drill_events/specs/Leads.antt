-- Lists of events that may happen, and where they lead.
use Rattle.std.specs.Prelude.{◌≡◌, true, List}
use Rattle.idx_events.specs.Setting.{Setting}
use Rattle.idx_events.specs.World.{World}
use Rattle.idx_events.specs.Events.{run, all_enabled}
use Rattle.idx_events.specs.declared.event.Event.{Event}

-- all of the events may happen one after another, and lead from one world to the other
pub record Leads (s : Setting) (w : World) (es : List Event) (u : World) : Type 0 where
  pub may : all_enabled s w es ≡ true
  pub after : run s w es ≡ u
