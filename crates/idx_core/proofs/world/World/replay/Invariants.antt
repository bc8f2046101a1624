use Rattle.std.proofs.Common.{◌≡◌, take, true}
use Rattle.idx_events.specs.Events.{all_enabled, run}
use Rattle.idx_core_layers.specs.Division.{layers_of}
use Rattle.idx_core.proofs.world.World.replay.Given as goal

abbrev pub invariant-loop-i : goal.invariant-loop-i
invariant-loop-i l = record {
  layers : l.self.layers ≡ l.fn.self.layers;
  enabled : all_enabled (layers_of l.fn.self.layers) l.fn.self.world (take l.i l.events) ≡ true;
  run : l.self.world ≡ run (layers_of l.fn.self.layers) l.fn.self.world (take l.i l.events);
}
