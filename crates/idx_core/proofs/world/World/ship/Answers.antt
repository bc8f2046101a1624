use Rattle.std.proofs.Common.{refl}
use Rattle.idx_events.specs.Volumes.{can_ship, ship}
use Rattle.idx_events.specs.declared.event.Event.TheVariants.{Ship}
use Rattle.idx_core_layers.specs.Division.{layers_of}
use Rattle.idx_core.proofs.StepLemmas.{volume-keeps, volume-step}
use Rattle.idx_core.proofs.world.World.ship.Goals as goal

-- src/world.rt
pub invariant_of-self : goal.invariant_of-self
invariant_of-self c =
    volume-keeps c.self.inside.below c.self.inside.steps.items c.ship_in.new.steps.items c.self.inside.hall c.self.inside.hall c.self.inside.asked.items c.self.invariant (Ship c.args.time c.args.revision c.args.piece c.args.file) c.ship_in.result
    (volume-step (layers_of c.self.inside.below) c.self.inside.steps.items c.self.inside.hall c.self.inside.asked.items c.args.time c.args.revision (can_ship (layers_of c.self.inside.below) c.args.piece c.args.file) (ship (layers_of c.self.inside.below) c.args.piece c.args.file) (Ship c.args.time c.args.revision c.args.piece c.args.file) refl refl c.ship_in.result c.ship_in.new.steps.items c.ship_in.ensures.change) c.ship_in.ensures.slots
