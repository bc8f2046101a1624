use Rattle.std.proofs.Common.{refl}
use Rattle.idx_events.specs.Volumes.{can_write, seal}
use Rattle.idx_events.specs.declared.event.Event.TheVariants.{Write}
use Rattle.idx_core_layers.specs.Division.{layers_of}
use Rattle.idx_core.proofs.StepLemmas.{volume-keeps, volume-step}
use Rattle.idx_core.proofs.world.World.write.Goals as goal

-- src/world.rt
pub invariant_of-self : goal.invariant_of-self
invariant_of-self c =
    volume-keeps c.self.inside.below c.self.inside.steps.items c.write_in.new.steps.items c.self.inside.hall c.self.inside.hall c.self.inside.asked.items c.self.invariant (Write c.args.time c.args.revision c.args.file) c.write_in.result
    (volume-step (layers_of c.self.inside.below) c.self.inside.steps.items c.self.inside.hall c.self.inside.asked.items c.args.time c.args.revision (can_write (layers_of c.self.inside.below) c.args.file) (seal (layers_of c.self.inside.below) c.args.file) (Write c.args.time c.args.revision c.args.file) refl refl c.write_in.result c.write_in.new.steps.items c.write_in.ensures.change) c.write_in.ensures.slots
