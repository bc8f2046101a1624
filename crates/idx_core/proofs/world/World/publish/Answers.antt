use Rattle.std.proofs.Common.{map}
use Rattle.idx_events.specs.declared.event.Event.TheVariants.{Publish}
use Rattle.idx_core_layers.specs.Division.{layers_of}
use Rattle.idx_core_model.specs.Layers.{setting_of}
use Rattle.idx_core_steps.specs.Steps.{volume_of}
use Rattle.idx_core.proofs.PublishLemmas.{all-written, publish-step}
use Rattle.idx_core.proofs.StepLemmas.{volume-keeps}
use Rattle.idx_core.proofs.world.World.publish.Goals as goal

-- src/world.rt
pub publish_in-requires-clause-shape : goal.publish_in-requires-clause-shape
unfolding setting_of
publish_in-requires-clause-shape c = c.self.invariant.world.shape

-- src/world.rt
pub publish_in-requires-clause-written : goal.publish_in-requires-clause-written
publish_in-requires-clause-written c =
    let ok = c.self.invariant.world in
    all-written (layers_of c.self.inside.below) (map volume_of c.self.inside.steps.items) ok.volumes.steps ok.volumes.whole ok.docks ok.sealed

-- src/world.rt
pub invariant_of-self : goal.invariant_of-self
invariant_of-self c =
    volume-keeps c.self.inside.below c.self.inside.steps.items c.publish_in.new.steps.items c.self.inside.hall c.publish_in.new.hall c.self.inside.asked.items c.self.invariant (Publish c.args.time c.args.revision) c.publish_in.result
    (publish-step (layers_of c.self.inside.below) c.self.inside.steps.items c.self.inside.hall c.self.inside.asked.items c.args.time c.args.revision c.publish_in.result c.publish_in.new.steps.items c.publish_in.new.hall c.publish_in.ensures.publishing)
    (c.publish_in.ensures.slots c.self.invariant.slots)
