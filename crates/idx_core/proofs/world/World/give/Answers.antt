use Rattle.std.proofs.Common.{refl}
use Rattle.idx_events.specs.Volumes.{can_give, give}
use Rattle.idx_events.specs.declared.event.Event.TheVariants.{Give}
use Rattle.idx_core_layers.specs.Division.{layers_of}
use Rattle.idx_core.proofs.StepLemmas.{volume-keeps, volume-step}
use Rattle.idx_core.proofs.world.World.give.Goals as goal

-- src/world.rt
pub invariant_of-self : goal.invariant_of-self
invariant_of-self c =
    volume-keeps c.self.inside.below c.self.inside.steps.items c.give_in.new.steps.items c.self.inside.hall c.self.inside.hall c.self.inside.asked.items c.self.invariant (Give c.args.time c.args.revision c.args.rank c.args.piece) c.give_in.result
    (volume-step (layers_of c.self.inside.below) c.self.inside.steps.items c.self.inside.hall c.self.inside.asked.items c.args.time c.args.revision (can_give (layers_of c.self.inside.below) c.args.rank c.args.piece) (give (layers_of c.self.inside.below) c.args.rank c.args.piece) (Give c.args.time c.args.revision c.args.rank c.args.piece) refl refl c.give_in.result c.give_in.new.steps.items c.give_in.ensures.change) (c.give_in.ensures.slots c.self.invariant.slots)
