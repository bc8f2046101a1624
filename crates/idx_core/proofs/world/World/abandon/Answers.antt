use Rattle.std.proofs.Common.{refl, subst}
use Rattle.idx_events.specs.Volumes.{abandon, can_abandon}
use Rattle.idx_events.specs.declared.event.Event.TheVariants.{Abandon}
use Rattle.idx_core_layers.specs.Division.{layers_of}
use Rattle.idx_core.specs.World.{CoreValue, IsStep, world_of}
use Rattle.idx_core.proofs.StepLemmas.{volume-keeps, volume-step}
use Rattle.idx_core.proofs.world.World.abandon.Goals as goal

-- src/world.rt
pub invariant_of-self : goal.invariant_of-self
invariant_of-self c =
    volume-keeps c.self.inside.below c.self.inside.steps.items c.abandon_in.new.steps.items c.self.inside.hall c.self.inside.hall c.self.inside.asked.items c.self.invariant (Abandon c.args.time c.args.revision) c.abandon_in.result
    (volume-step (layers_of c.self.inside.below) c.self.inside.steps.items c.self.inside.hall c.self.inside.asked.items c.args.time c.args.revision (can_abandon (layers_of c.self.inside.below)) (abandon (layers_of c.self.inside.below)) (Abandon c.args.time c.args.revision) refl refl c.abandon_in.result c.abandon_in.new.steps.items (c.abandon_in.ensures.change (layers_of c.self.inside.below))) (c.abandon_in.ensures.slots c.self.inside.below c.self.invariant.slots)

-- src/world.rt
pub returns-clause-step : goal.returns-clause-step
returns-clause-step c =
    subst (λ (v : CoreValue). IsStep (layers_of v.layers) v.world (Abandon c.args.time c.args.revision) c.abandon_in.result (world_of c.abandon_in.new.steps.items c.self.inside.hall c.self.inside.asked.items)) c.self.view_is
    (volume-step (layers_of c.self.inside.below) c.self.inside.steps.items c.self.inside.hall c.self.inside.asked.items c.args.time c.args.revision (can_abandon (layers_of c.self.inside.below)) (abandon (layers_of c.self.inside.below)) (Abandon c.args.time c.args.revision) refl refl c.abandon_in.result c.abandon_in.new.steps.items (c.abandon_in.ensures.change (layers_of c.self.inside.below)))
