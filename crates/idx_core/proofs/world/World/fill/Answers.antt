use Rattle.std.proofs.Common.{refl, subst}
use Rattle.idx_events.specs.Events.{after_fill_of}
use Rattle.idx_events.specs.Queries.{can_fill, fill}
use Rattle.idx_events.specs.declared.event.Event.TheVariants.{Fill}
use Rattle.idx_core_layers.specs.Division.{layers_of}
use Rattle.idx_core.specs.World.{CoreValue, IsStep, world_of}
use Rattle.idx_core.proofs.StepLemmas.{asking-keeps, asking-step, question-at}
use Rattle.idx_core.proofs.MayLemmas.{may-fill}
use Rattle.idx_core.proofs.world.World.fill.Goals as goal

-- src/world.rt
pub fill_in-requires : goal.fill_in-requires
fill_in-requires c = λ x at can. may-fill c.self.inside.below c.self.invariant.divided (world_of c.self.inside.steps.items c.self.inside.hall c.self.inside.asked.items) c.self.invariant.world c.args.query x.query (question-at c.self.inside.steps.items c.self.inside.hall c.self.inside.asked.items c.args.query x at) can

-- src/world.rt
pub invariant_of-self : goal.invariant_of-self
invariant_of-self c = asking-keeps c.self.inside.below c.self.inside.steps.items c.self.inside.hall c.self.inside.asked.items c.args.query can_fill (λ x. after_fill_of x c.self.inside.hall) fill (Fill c.args.query) c.self.invariant refl refl (λ x. refl) c.fill_in.result c.fill_in.new.asked.items c.fill_in.new.hall c.fill_in.ensures

-- src/world.rt
pub returns-clause-step : goal.returns-clause-step
returns-clause-step c =
    subst (λ (v : CoreValue). IsStep (layers_of v.layers) v.world (Fill c.args.query) c.fill_in.result (world_of c.self.inside.steps.items c.fill_in.new.hall c.fill_in.new.asked.items)) c.self.view_is
    (asking-step (layers_of c.self.inside.below) c.self.inside.steps.items c.self.inside.hall c.self.inside.asked.items c.args.query can_fill (λ x. after_fill_of x c.self.inside.hall) fill (Fill c.args.query) refl refl c.fill_in.result c.fill_in.new.asked.items c.fill_in.new.hall c.fill_in.ensures)
