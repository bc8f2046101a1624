use Rattle.std.proofs.Common.{refl, subst}
use Rattle.idx_events.specs.Events.{after_look_in}
use Rattle.idx_events.specs.Queries.{can_look, look, post_for, round_keys}
use Rattle.idx_events.specs.declared.event.Event.TheVariants.{Look}
use Rattle.idx_core_layers.specs.Division.{layers_of}
use Rattle.idx_core.specs.World.{CoreValue, IsStep, world_of}
use Rattle.idx_core.proofs.StepLemmas.{asking-keeps, asking-step, question-at}
use Rattle.idx_core.proofs.MayLemmas.{may-look}
use Rattle.idx_core.proofs.world.World.look.Goals as goal

-- src/world.rt
pub look_in-requires-clause-looks : goal.look_in-requires-clause-looks
look_in-requires-clause-looks c = λ x at can. may-look c.self.inside.below c.self.invariant.divided (world_of c.self.inside.steps.items c.self.inside.hall c.self.inside.asked.items) c.self.invariant.world c.args.query x.query (question-at c.self.inside.steps.items c.self.inside.hall c.self.inside.asked.items c.args.query x at) can

-- src/world.rt
pub invariant_of-self : goal.invariant_of-self
invariant_of-self c = asking-keeps c.self.inside.below c.self.inside.steps.items c.self.inside.hall c.self.inside.asked.items c.args.query (can_look (layers_of c.self.inside.below) c.self.inside.hall.board) (λ x. after_look_in (post_for c.self.inside.hall.board x) (round_keys (layers_of c.self.inside.below) x) c.self.inside.hall) (look (layers_of c.self.inside.below) c.self.inside.hall) (Look c.args.query) c.self.invariant refl refl (λ x. refl) c.look_in.result c.look_in.new.asked.items c.look_in.new.hall c.look_in.ensures

-- src/world.rt
pub returns-clause-step : goal.returns-clause-step
returns-clause-step c =
    subst (λ (v : CoreValue). IsStep (layers_of v.layers) v.world (Look c.args.query) c.look_in.result (world_of c.self.inside.steps.items c.look_in.new.hall c.look_in.new.asked.items)) c.self.view_is
    (asking-step (layers_of c.self.inside.below) c.self.inside.steps.items c.self.inside.hall c.self.inside.asked.items c.args.query (can_look (layers_of c.self.inside.below) c.self.inside.hall.board) (λ x. after_look_in (post_for c.self.inside.hall.board x) (round_keys (layers_of c.self.inside.below) x) c.self.inside.hall) (look (layers_of c.self.inside.below) c.self.inside.hall) (Look c.args.query) refl refl c.look_in.result c.look_in.new.asked.items c.look_in.new.hall c.look_in.ensures)
