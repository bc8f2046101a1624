use Rattle.std.proofs.Common.{refl, subst}
use Rattle.idx_events.specs.Queries.{answered, can_answer}
use Rattle.idx_events.specs.declared.event.Event.TheVariants.{Answer}
use Rattle.idx_core_layers.specs.Division.{layers_of}
use Rattle.idx_core.specs.World.{CoreValue, IsStep, world_of}
use Rattle.idx_core.proofs.StepLemmas.{asking-keeps, asking-step, planned-at, question-at}
use Rattle.idx_core.proofs.MayLemmas.{may-answer}
use Rattle.idx_core.proofs.world.World.answer.Goals as goal

-- src/world.rt
pub answer_in-requires-clause-held : goal.answer_in-requires-clause-held
answer_in-requires-clause-held c = λ x at can. record { held = may-answer c.self.inside.below c.self.invariant.divided (world_of c.self.inside.steps.items c.self.inside.hall c.self.inside.asked.items) c.self.invariant.world c.args.query x.query (question-at c.self.inside.steps.items c.self.inside.hall c.self.inside.asked.items c.args.query x at) can x.plan (planned-at c.self.inside.below c.self.inside.asked.items c.args.query x c.self.invariant.planned at).plan }

-- src/world.rt
pub invariant_of-self : goal.invariant_of-self
invariant_of-self c = asking-keeps c.self.inside.below c.self.inside.steps.items c.self.inside.hall c.self.inside.asked.items c.args.query (can_answer (layers_of c.self.inside.below)) (λ x. c.self.inside.hall) (answered (layers_of c.self.inside.below)) (Answer c.args.query) c.self.invariant refl refl (λ x. refl) c.answer_in.result c.answer_in.new.asked.items c.self.inside.hall (c.answer_in.ensures c.self.inside.hall)

-- src/world.rt
pub returns-clause-step : goal.returns-clause-step
returns-clause-step c =
    subst (λ (v : CoreValue). IsStep (layers_of v.layers) v.world (Answer c.args.query) c.answer_in.result (world_of c.self.inside.steps.items c.self.inside.hall c.answer_in.new.asked.items)) c.self.view_is
    (asking-step (layers_of c.self.inside.below) c.self.inside.steps.items c.self.inside.hall c.self.inside.asked.items c.args.query (can_answer (layers_of c.self.inside.below)) (λ x. c.self.inside.hall) (answered (layers_of c.self.inside.below)) (Answer c.args.query) refl refl c.answer_in.result c.answer_in.new.asked.items c.self.inside.hall (c.answer_in.ensures c.self.inside.hall))
