use Rattle.std.proofs.Common.{refl, subst}
use Rattle.idx_events.specs.Queries.{can_read, read}
use Rattle.idx_events.specs.declared.event.Event.TheVariants.{Read}
use Rattle.idx_core_layers.specs.Division.{layers_of}
use Rattle.idx_core.specs.World.{CoreValue, IsStep, world_of}
use Rattle.idx_core.proofs.StepLemmas.{asking-keeps, asking-step, question-at}
use Rattle.idx_core.proofs.MayLemmas.{may-read}
use Rattle.idx_core.proofs.world.World.read.Goals as goal

-- src/world.rt
pub read_in-requires : goal.read_in-requires
read_in-requires c = λ x at can. may-read c.self.inside.below c.self.invariant.divided (world_of c.self.inside.steps.items c.self.inside.hall c.self.inside.asked.items) c.self.invariant.world c.args.query x.query (question-at c.self.inside.steps.items c.self.inside.hall c.self.inside.asked.items c.args.query x at) c.args.block can

-- src/world.rt
pub invariant_of-self : goal.invariant_of-self
invariant_of-self c = asking-keeps c.self.inside.below c.self.inside.steps.items c.self.inside.hall c.self.inside.asked.items c.args.query (can_read c.args.block) (λ x. c.self.inside.hall) (read c.self.inside.hall.board c.args.block) (Read c.args.query c.args.block) c.self.invariant refl refl (λ x. refl) c.read_in.result c.read_in.new.asked.items c.self.inside.hall c.read_in.ensures

-- src/world.rt
pub returns-clause-step : goal.returns-clause-step
returns-clause-step c =
    subst (λ (v : CoreValue). IsStep (layers_of v.layers) v.world (Read c.args.query c.args.block) c.read_in.result (world_of c.self.inside.steps.items c.self.inside.hall c.read_in.new.asked.items)) c.self.view_is
    (asking-step (layers_of c.self.inside.below) c.self.inside.steps.items c.self.inside.hall c.self.inside.asked.items c.args.query (can_read c.args.block) (λ x. c.self.inside.hall) (read c.self.inside.hall.board c.args.block) (Read c.args.query c.args.block) refl refl c.read_in.result c.read_in.new.asked.items c.self.inside.hall c.read_in.ensures)
