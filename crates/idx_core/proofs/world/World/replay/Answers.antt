use Rattle.std.proofs.Common.{◌≡◌, get_or, true, ◌∙◌, subst}
use Rattle.idx_events.specs.Events.{effect, enabled}
use Rattle.idx_events.specs.declared.event.Event.TheVariants.{Give}
use Rattle.idx_core_layers.specs.Division.{layers_of}
use Rattle.idx_core.proofs.ReplayLemmas.{run-more}
use Rattle.idx_core.proofs.world.World.replay.Goals as goal

-- src/world.rt
pub loop-i-preserved : goal.loop-i-preserved
loop-i-preserved c =
    let step = subst (λ d. (enabled (layers_of d) c.loop-i.self.world (get_or c.args.events.now c.loop-i.i (Give 0 0 0 0)) ≡ true)
    × (c.step.new.self.world ≡ effect (layers_of d) c.loop-i.self.world (get_or c.args.events.now c.loop-i.i (Give 0 0 0 0)))) c.loop-i.invariant.layers c.in_default.ensures.step in
    let more = run-more (layers_of c.args.self.now.layers) c.args.events.now c.args.self.now.world c.loop-i.i (Give 0 0 0 0) c.loop-i.self.world c.step.new.self.world c.loop-i-test.true
    c.loop-i.invariant.run c.loop-i.invariant.enabled step.0 step.1 in
    record { layers = c.in_default.ensures.layers ∙ c.loop-i.invariant.layers; enabled = more.0; run = more.1 }
