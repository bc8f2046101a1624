use Rattle.std.proofs.Common.{subst, sym, ◌∙◌}
use Rattle.std.specs.Prelude.{All}
use Rattle.std.proofs.lemmas.List.Elements.{All-push}
use Rattle.idx_core_layers.specs.Division.{layers_of}
use Rattle.idx_core_steps.specs.Steps.{AreSlots}
use Rattle.idx_core.proofs.NewLemmas.{step-more}
use Rattle.idx_core.proofs.taking.steps_of.Goals as goal

pub loop-i-preserved : goal.loop-i-preserved
loop-i-preserved c = record {
  volumes = step-more (layers_of c.args.below.now) c.args.volumes.now c.loop-i.i c.index-volumes-i.result c.index-volumes-i-in-loop-i.result c.loop-i.steps.items c.push.new.self.items c.in_ok-step.step c.revision_of-revision.result c.in_ok-raw.raw
      c.loop-i-test.true c.revision_of-revision.ensures (c.in_ok-raw.ensures ∙ c.as_slice.ensures) c.in_ok-step.ensures.volume c.in_ok-push.ensures.items c.loop-i.invariant.volumes;
  slots = subst (All (AreSlots c.args.below.now)) (sym c.in_ok-push.ensures.items) (All-push (AreSlots c.args.below.now) c.loop-i.steps.items c.in_ok-step.step c.loop-i.invariant.slots c.in_ok-step.ensures.slots);
}
