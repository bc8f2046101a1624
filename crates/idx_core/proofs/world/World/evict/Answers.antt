use Rattle.std.proofs.Common.{refl, sym, subst}
use Rattle.idx_events.specs.WorldOk.{WorldOk}
use Rattle.idx_events.specs.declared.event.Event.TheVariants.{Evict}
use Rattle.idx_events.proofs.WorldLemmas.{keeps}
use Rattle.idx_core_layers.specs.Division.{layers_of}
use Rattle.idx_core_model.proofs.SettingLemmas.{layers_ok}
use Rattle.idx_core.specs.World.{world_of}
use Rattle.idx_core.proofs.world.World.evict.Goals as goal

-- src/world.rt
pub invariant_of-self : goal.invariant_of-self
invariant_of-self c =
    let b = c.self.inside in
    record {
      divided = c.self.invariant.divided;
      world = subst (λ h. WorldOk (layers_of b.below) (world_of b.steps.items h b.asked.items)) (sym c.evict.ensures.kept)
          (keeps (layers_of b.below) (layers_ok b.below.header b.below.digits b.below.ranks c.self.invariant.divided) (world_of b.steps.items b.hall b.asked.items) c.self.invariant.world (Evict c.args.count) refl);
      slots = c.self.invariant.slots;
      planned = c.self.invariant.planned;
    }
