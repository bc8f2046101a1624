use Rattle.std.proofs.Common.{◌&&◌, Bool, map, ap, sym, ◌∙◌}
use Rattle.std.specs.List.{list_all}
use Rattle.std.specs.Option.{is_some}
use Rattle.std.proofs.lemmas.List.Folds.{list_all-map}
use Rattle.idx_events.specs.World.{Slot}
use Rattle.idx_events.specs.Volumes.{can_publish}
use Rattle.idx_core_steps.specs.Steps.{SlotValue, slot_of, volume_of}
use Rattle.idx_core_steps.proofs.step.Step.can_publish.Goals as goal

pub returns-then-is_staged : goal.returns-then-is_staged
returns-then-is_staged c = λ s.
    let test : Slot → Bool = λ slot. is_some slot.sealed in
    c.all_sealed.ensures ∙ ap (list_all (λ (slot : SlotValue). is_some slot.sealed)) c.deref.ensures.value
    ∙ sym (list_all-map test slot_of c.self.inside.slots.items)
    ∙ ap (λ b. b && list_all test (map slot_of c.self.inside.slots.items)) c.if-is_staged.ensures
    ∙ ap (λ v. can_publish s (volume_of v)) c.self.view_is
