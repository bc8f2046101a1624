use Rattle.std.proofs.Common.{◌&&◌, Bool, not, sym, ap, ◌∙◌, subst}
use Rattle.std.specs.List.{list_any, position}
use Rattle.std.specs.Option.{is_some}
use Rattle.idx_events.specs.Volumes.{can_write}
use Rattle.idx_core_layers.specs.Division.{DivisionValue, layers_of}
use Rattle.idx_core_steps.specs.Steps.{AreSlots, HasAllFiles, SlotValue, StepValue, volume_of}
use Rattle.idx_core_steps.specs.contracts.step.Step.{the_view}
use Rattle.idx_core_steps.proofs.EnabledLemmas.{is_for, write-none, write-some}
use Rattle.idx_core_steps.proofs.step.Step.can_write.Goals as goal

pub returns-in-None : goal.returns-in-None
returns-in-None c =
    let d : DivisionValue = c.args.below.now in
    let v : StepValue = the_view c.self.inside in
    sym (write-none d v c.args.file (subst (HasAllFiles d) (sym c.self.view_is) c.requires.files) (sym c.if-not-is_staged.ensures)
    (sym (c.in-None.ensures ∙ ap (position (is_for c.args.file)) c.deref.ensures.value)))
    ∙ ap (λ (u : StepValue). can_write (layers_of d) c.args.file (volume_of u)) c.self.view_is

pub returns-then-is_whole : goal.returns-then-is_whole
returns-then-is_whole c =
    let d : DivisionValue = c.args.below.now in
    let v : StepValue = the_view c.self.inside in
    let test : SlotValue → Bool = λ s. is_for c.args.file s && is_some s.sealed in
    ap not (c.any_sealed.ensures ∙ ap (list_any test) c.deref-then-is_whole.ensures.value)
    ∙ ap (λ b. b && not (list_any test v.slots)) c.if-is_whole.ensures
    ∙ sym (write-some d v c.args.file (subst (HasAllFiles d) (sym c.self.view_is) c.requires.files) (subst (AreSlots d) (sym c.self.view_is) c.requires.slots) (sym c.if-not-is_staged.ensures) c.in-Some.i
    (sym (c.in-Some.ensures ∙ ap (position (is_for c.args.file)) c.deref.ensures.value)) c.index.result.now c.index.ensures)
    ∙ ap (λ (u : StepValue). can_write (layers_of d) c.args.file (volume_of u)) c.self.view_is

pub returns-else-is_whole : goal.returns-else-is_whole
returns-else-is_whole c =
    let d : DivisionValue = c.args.below.now in
    let v : StepValue = the_view c.self.inside in
    let test : SlotValue → Bool = λ s. is_for c.args.file s && is_some s.sealed in
    c.is_whole.ensures ∙ sym c.if-is_whole.ensures
    ∙ ap (λ b. b && not (list_any test v.slots)) c.if-is_whole.ensures
    ∙ sym (write-some d v c.args.file (subst (HasAllFiles d) (sym c.self.view_is) c.requires.files) (subst (AreSlots d) (sym c.self.view_is) c.requires.slots) (sym c.if-not-is_staged.ensures) c.in-Some.i
    (sym (c.in-Some.ensures ∙ ap (position (is_for c.args.file)) c.deref.ensures.value)) c.index.result.now c.index.ensures)
    ∙ ap (λ (u : StepValue). can_write (layers_of d) c.args.file (volume_of u)) c.self.view_is
