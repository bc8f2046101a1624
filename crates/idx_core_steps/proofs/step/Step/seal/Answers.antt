use Rattle.std.proofs.Common.{◌≡◌, ◌≤◌, true, ap, sym, ◌∙◌, subst, arith}
use Rattle.std.specs.List.{position}
use Rattle.idx_header.specs.Header.{at_revision}
use Rattle.idx_events.specs.Volumes.{can_write, seal}
use Rattle.idx_core_layers.specs.Division.{DivisionValue, layers_of}
use Rattle.idx_core_steps.specs.Steps.{AreSlots, HasAllFiles, StepValue, volume_of}
use Rattle.idx_core_steps.specs.contracts.step.Step.{the_view}
use Rattle.idx_core_steps.proofs.EnabledLemmas.{is_for}
use Rattle.idx_core_steps.proofs.SealLemmas.{revision-few, seal-done, seal-slots, write-there, write-whole}
use Rattle.idx_core_steps.proofs.step.Step.seal.Goals as goal

pub overflow_cast-self-inside : goal.overflow_cast-self-inside
overflow_cast-self-inside c =
    let few : c.self.inside.revision ≤ 255 = revision-few c.args.below.now c.self.inside.time c.self.inside.revision
    (subst (λ (v : StepValue). (layers_of c.args.below.now).valid_step v.time v.revision ≡ true) (sym c.self.view_is) c.requires.step) in
    omega arith

pub at_revision-requires-clause-few : goal.at_revision-requires-clause-few
at_revision-requires-clause-few c =
    revision-few c.args.below.now c.self.inside.time c.self.inside.revision (subst (λ (v : StepValue). (layers_of c.args.below.now).valid_step v.time v.revision ≡ true) (sym c.self.view_is) c.requires.step)

pub unreachable-requires : goal.unreachable-requires
unreachable-requires c =
    let d : DivisionValue = c.args.below.now in
    let v : StepValue = the_view c.self.inside in
    write-there d v c.args.file (subst (HasAllFiles d) (sym c.self.view_is) c.requires.files) (subst (AreSlots d) (sym c.self.view_is) c.requires.slots)
    (subst (λ (u : StepValue). can_write (layers_of d) c.args.file (volume_of u) ≡ true) (sym c.self.view_is) c.requires.enabled)
    (sym (c.in_default.ensures ∙ ap (position (is_for c.args.file)) c.deref.ensures.value))

pub seal-requires : goal.seal-requires
seal-requires c =
    let d : DivisionValue = c.args.below.now in
    let v : StepValue = the_view c.self.inside in
    write-whole d v c.args.file (subst (HasAllFiles d) (sym c.self.view_is) c.requires.files) (subst (AreSlots d) (sym c.self.view_is) c.requires.slots)
    (subst (λ (u : StepValue). can_write (layers_of d) c.args.file (volume_of u) ≡ true) (sym c.self.view_is) c.requires.enabled)
    c.in-Some.i (sym (c.in-Some.ensures ∙ ap (position (is_for c.args.file)) c.deref.ensures.value)) c.index_mut.result.now c.index_mut.ensures.value

pub returns-clause-ok : goal.returns-clause-ok
returns-clause-ok c =
    let d : DivisionValue = c.args.below.now in
    let v : StepValue = the_view c.self.inside in
    seal-done d v c.args.file (subst (HasAllFiles d) (sym c.self.view_is) c.requires.files) (subst (AreSlots d) (sym c.self.view_is) c.requires.slots)
    (subst (λ (u : StepValue). can_write (layers_of d) c.args.file (volume_of u) ≡ true) (sym c.self.view_is) c.requires.enabled)
    c.in-Some.i (sym (c.in-Some.ensures ∙ ap (position (is_for c.args.file)) c.deref.ensures.value)) c.index_mut.result.now c.index_mut.ensures.value
    c.in_ok-header.header (c.in_ok-header.ensures ∙ ap (at_revision c.self.inside.revision) c.header.ensures.value) c.seal.new.self c.in_ok-seal.ensures.ok c.header.ensures.valid
    ∙ ap (λ (u : StepValue). seal (layers_of d) c.args.file (volume_of u)) c.self.view_is

pub returns-clause-slots : goal.returns-clause-slots
returns-clause-slots c =
    let d : DivisionValue = c.args.below.now in
    let v : StepValue = the_view c.self.inside in
    seal-slots d v c.args.file (subst (HasAllFiles d) (sym c.self.view_is) c.requires.files) (subst (AreSlots d) (sym c.self.view_is) c.requires.slots)
    (subst (λ (u : StepValue). can_write (layers_of d) c.args.file (volume_of u) ≡ true) (sym c.self.view_is) c.requires.enabled)
    c.in-Some.i (sym (c.in-Some.ensures ∙ ap (position (is_for c.args.file)) c.deref.ensures.value)) c.index_mut.result.now c.index_mut.ensures.value
    c.in_ok-header.header (c.in_ok-header.ensures ∙ ap (at_revision c.self.inside.revision) c.header.ensures.value) c.seal.new.self c.in_ok-seal.ensures.ok
