use Rattle.std.proofs.Common.{◌≡◌, true, sym, ap, ◌∙◌, subst}
use Rattle.std.specs.List.{position}
use Rattle.idx_header.specs.Header.{HeaderValue}
use Rattle.idx_events.specs.Volumes.{can_ship, ship}
use Rattle.idx_core_layers.specs.Division.{DivisionValue, layers_of}
use Rattle.idx_core_deliver.specs.Deliver.{HasTaken}
use Rattle.idx_core_steps.specs.Steps.{AreSlots, CanTake, HasAllFiles, StepValue, volume_of}
use Rattle.idx_core_steps.specs.contracts.step.Step.{the_view}
use Rattle.idx_core_steps.proofs.EnabledLemmas.{is_for}
use Rattle.idx_core_steps.proofs.ShipLemmas.{ship-done, ship-piece, ship-slots_by, ship-take, ship-there}
use Rattle.idx_core_steps.proofs.step.Step.ship.Goals as goal

pub unreachable-requires : goal.unreachable-requires
unreachable-requires c =
    let d : DivisionValue = c.args.below.now in
    let v : StepValue = the_view c.self.inside in
    let files : HasAllFiles d v = subst (HasAllFiles d) (sym c.self.view_is) c.requires.files in
    let slots : AreSlots d v = subst (AreSlots d) (sym c.self.view_is) c.requires.slots in
    let can : can_ship (layers_of d) c.args.piece c.args.file (volume_of v) ≡ true =
    subst (λ (u : StepValue). can_ship (layers_of d) c.args.piece c.args.file (volume_of u) ≡ true) (sym c.self.view_is) c.requires.enabled in
    ship-there d v c.args.piece c.args.file c.header-header.ensures.valid files slots can (sym (c.in_default.ensures ∙ ap (position (is_for c.args.file)) c.deref.ensures.value))

pub unreachable-requires-in_default-piece : goal.unreachable-requires-in_default-piece
unreachable-requires-in_default-piece c =
    let d : DivisionValue = c.args.below.now in
    let v : StepValue = the_view c.self.inside in
    let files : HasAllFiles d v = subst (HasAllFiles d) (sym c.self.view_is) c.requires.files in
    let slots : AreSlots d v = subst (AreSlots d) (sym c.self.view_is) c.requires.slots in
    let can : can_ship (layers_of d) c.args.piece c.args.file (volume_of v) ≡ true =
    subst (λ (u : StepValue). can_ship (layers_of d) c.args.piece c.args.file (volume_of u) ≡ true) (sym c.self.view_is) c.requires.enabled in
    ship-piece d v c.args.piece c.args.file c.header-header.ensures.valid files slots can c.in-Some.i (sym (c.in-Some.ensures ∙ ap (position (is_for c.args.file)) c.deref.ensures.value))
    (sym c.in_default-piece.ensures)

pub take-requires : goal.take-requires
take-requires c =
    let d : DivisionValue = c.args.below.now in
    let v : StepValue = the_view c.self.inside in
    let files : HasAllFiles d v = subst (HasAllFiles d) (sym c.self.view_is) c.requires.files in
    let slots : AreSlots d v = subst (AreSlots d) (sym c.self.view_is) c.requires.slots in
    let can : can_ship (layers_of d) c.args.piece c.args.file (volume_of v) ≡ true =
    subst (λ (u : StepValue). can_ship (layers_of d) c.args.piece c.args.file (volume_of u) ≡ true) (sym c.self.view_is) c.requires.enabled in
    subst (λ (h : HeaderValue). CanTake h v.raw c.in-Some-piece.given.now c.index_mut.result.now.dock) (sym c.header-header.ensures.value)
    (ship-take d v c.args.piece c.args.file c.header-header.ensures.valid files slots can c.in-Some.i (sym (c.in-Some.ensures ∙ ap (position (is_for c.args.file)) c.deref.ensures.value))
    c.index_mut.result.now c.index_mut.ensures.value c.in-Some-piece.given.now (sym c.in-Some-piece.ensures) (subst (λ (u : StepValue). (layers_of d).valid_raw u.raw ≡ true) (sym c.self.view_is) c.requires.whole))

pub returns-in-Ok-clause-ok : goal.returns-in-Ok-clause-ok
returns-in-Ok-clause-ok c =
    let d : DivisionValue = c.args.below.now in
    let v : StepValue = the_view c.self.inside in
    let files : HasAllFiles d v = subst (HasAllFiles d) (sym c.self.view_is) c.requires.files in
    let slots : AreSlots d v = subst (AreSlots d) (sym c.self.view_is) c.requires.slots in
    let can : can_ship (layers_of d) c.args.piece c.args.file (volume_of v) ≡ true =
    subst (λ (u : StepValue). can_ship (layers_of d) c.args.piece c.args.file (volume_of u) ≡ true) (sym c.self.view_is) c.requires.enabled in
    let taken : HasTaken d.header v.raw c.in-Some-piece.given.now.id c.index_mut.result.now.dock c.take.new.self.dock =
    subst (λ (h : HeaderValue). HasTaken h v.raw c.in-Some-piece.given.now.id c.index_mut.result.now.dock c.take.new.self.dock) c.header-header.ensures.value c.in-Ok.ensures.taken in
    ship-done d v c.args.piece c.args.file c.header-header.ensures.valid files slots can c.in-Some.i (sym (c.in-Some.ensures ∙ ap (position (is_for c.args.file)) c.deref.ensures.value))
    c.index_mut.result.now c.index_mut.ensures.value c.in-Some-piece.given.now (sym c.in-Some-piece.ensures) c.take.new.self taken (subst (λ (u : StepValue). (layers_of d).valid_raw u.raw ≡ true) (sym c.self.view_is) c.requires.whole)
    c.in-Ok.ensures.before c.in-Ok.ensures.after c.in-Ok.ensures.sealed c.take.new.raw.bytes c.push.new.self.items c.in-Ok.ensures.raw c.in_ok-push.ensures.items
    ∙ ap (λ (u : StepValue). ship (layers_of d) c.args.piece c.args.file (volume_of u)) c.self.view_is

pub returns-in-Ok-clause-slots : goal.returns-in-Ok-clause-slots
returns-in-Ok-clause-slots c =
    let d : DivisionValue = c.args.below.now in
    let v : StepValue = the_view c.self.inside in
    let files : HasAllFiles d v = subst (HasAllFiles d) (sym c.self.view_is) c.requires.files in
    let slots : AreSlots d v = subst (AreSlots d) (sym c.self.view_is) c.requires.slots in
    let can : can_ship (layers_of d) c.args.piece c.args.file (volume_of v) ≡ true =
    subst (λ (u : StepValue). can_ship (layers_of d) c.args.piece c.args.file (volume_of u) ≡ true) (sym c.self.view_is) c.requires.enabled in
    let taken : HasTaken d.header v.raw c.in-Some-piece.given.now.id c.index_mut.result.now.dock c.take.new.self.dock =
    subst (λ (h : HeaderValue). HasTaken h v.raw c.in-Some-piece.given.now.id c.index_mut.result.now.dock c.take.new.self.dock) c.header-header.ensures.value c.in-Ok.ensures.taken in
    ship-slots_by d v c.args.piece c.args.file c.header-header.ensures.valid files slots can c.in-Some.i (sym (c.in-Some.ensures ∙ ap (position (is_for c.args.file)) c.deref.ensures.value))
    c.index_mut.result.now c.index_mut.ensures.value c.in-Some-piece.given.now (sym c.in-Some-piece.ensures) c.take.new.self taken c.take.new.raw.bytes c.push.new.self.items c.in-Ok.ensures.raw c.in_ok-push.ensures.items
