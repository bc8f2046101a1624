use Rattle.std.proofs.Common.{◌&&◌, not, sym, ap, ◌∙◌, subst}
use Rattle.std.specs.List.{position}
use Rattle.std.specs.Option.{is_some}
use Rattle.idx_dock.specs.Dock.{awaited_at}
use Rattle.idx_events.specs.Lists.{has_pair}
use Rattle.idx_events.specs.Volumes.{all_gave, can_ship}
use Rattle.idx_core_layers.specs.Division.{DivisionValue, layers_of}
use Rattle.idx_core_steps.specs.Steps.{AreSlots, HasAllFiles, StepValue, volume_of}
use Rattle.idx_core_steps.specs.contracts.step.Step.{the_view}
use Rattle.idx_core_steps.proofs.EnabledLemmas.{is_for, ship-none, ship-some}
use Rattle.idx_core_steps.proofs.step.Step.can_ship.Goals as goal

pub returns-in-None : goal.returns-in-None
returns-in-None c =
    let d : DivisionValue = c.args.below.now in
    let v : StepValue = the_view c.self.inside in
    let files : HasAllFiles d v = subst (HasAllFiles d) (sym c.self.view_is) c.requires.files in
    let slots : AreSlots d v = subst (AreSlots d) (sym c.self.view_is) c.requires.slots in
    sym (ship-none d v c.args.file files c.args.piece (sym c.if-not-is_staged.ensures) (sym (c.in-None.ensures ∙ ap (position (is_for c.args.file)) c.deref.ensures.value)))
    ∙ ap (λ (u : StepValue). can_ship (layers_of d) c.args.piece c.args.file (volume_of u)) c.self.view_is

pub returns-in-Some : goal.returns-in-Some
returns-in-Some c =
    let d : DivisionValue = c.args.below.now in
    let v : StepValue = the_view c.self.inside in
    let files : HasAllFiles d v = subst (HasAllFiles d) (sym c.self.view_is) c.requires.files in
    let slots : AreSlots d v = subst (AreSlots d) (sym c.self.view_is) c.requires.slots in
    c.can_come.ensures
    ∙ ap (λ given. all_gave (layers_of d) given c.args.piece && (is_some (awaited_at c.index.result.now.dock c.args.piece) && not (has_pair (c.args.piece, c.args.file) c.deref-in-Some-2.result.now))) c.deref-in-Some.ensures.value
    ∙ ap (λ shipped. all_gave (layers_of d) v.given c.args.piece && (is_some (awaited_at c.index.result.now.dock c.args.piece) && not (has_pair (c.args.piece, c.args.file) shipped))) c.deref-in-Some-2.ensures.value
    ∙ sym (ship-some d v c.args.file files slots (sym c.if-not-is_staged.ensures) c.in-Some.i (sym (c.in-Some.ensures ∙ ap (position (is_for c.args.file)) c.deref.ensures.value)) c.index.result.now c.index.ensures c.args.piece)
    ∙ ap (λ (u : StepValue). can_ship (layers_of d) c.args.piece c.args.file (volume_of u)) c.self.view_is
