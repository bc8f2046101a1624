-- What writing a file makes of a revision.
use Rattle.std.proofs.Common.{◌≡◌, ℕ, ◌≤◌, true, not, ◌&&◌, nat_eq, List, map, set, get_or, Option, Some, None, refl, sym, ap, ◌∙◌, subst}
use Rattle.std.specs.List.{IsDistinct, list_any, position}
use Rattle.std.specs.Option.{is_some}
use Rattle.std.proofs.Math.ListN.{get_or-map}
use Rattle.std.proofs.lemmas.List.{map-set}
use Rattle.std.proofs.lemmas.List.Elements.{All-set}
use Rattle.idx_header.specs.Header.{HeaderValue, at_revision}
use Rattle.idx_header.specs.Names.{file_name}
use Rattle.idx_dock.specs.Content.{dock_bytes}
use Rattle.idx_dock.specs.Dock.{missing}
use Rattle.idx_events.specs.Lists.{has}
use Rattle.idx_events.specs.World.{Slot, Volume, is_staged}
use Rattle.idx_events.specs.Volumes.{all_shipped, can_write, seal, seal_slot}
use Rattle.idx_events.proofs.ListLemmas.{both, clash, not-true}
use Rattle.idx_events.proofs.VolumeLemmas.{staged-live}
use Rattle.idx_core_model.specs.Headline.{IsDivided}
use Rattle.idx_core_model.specs.Layers.{setting_of}
use Rattle.idx_core_model.proofs.AnswerLemmas.{step_taken}
use Rattle.idx_core_model.proofs.SettingLemmas.{layers_ok}
use Rattle.idx_core_layers.specs.Division.{DivisionValue, layers_of}
use Rattle.idx_core_steps.specs.Steps.{AreSlots, HasAllFiles, IsSlot, SlotValue, StepValue, dock_table, sealed_slot, slot_of, volume_of}
use Rattle.idx_core_steps.proofs.PlaceLemmas.{one-change, position-map}
use Rattle.idx_core_steps.proofs.SlotLemmas.{slot-laid, unsome}
use Rattle.idx_core_steps.proofs.EnabledLemmas.{is_for, slot-file, slot-is, write-none, write-some}

-- a revision's number is small
pub revision-few : (d : DivisionValue) (time revision : ℕ) → (layers_of d).valid_step time revision ≡ true → revision ≤ 255
unfolding setting_of
revision-few d time revision valid = (step_taken d.header time revision valid).1

name-of : (d : DivisionValue) (time revision file : ℕ) → file_name (at_revision revision d.header) time file ≡ (layers_of d).name time revision file
unfolding setting_of
name-of d time revision file = refl

-- what holds of a slot goes by its aggregator
pub sealed-is : (d : DivisionValue) (raw : List ℕ) (shipped : List (ℕ × ℕ)) (s : SlotValue) (x : Option (List ℕ × List ℕ)) → IsSlot d raw shipped s → (let z : SlotValue = record s { sealed = x } in IsSlot d raw shipped z)
sealed-is d raw shipped s x is = record { header = is.header; among = is.among; awaited = is.awaited; came = is.came; samples = is.samples }

-- the files of the slots of a revision that is being written are apart
pub slots-apart : (d : DivisionValue) (v : StepValue) → IsDivided d.header d.digits d.ranks → HasAllFiles d v → is_staged v.phase ≡ true → IsDistinct nat_eq (map (λ slot. slot.file) (map slot_of v.slots))
slots-apart d v divided files staged = subst (IsDistinct nat_eq) (sym (files (staged-live v.phase staged))) (layers_ok d.header d.digits d.ranks divided).apart

module _ (d : DivisionValue) (v : StepValue) (file : ℕ) (files : HasAllFiles d v) (slots : AreSlots d v) (can : can_write (layers_of d) file (volume_of v) ≡ true) where
  pub write-staged : is_staged v.phase ≡ true
  write-staged =
      (both (is_staged v.phase) (has file (layers_of d).files && (all_shipped (layers_of d) v.shipped file && not (list_any (λ slot. nat_eq slot.file file && is_some slot.sealed) (volume_of v).slots))) can).0

  pub write-there : position (is_for file) v.slots ≡ None → ⊥
  write-there none = clash can (write-none d v file files write-staged none)

  module _ (i : ℕ) (place : position (is_for file) v.slots ≡ Some i) (slot : SlotValue) (at : slot ≡ get_or v.slots i slot) where
    -- nothing is missing
    pub write-whole : missing slot.dock ≡ None
    write-whole =
        unsome (missing slot.dock) (not-true (is_some (missing slot.dock))
        (both (not (is_some (missing slot.dock))) (not (list_any (λ s. is_for file s && is_some s.sealed) v.slots))
        (sym (write-some d v file files slots write-staged i place slot at) ∙ can)).0)

    module _ (h : HeaderValue) (h_is : h ≡ at_revision v.revision d.header) (new : SlotValue) (new_is : new ≡ sealed_slot h v.time slot) where
      sealed-one : slot_of new ≡ (let z : Slot = record (slot_of slot) { sealed = Some ((layers_of d).name v.time v.revision file, (layers_of d).lay file (dock_table slot.dock)) } in z)
      sealed-one =
          let name : file_name h v.time slot.dock.file ≡ (layers_of d).name v.time v.revision file =
          ap (λ x. file_name x v.time slot.dock.file) h_is ∙ ap (file_name (at_revision v.revision d.header) v.time) (slot-file d v file files slots write-staged i place slot at) ∙ name-of d v.time v.revision file in
          let bytes : dock_bytes slot.dock ≡ (layers_of d).lay file (dock_table slot.dock) =
          slot-laid d v.raw v.shipped slot (slot-is d v file files slots write-staged i place slot at)
          ∙ ap (λ n. (layers_of d).lay n (dock_table slot.dock)) (slot-file d v file files slots write-staged i place slot at) in
          ap slot_of new_is ∙ (λ j. let z : Slot = record (slot_of slot) { sealed = Some (name j, bytes j) } in z)

      -- the volume with the file
      pub seal-done : IsDivided d.header d.digits d.ranks → (let u : StepValue = record v { slots = set v.slots i new } in volume_of u) ≡ seal (layers_of d) file (volume_of v)
      seal-done divided =
          let f : Slot → Slot = λ (z : Slot). record z { sealed = Some ((layers_of d).name v.time v.revision file, (layers_of d).lay file z.dock) } in
          let there : get_or (map slot_of v.slots) i (slot_of slot) ≡ slot_of slot = get_or-map slot_of v.slots i slot ∙ ap slot_of (sym at) in
          let changed : map slot_of (set v.slots i new) ≡ map (seal_slot (layers_of d) v.time v.revision file) (map slot_of v.slots) =
          map-set slot_of v.slots i new
          ∙ ap (set (map slot_of v.slots) i) (sealed-one ∙ ap f (sym there))
          ∙ sym (one-change (λ (z : Slot). z.file) file f (map slot_of v.slots) i (slot_of slot) (slots-apart d v divided files write-staged)
          (position-map slot_of (λ (z : Slot). nat_eq z.file file) v.slots ∙ place)) in
          ap (λ x. let u : Volume = record (volume_of v) { slots = x } in u) changed

      pub seal-slots : (let u : StepValue = record v { slots = set v.slots i new } in AreSlots d u)
      seal-slots =
          All-set (IsSlot d v.raw v.shipped) v.slots i new
          (subst (IsSlot d v.raw v.shipped) (sym new_is) (sealed-is d v.raw v.shipped slot (Some (file_name h v.time slot.dock.file, dock_bytes slot.dock)) (slot-is d v file files slots write-staged i place slot at))) slots
