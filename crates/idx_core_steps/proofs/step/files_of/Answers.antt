use Rattle.std.proofs.Common.{◌≡◌, ◌++◌, ◌+◌, ◌<◌, [], ◌∷◌, ℕ, List, Option, Some, None, length, take, get_or, sym, ap, ◌∙◌, append-nil}
use Rattle.std.specs.List.{filter_map}
use Rattle.std.proofs.lemmas.List.{take_more}
use Rattle.std.proofs.lemmas.List.Elements.{filter_map-append}
use Rattle.idx_core_steps.specs.Steps.{SlotValue}
use Rattle.idx_core_steps.proofs.step.files_of.Goals as goal
use Rattle.idx_core_steps.proofs.step.files_of.Goals.{in-Some+in_ok-push, in_default}

-- the files of the slots so far and of one more
files-more : (slots : List SlotValue) (i : ℕ) (slot : SlotValue) → i < length slots → slot ≡ get_or slots i slot →
    filter_map (λ s. s.sealed) (take (i + 1) slots) ≡ filter_map (λ s. s.sealed) (take i slots) ++ filter_map (λ s. s.sealed) (slot ∷ [])
files-more slots i slot inside at =
    let sealed : SlotValue → Option (List ℕ × List ℕ) = λ s. s.sealed in
    ap (filter_map sealed) (take_more slots i slot inside) ∙ filter_map-append sealed (take i slots) (get_or slots i slot ∷ [])
    ∙ ap (λ s. filter_map sealed (take i slots) ++ filter_map sealed (s ∷ [])) (sym at)

one-file : (slot : SlotValue) (file : List ℕ × List ℕ) → slot.sealed ≡ Some file → filter_map (λ (s : SlotValue). s.sealed) (slot ∷ []) ≡ file ∷ []
one-file slot file is = ap (λ o. let z : SlotValue = record { dock = slot.dock; sealed = o } in filter_map (λ (s : SlotValue). s.sealed) (z ∷ [])) is

no-file : (slot : SlotValue) → slot.sealed ≡ None → filter_map (λ (s : SlotValue). s.sealed) (slot ∷ []) ≡ []
no-file slot is = ap (λ o. let z : SlotValue = record { dock = slot.dock; sealed = o } in filter_map (λ (s : SlotValue). s.sealed) (z ∷ [])) is

pub loop-slot-preserved : goal.loop-slot-preserved
loop-slot-preserved c =
    let more = files-more c.args.slots.now c.loop-slot.slot-index c.slot-item.result c.loop-slot-test.true c.slot-item.is in
    elim c.match-branch-2.branch [
      | in-Some+in_ok-push w ↦
          ap (λ v. v.items) w.files-is ∙ w.in_ok-push.ensures.items
          ∙ ap (λ l. l ++ w.in-Some.file ∷ []) c.loop-slot.invariant
          ∙ ap (λ l. filter_map (λ (s : SlotValue). s.sealed) (take c.loop-slot.slot-index c.args.slots.now) ++ l) (sym (one-file c.slot-item.result w.in-Some.file (sym c.in_ok-file.ensures ∙ w.in-Some.is)))
          ∙ sym more
      | in_default w ↦
          ap (λ v. v.items) w.files-is ∙ c.loop-slot.invariant
          ∙ sym (append-nil (filter_map (λ (s : SlotValue). s.sealed) (take c.loop-slot.slot-index c.args.slots.now)))
          ∙ ap (λ l. filter_map (λ (s : SlotValue). s.sealed) (take c.loop-slot.slot-index c.args.slots.now) ++ l) (sym (no-file c.slot-item.result (sym c.in_ok-file.ensures ∙ w.in_default.is)))
          ∙ sym more
    ]
