-- Where a piece may be shipped and a file may be written, by the slot of the file.
use Rattle.std.proofs.Common.{◌≡◌, ℕ, zero, suc, ◌<◌, Bool, true, false, not, cond, ◌&&◌, ◌||◌, nat_eq, List, [], ◌∷◌, length, map, get_or, find, Some, None, refl, sym, ap, ◌∙◌, subst, eqb-true, arith}
use Rattle.std.specs.List.{list_any, position}
use Rattle.std.specs.Option.{is_some}
use Rattle.std.proofs.lemmas.Cmp.{nat_eq_equiv}
use Rattle.std.proofs.lemmas.List.Elements.{All-get_or}
use Rattle.std.proofs.lemmas.List.Quantifiers.{position-Some}
use Rattle.idx_dock.specs.Dock.{awaited_at, missing}
use Rattle.idx_events.specs.Lists.{has, has_pair}
use Rattle.idx_events.specs.World.{Slot, is_abandoned, is_staged}
use Rattle.idx_events.specs.Volumes.{all_gave, all_shipped, can_ship, can_write}
use Rattle.idx_events.proofs.VolumeLemmas.{staged-live}
use Rattle.idx_core_layers.specs.Division.{DivisionValue, layers_of}
use Rattle.idx_core_steps.specs.Steps.{AreSlots, IsSlot, SlotValue, StepValue, slot_of, volume_of}
use Rattle.idx_core_steps.proofs.PlaceLemmas.{any-map, no-place}
use Rattle.idx_core_steps.proofs.SlotLemmas.{all-came, any-agree, has-piece}

module _ {X : Type 0} where
  any-at : (test : X → Bool) (xs : List X) (i : ℕ) (d : X) → i < length xs → test (get_or xs i d) ≡ true → list_any test xs ≡ true
  any-at test [] i d l t = absurd (omega arith)
  any-at test (x ∷ xs) zero d l t = ap (λ b. b || list_any test xs) t
  any-at test (x ∷ xs) (suc i) d l t = elim (test x) as (λ b. (b || list_any test xs) ≡ true) [ true ↦ refl | false ↦ any-at test xs i d (omega arith) t ]

  any-none : (test : X → Bool) (xs : List X) → find test xs ≡ None → list_any test xs ≡ false
  any-none test [] h = refl
  any-none test (x ∷ xs) h = (elim (test x) as (λ b. cond b (Some x) (find test xs) ≡ None → (b || list_any test xs) ≡ false) [
    | true ↦ λ k. cc
    | false ↦ λ k. any-none test xs k
  ]) h

-- the slot is of the file
abbrev pub is_for : ℕ → SlotValue → Bool
is_for file slot = nat_eq slot.dock.file file

module _ (d : DivisionValue) (v : StepValue) (file : ℕ) (files : is_abandoned v.phase ≡ false → map (λ slot. slot.file) (volume_of v).slots ≡ (layers_of d).files) where
  has-file : is_staged v.phase ≡ true → has file (layers_of d).files ≡ list_any (is_for file) v.slots
  has-file staged =
      ap (has file) (sym (files (staged-live v.phase staged)))
      ∙ any-map (λ (slot : Slot). slot.file) (nat_eq file) (map slot_of v.slots)
      ∙ any-map slot_of (λ (slot : Slot). nat_eq file slot.file) v.slots
      ∙ any-agree (λ s. nat_eq file s.dock.file) (is_for file) (λ s. nat_eq_equiv.symm file s.dock.file) v.slots

  -- a file that has no slot does not exist
  pub file-none : is_staged v.phase ≡ true → position (is_for file) v.slots ≡ None → has file (layers_of d).files ≡ false
  file-none staged none = has-file staged ∙ any-none (is_for file) v.slots (no-place (is_for file) v.slots none)

  and-false : (a b c : Bool) → b ≡ false → (a && (b && c)) ≡ false
  and-false true b c none = ap (λ x. x && c) none
  and-false false b c none = refl

  -- so nothing can be shipped to it, and it cannot be written
  pub ship-none : (piece : ℕ) → is_staged v.phase ≡ true → position (is_for file) v.slots ≡ None → can_ship (layers_of d) piece file (volume_of v) ≡ false
  ship-none piece staged none =
      and-false (is_staged v.phase) (has file (layers_of d).files) (all_gave (layers_of d) v.given piece && (has piece ((layers_of d).pieces_in file) && not (has_pair (piece, file) v.shipped))) (file-none staged none)

  pub write-none : is_staged v.phase ≡ true → position (is_for file) v.slots ≡ None → can_write (layers_of d) file (volume_of v) ≡ false
  write-none staged none =
      and-false (is_staged v.phase) (has file (layers_of d).files)
      (all_shipped (layers_of d) v.shipped file && not (list_any (λ slot. nat_eq slot.file file && is_some slot.sealed) (volume_of v).slots)) (file-none staged none)

  module _ (slots : AreSlots d v) (staged : is_staged v.phase ≡ true) (i : ℕ) (place : position (is_for file) v.slots ≡ Some i) (slot : SlotValue) (at : slot ≡ get_or v.slots i slot) where
    pub slot-inside : i < length v.slots
    slot-inside = (position-Some (is_for file) v.slots i slot place).0

    -- the slot that was found is of the file
    pub slot-file : slot.dock.file ≡ file
    slot-file = ap (λ (s : SlotValue). s.dock.file) at ∙ eqb-true (get_or v.slots i slot).dock.file file (position-Some (is_for file) v.slots i slot place).1

    pub slot-is : IsSlot d v.raw v.shipped slot
    slot-is = subst (IsSlot d v.raw v.shipped) (sym at) (All-get_or (IsSlot d v.raw v.shipped) v.slots i slot slot-inside slots)

    file-exists : has file (layers_of d).files ≡ true
    file-exists = has-file staged ∙ any-at (is_for file) v.slots i slot slot-inside (position-Some (is_for file) v.slots i slot place).1

    and-true : (a b c : Bool) → a ≡ true → b ≡ true → (a && (b && c)) ≡ c
    and-true a b c s t = ap (λ x. x && (b && c)) s ∙ ap (λ x. x && c) t

    pub ship-some : (piece : ℕ) → can_ship (layers_of d) piece file (volume_of v) ≡ (all_gave (layers_of d) v.given piece && (is_some (awaited_at slot.dock piece) && not (has_pair (piece, file) v.shipped)))
    ship-some piece =
        and-true (is_staged v.phase) (has file (layers_of d).files) (all_gave (layers_of d) v.given piece && (has piece ((layers_of d).pieces_in file) && not (has_pair (piece, file) v.shipped))) staged file-exists
        ∙ ap (λ b. all_gave (layers_of d) v.given piece && (b && not (has_pair (piece, file) v.shipped)))
        (ap (λ n. has piece ((layers_of d).pieces_in n)) (sym slot-file) ∙ has-piece d v.raw v.shipped slot slot-is piece)

    pub write-some : can_write (layers_of d) file (volume_of v) ≡ (not (is_some (missing slot.dock)) && not (list_any (λ s. is_for file s && is_some s.sealed) v.slots))
    write-some =
        and-true (is_staged v.phase) (has file (layers_of d).files)
        (all_shipped (layers_of d) v.shipped file && not (list_any (λ slot. nat_eq slot.file file && is_some slot.sealed) (volume_of v).slots)) staged file-exists
        ∙ ap (λ b. b && not (list_any (λ slot. nat_eq slot.file file && is_some slot.sealed) (volume_of v).slots))
        (ap (all_shipped (layers_of d) v.shipped) (sym slot-file) ∙ all-came d v.raw v.shipped slot slot-is)
        ∙ ap (λ b. not (is_some (missing slot.dock)) && not b) (any-map slot_of (λ (s : Slot). nat_eq s.file file && is_some s.sealed) v.slots)
