-- What shipping a piece to a file makes of a revision.
use Rattle.std.proofs.Common.{◌≡◌, ℕ, Bool, true, false, not, cond, ◌&&◌, nat_eq, List, [], ◌∷◌, ◌++◌, length, map, set, get_or, find, Some, None, refl, sym, ap, ◌∙◌, subst}
use Rattle.std.specs.Prelude.{◌==◌, All}
use Rattle.std.specs.List.{IsDistinct, position}
use Rattle.std.specs.Option.{is_some}
use Rattle.std.proofs.Math.ListN.{get_or-map}
use Rattle.std.proofs.lemmas.List.{map-set}
use Rattle.std.proofs.lemmas.List.Elements.{All-map, All-weaker}
use Rattle.idx_header.specs.Header.{volume_bytes}
use Rattle.idx_pieces.specs.Pieces.{pieces_of}
use Rattle.idx_pieces.specs.declared.piece.Piece.{Piece}
use Rattle.idx_dock.specs.Dock.{IsDock, awaited_at}
use Rattle.idx_events.specs.Lists.{has, has_pair}
use Rattle.idx_events.specs.World.{Slot, Volume, is_staged}
use Rattle.idx_events.specs.Volumes.{all_gave, can_ship, delivered, dock_of, ship, ship_slot}
use Rattle.idx_events.proofs.ListLemmas.{both, clash, found-passes, map-map, not-true}
use Rattle.std.proofs.lemmas.Bool.{eqb-true}
use Rattle.idx_core_model.specs.Headline.{IsDivided}
use Rattle.idx_core_layers.specs.Division.{DivisionValue, layers_of}
use Rattle.idx_core_deliver.specs.Deliver.{HasTaken}
use Rattle.idx_core_steps.specs.Steps.{AreSlots, CanTake, HasAllFiles, IsSlot, SlotValue, StepValue, dock_table, slot_of, volume_of}
use Rattle.idx_core_steps.proofs.PlaceLemmas.{item-at, one-change, position-map}
use Rattle.idx_core_steps.proofs.EditionLemmas.{raw-whole}
use Rattle.idx_core_steps.proofs.EnabledLemmas.{is_for, ship-none, ship-some, slot-file, slot-is}
use Rattle.idx_core_steps.proofs.SealLemmas.{slots-apart}
use Rattle.idx_events.proofs.VolumeLemmas.{delivered-dock}
use Rattle.idx_core_steps.proofs.TableLemmas.{slot-table}
use Rattle.idx_core_steps.proofs.TakeLemmas.{can-take, other-is, piece-there, taken-is}

module _ (d : DivisionValue) (v : StepValue) (piece file : ℕ) (divided : IsDivided d.header d.digits d.ranks) (files : HasAllFiles d v) (slots : AreSlots d v)
    (can : can_ship (layers_of d) piece file (volume_of v) ≡ true) where
  pub ship-staged : is_staged v.phase ≡ true
  ship-staged =
      (both (is_staged v.phase) (has file (layers_of d).files && (all_gave (layers_of d) v.given piece && (has piece ((layers_of d).pieces_in file) && not (has_pair (piece, file) v.shipped)))) can).0

  pub ship-there : position (is_for file) v.slots ≡ None → ⊥
  ship-there none = clash can (ship-none d v file files piece ship-staged none)

  module _ (i : ℕ) (place : position (is_for file) v.slots ≡ Some i) (slot : SlotValue) (at : slot ≡ get_or v.slots i slot) where
    ship-rest : (is_some (awaited_at slot.dock piece) ≡ true) × (not (has_pair (piece, file) v.shipped) ≡ true)
    ship-rest =
        both (is_some (awaited_at slot.dock piece)) (not (has_pair (piece, file) v.shipped))
        (both (all_gave (layers_of d) v.given piece) (is_some (awaited_at slot.dock piece) && not (has_pair (piece, file) v.shipped))
        (sym (ship-some d v file files slots ship-staged i place slot at piece) ∙ can)).1

    here : slot.dock.file ≡ file
    here = slot-file d v file files slots ship-staged i place slot at

    was : IsSlot d v.raw v.shipped slot
    was = slot-is d v file files slots ship-staged i place slot at

    -- the piece is one of the dataset
    has-piece : find (λ p. p.id == piece) (pieces_of d.header d.digits d.ranks) ≡ None → ⊥
    has-piece none = piece-there d divided v.raw v.shipped slot was piece ship-rest.0 none

    module _ (given : Piece) (found : find (λ p. p.id == piece) (pieces_of d.header d.digits d.ranks) ≡ Some given) where
      id-is : given.id ≡ piece
      id-is = eqb-true given.id piece (found-passes (λ (p : Piece). p.id == piece) (pieces_of d.header d.digits d.ranks) given found)

      -- its samples can be delivered
      pub ship-take : (layers_of d).valid_raw v.raw ≡ true → CanTake d.header v.raw given slot.dock
      ship-take valid =
          can-take d divided v.raw v.shipped slot was piece ship-rest.0 given found id-is
          (ap (λ n. has_pair (piece, n) v.shipped) here ∙ not-true (has_pair (piece, file) v.shipped) ship-rest.1) (raw-whole d v.raw valid)

      module _ (new : SlotValue) (taken : HasTaken d.header v.raw given.id slot.dock new.dock) where
        now-is : IsSlot d v.raw (v.shipped ++ (piece, file) ∷ []) new
        now-is = taken-is d divided v.raw v.shipped piece file slot new given.id id-is here was taken

        -- all slots are what they have to be
        ship-slots : All (IsSlot d v.raw (v.shipped ++ (piece, file) ∷ [])) (set v.slots i new)
        ship-slots =
            let P : SlotValue → Type 0 = IsSlot d v.raw (v.shipped ++ (piece, file) ∷ []) in
            let apart : IsDistinct nat_eq (map (λ (s : SlotValue). s.dock.file) v.slots) =
            subst (IsDistinct nat_eq) (map-map slot_of (λ (z : Slot). z.file) v.slots) (slots-apart d v divided files ship-staged) in
            subst (All P) (one-change (λ (s : SlotValue). s.dock.file) file (λ s. new) v.slots i slot apart place)
            (All-map P (λ (s : SlotValue). cond (nat_eq s.dock.file file) new s) v.slots
            (All-weaker (IsSlot d v.raw v.shipped) (λ (s : SlotValue). P (cond (nat_eq s.dock.file file) new s))
            (λ s is. by_test s is (nat_eq s.dock.file file) refl) v.slots slots))
          where
            by_test : (s : SlotValue) → IsSlot d v.raw v.shipped s → (b : Bool) → nat_eq s.dock.file file ≡ b → IsSlot d v.raw (v.shipped ++ (piece, file) ∷ []) (cond b new s)
            by_test s is true same = now-is
            by_test s is false other = other-is d divided v.raw v.shipped piece file s other is

        pub ship-slots_by : (bytes : List ℕ) (shipped : List (ℕ × ℕ)) → bytes ≡ v.raw → shipped ≡ v.shipped ++ (piece, file) ∷ [] → All (IsSlot d bytes shipped) (set v.slots i new)
        ship-slots_by bytes shipped bytes_are shipped_are =
            subst (λ (bs : List ℕ). All (IsSlot d bs shipped) (set v.slots i new)) (sym bytes_are)
            (subst (λ (ps : List (ℕ × ℕ)). All (IsSlot d v.raw ps) (set v.slots i new)) (sym shipped_are) ship-slots)

        module _ (valid : (layers_of d).valid_raw v.raw ≡ true) (before : IsDock slot.dock) (after : IsDock new.dock) (sealed : new.sealed ≡ slot.sealed) where
          shipped-one : slot_of new ≡ (let z : Slot = record (slot_of slot) { dock = delivered (layers_of d) v.raw piece file (dock_table slot.dock) } in z)
          shipped-one =
              let whole : length v.raw ≡ volume_bytes d.header = raw-whole d v.raw valid in
              let same : new.dock.file ≡ slot.dock.file = ap (λ k. k.file) taken.dock in
              let table : dock_table new.dock ≡ delivered (layers_of d) v.raw piece file (dock_table slot.dock) =
              slot-table d v.raw (v.shipped ++ (piece, file) ∷ []) new divided whole after now-is
              ∙ ap (dock_of (layers_of d) v.raw (v.shipped ++ (piece, file) ∷ [])) (same ∙ here)
              ∙ sym (delivered-dock (layers_of d) v.raw piece v.shipped file)
              ∙ ap (delivered (layers_of d) v.raw piece file) (ap (dock_of (layers_of d) v.raw v.shipped) (sym here) ∙ sym (slot-table d v.raw v.shipped slot divided whole before was)) in
              λ j. let z : Slot = record { file = same j; dock = table j; sealed = sealed j } in z

          -- the volume with the piece
          pub ship-done : (bytes : List ℕ) (shipped : List (ℕ × ℕ)) → bytes ≡ v.raw → shipped ≡ v.shipped ++ (piece, file) ∷ [] →
              (let u : StepValue = record v { raw = bytes; shipped = shipped; slots = set v.slots i new } in volume_of u) ≡ ship (layers_of d) piece file (volume_of v)
          ship-done bytes shipped bytes_are shipped_are =
              let f : Slot → Slot = λ (z : Slot). record z { dock = delivered (layers_of d) v.raw piece file z.dock } in
              let there : get_or (map slot_of v.slots) i (slot_of slot) ≡ slot_of slot = get_or-map slot_of v.slots i slot ∙ ap slot_of (sym at) in
              let changed : map slot_of (set v.slots i new) ≡ map (ship_slot (layers_of d) v.raw piece file) (map slot_of v.slots) =
              map-set slot_of v.slots i new
              ∙ ap (set (map slot_of v.slots) i) (shipped-one ∙ ap f (sym there))
              ∙ sym (one-change (λ (z : Slot). z.file) file f (map slot_of v.slots) i (slot_of slot) (slots-apart d v divided files ship-staged)
              (position-map slot_of (λ (z : Slot). nat_eq z.file file) v.slots ∙ place)) in
              λ j. let u : Volume = record (volume_of v) { raw = bytes_are j; shipped = shipped_are j; slots = changed j } in u

  pub ship-piece : (i : ℕ) → position (is_for file) v.slots ≡ Some i → find (λ p. p.id == piece) (pieces_of d.header d.digits d.ranks) ≡ None → ⊥
  ship-piece i place none = let item = item-at (is_for file) v.slots i place in has-piece i place item.0 item.1 none
