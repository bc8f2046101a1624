-- A revision to which nothing was given.
use Rattle.std.proofs.Common.{◌≡◌, ℕ, List, [], ◌∷◌, length, map, All, None, refl, sym, ap, ◌∙◌, subst}
use Rattle.std.specs.Prelude.{Contains}
use Rattle.std.specs.List.{AllByRecursion, range_with_len}
use Rattle.std.specs.Option.{is_some}
use Rattle.std.proofs.lemmas.List.Elements.{All-contains_itself, All-from_recursion, All-map, All-weaker}
use Rattle.idx_layout.specs.OfHeader.{placing_of}
use Rattle.idx_layout.specs.Placing.{file_numbers}
use Rattle.idx_pieces.specs.Pieces.{pieces_of}
use Rattle.idx_pieces.specs.Runs.{file_addresses}
use Rattle.idx_pieces.specs.declared.piece.Piece.{Piece}
use Rattle.idx_pieces.specs.declared.run.Run.{Run}
use Rattle.idx_dock.specs.Content.{runs_in, sample_among}
use Rattle.idx_dock.specs.Dock.{awaited_of, reaching, undelivered}
use Rattle.idx_dock.specs.Next.{IsOneOf}
use Rattle.idx_events.specs.Lists.{has_pair}
use Rattle.idx_events.specs.Setting.{table}
use Rattle.idx_events.specs.Start.{new_slot, new_volume}
use Rattle.idx_events.specs.World.{Slot, Volume}
use Rattle.idx_events.specs.declared.phase.Phase.TheVariants.{Staged}
use Rattle.idx_core_model.specs.Layers.{setting_of}
use Rattle.idx_core_layers.specs.Division.{DivisionValue, layers_of}
use Rattle.idx_core_steps.specs.Steps.{IsSlot, SlotValue, StepValue, dock_table, fresh_slot, slot_of, volume_of}

no-runs : (pieces : List Piece) → runs_in (map awaited_of pieces) ≡ []
no-runs [] = refl
no-runs (piece ∷ pieces) = no-runs pieces

undelivered-awaited : (pieces : List Piece) → map undelivered (map awaited_of pieces) ≡ map awaited_of pieces
undelivered-awaited [] = refl
undelivered-awaited (piece ∷ pieces) = ap (λ l. awaited_of piece ∷ l) (undelivered-awaited pieces)

none-came : (file : ℕ) (pieces : List Piece) → AllByRecursion (λ a. is_some a.runs ≡ has_pair (a.piece, file) []) (map awaited_of pieces)
none-came file [] = tt
none-came file (piece ∷ pieces) = (refl, none-came file pieces)

module _ (d : DivisionValue) where
  -- the table of a new aggregator is zeros
  fresh-table : (file : ℕ) → dock_table (fresh_slot d file).dock ≡ table (layers_of d) file (λ field address. (layers_of d).zero field)
  unfolding setting_of
  fresh-table file =
      ap (λ runs. map (λ field. map (sample_among d.header runs field) (file_addresses d.header file)) (range_with_len 0 (length d.header.fields)))
      (no-runs (reaching d.header file (pieces_of d.header d.digits d.ranks)))

  fresh-slots : (files : List ℕ) → map slot_of (map (fresh_slot d) files) ≡ map (new_slot (layers_of d)) files
  fresh-slots [] = refl
  fresh-slots (file ∷ files) =
      ap (λ x. let z : Slot = record { file = file; dock = x; sealed = None } in z ∷ map slot_of (map (fresh_slot d) files)) (fresh-table file)
      ∙ ap (λ l. new_slot (layers_of d) file ∷ l) (fresh-slots files)

  files-of : (layers_of d).files ≡ file_numbers (placing_of d.header)
  unfolding setting_of
  files-of = refl

  -- so the revision is a new volume
  pub fresh-volume : (time revision : ℕ) (raw bytes : List ℕ) (given shipped : List (ℕ × ℕ)) (slots : List SlotValue) → bytes ≡ raw → given ≡ [] → shipped ≡ [] →
      slots ≡ map (fresh_slot d) (file_numbers (placing_of d.header)) →
      (let v : StepValue = record { time = time; revision = revision; raw = bytes; phase = Staged; given = given; shipped = shipped; slots = slots } in volume_of v) ≡ new_volume (layers_of d) time revision raw
  fresh-volume time revision raw bytes given shipped slots bytes_are none none_shipped are =
      let all : map slot_of slots ≡ map (new_slot (layers_of d)) (layers_of d).files =
      ap (map slot_of) are ∙ fresh-slots (file_numbers (placing_of d.header)) ∙ ap (map (new_slot (layers_of d))) (sym files-of) in
      λ i. (let v : Volume = record { time = time; revision = revision; raw = bytes_are i; phase = Staged; given = none i; shipped = none_shipped i; slots = all i } in v)

  fresh-is : (raw : List ℕ) (file : ℕ) → Contains (file_numbers (placing_of d.header)) file → IsSlot d raw [] (fresh_slot d file)
  fresh-is raw file among =
      let pieces : List Piece = reaching d.header file (pieces_of d.header d.digits d.ranks) in
      record {
        header = refl;
        among = among;
        awaited = undelivered-awaited pieces;
        came = All-from_recursion (λ a. is_some a.runs ≡ has_pair (a.piece, file) []) (map awaited_of pieces) (none-came file pieces);
        samples = λ r one. absurd (subst (λ (runs : List Run). IsOneOf runs r) (no-runs pieces) one);
      }

  -- each of its slots awaits all its pieces
  pub fresh-are : (raw : List ℕ) (shipped : List (ℕ × ℕ)) (slots : List SlotValue) → shipped ≡ [] → slots ≡ map (fresh_slot d) (file_numbers (placing_of d.header)) → All (IsSlot d raw shipped) slots
  fresh-are raw shipped slots none are =
      subst (λ (ps : List (ℕ × ℕ)). All (IsSlot d raw ps) slots) (sym none)
      (subst (All (IsSlot d raw [])) (sym are)
      (All-map (IsSlot d raw []) (fresh_slot d) (file_numbers (placing_of d.header))
      (All-weaker (Contains (file_numbers (placing_of d.header))) (λ file. IsSlot d raw [] (fresh_slot d file)) (fresh-is raw) (file_numbers (placing_of d.header)) (All-contains_itself (file_numbers (placing_of d.header))))))
