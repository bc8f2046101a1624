-- What an aggregator's state says of the pieces of its file, and the file that it writes.
use Rattle.std.proofs.Common.{◌≡◌, ℕ, Bool, true, false, not, cond, ◌&&◌, ◌||◌, nat_eq, List, [], ◌∷◌, ◌++◌, map, find, Option, Some, None, refl, sym, ap, ◌∙◌}
use Rattle.std.specs.Prelude.{◌==◌, replicate}
use Rattle.std.specs.List.{AllByRecursion, flat_map, list_all, list_any}
use Rattle.std.specs.Option.{is_some, option_map}
use Rattle.std.proofs.lemmas.Bool.{false≢true}
use Rattle.std.proofs.lemmas.Cmp.{nat_eq_equiv}
use Rattle.std.proofs.lemmas.List.Elements.{recursion_from_All}
use Rattle.std.proofs.lemmas.List.Folds.{list_all-map}
use Rattle.idx_table.specs.Row.{row_bytes, row_length}
use Rattle.idx_layout.specs.Files.{rows_of_file}
use Rattle.idx_layout.specs.OfHeader.{placing_of}
use Rattle.idx_rowmajor.specs.declared.layout.Layout.TheVariants.{Hz}
use Rattle.idx_pieces.specs.Pieces.{pieces_of}
use Rattle.idx_pieces.specs.declared.piece.Piece.{Piece}
use Rattle.idx_dock.specs.Content.{dock_bytes, dock_sample}
use Rattle.idx_dock.specs.Dock.{DockValue, awaited_at, awaited_of, missing, reaching, undelivered}
use Rattle.idx_dock.specs.declared.awaited.Awaited.{Awaited}
use Rattle.idx_volumes.proofs.FileLemmas.{blocks_agree}
use Rattle.idx_events.specs.Lists.{has, has_pair}
use Rattle.idx_events.specs.Volumes.{all_shipped}
use Rattle.idx_events.proofs.ListLemmas.{map-map}
use Rattle.idx_core_model.specs.Layers.{laid_out, setting_of, table_sample}
use Rattle.idx_core_model.proofs.FileLemmas.{table_has}
use Rattle.idx_core_layers.specs.Division.{DivisionValue, layers_of}
use Rattle.idx_core_steps.specs.Steps.{IsSlot, SlotValue, dock_table}
use Rattle.idx_core_steps.proofs.PlaceLemmas.{any-map}

module _ {X : Type 0} where
  pub any-agree : (p q : X → Bool) → ((x : X) → p x ≡ q x) → (xs : List X) → list_any p xs ≡ list_any q xs
  any-agree p q same [] = refl
  any-agree p q same (x ∷ xs) = ap (λ b. b || list_any p xs) (same x) ∙ ap (λ b. q x || b) (any-agree p q same xs)

  all-agree : (p q : X → Bool) (xs : List X) → AllByRecursion (λ x. p x ≡ q x) xs → list_all p xs ≡ list_all q xs
  all-agree p q [] same = refl
  all-agree p q (x ∷ xs) same = ap (λ b. b && list_all p xs) same.0 ∙ ap (λ b. q x && b) (all-agree p q xs same.1)

  pub any-found : (test : X → Bool) (xs : List X) → list_any test xs ≡ is_some (find test xs)
  any-found test [] = refl
  any-found test (x ∷ xs) = elim (test x) as (λ b. (b || list_any test xs) ≡ is_some (cond b (Some x) (find test xs))) [
    | true ↦ refl
    | false ↦ any-found test xs
  ]

pub unsome : {X : Type 0} (o : Option X) → is_some o ≡ false → o ≡ None
unsome None none = refl
unsome (Some x) none = absurd (false≢true (sym none))

-- ---- the pieces of a file

-- awaited pieces have the ids of the pieces
pub awaited-ids : (awaited : List Awaited) (pieces : List Piece) → map undelivered awaited ≡ map awaited_of pieces → map (λ a. a.piece) awaited ≡ map (λ piece. piece.id) pieces
awaited-ids awaited pieces same =
    sym (map-map undelivered (λ a. a.piece) awaited) ∙ ap (map (λ a. a.piece)) same ∙ map-map awaited_of (λ a. a.piece) pieces

all-missing : (awaited : List Awaited) → list_all (λ a. is_some a.runs) awaited ≡ not (is_some (option_map (λ a. a.piece) (find (λ a. not (is_some a.runs)) awaited)))
all-missing [] = refl
all-missing (a ∷ awaited) =
    elim (is_some a.runs) as (λ b. (b && list_all (λ w. is_some w.runs) awaited) ≡ not (is_some (option_map (λ w. w.piece) (cond (not b) (Some a) (find (λ w. not (is_some w.runs)) awaited))))) [
      | true ↦ all-missing awaited
      | false ↦ refl
    ]

mapped-some : (o : Option Awaited) → is_some (option_map (λ a. is_some a.runs) o) ≡ is_some o
mapped-some None = refl
mapped-some (Some a) = refl

module _ (d : DivisionValue) (raw : List ℕ) (shipped : List (ℕ × ℕ)) (s : SlotValue) (is : IsSlot d raw shipped s) where
  pieces-of : (layers_of d).pieces_in s.dock.file ≡ map (λ a. a.piece) s.dock.awaited
  unfolding setting_of
  pieces-of = sym (awaited-ids s.dock.awaited (reaching d.header s.dock.file (pieces_of d.header d.digits d.ranks)) is.awaited)

  -- all pieces of the file were shipped to it exactly where none is missing
  pub all-came : all_shipped (layers_of d) shipped s.dock.file ≡ not (is_some (missing s.dock))
  all-came =
      ap (list_all (λ piece. has_pair (piece, s.dock.file) shipped)) pieces-of
      ∙ list_all-map (λ piece. has_pair (piece, s.dock.file) shipped) (λ (a : Awaited). a.piece) s.dock.awaited
      ∙ sym (all-agree (λ a. is_some a.runs) (λ a. has_pair (a.piece, s.dock.file) shipped) s.dock.awaited (recursion_from_All (λ a. is_some a.runs ≡ has_pair (a.piece, s.dock.file) shipped) s.dock.awaited is.came))
      ∙ all-missing s.dock.awaited

  -- a piece has a point in the file exactly where the aggregator awaits it
  pub has-piece : (piece : ℕ) → has piece ((layers_of d).pieces_in s.dock.file) ≡ is_some (awaited_at s.dock piece)
  has-piece piece =
      ap (has piece) pieces-of ∙ any-map (λ (a : Awaited). a.piece) (nat_eq piece) s.dock.awaited
      ∙ any-agree (λ a. nat_eq piece a.piece) (λ a. a.piece == piece) (λ a. nat_eq_equiv.symm piece a.piece) s.dock.awaited
      ∙ any-found (λ a. a.piece == piece) s.dock.awaited

-- ---- the file

-- what an aggregator writes is laid out of its table
pub dock-laid : (d : DockValue) → dock_bytes d ≡ laid_out d.header d.file (dock_table d)
dock-laid d =
    ap (λ rest. (replicate row_length 0 ++ flat_map row_bytes (rows_of_file Hz (placing_of d.header) d.file)) ++ rest)
    (blocks_agree Hz d.header d.file (dock_sample d) (table_sample d.header d.file (dock_table d))
    (λ field a within from to. sym (table_has d.header d.file (dock_sample d) field a within from to)))

pub slot-laid : (d : DivisionValue) (raw : List ℕ) (shipped : List (ℕ × ℕ)) (s : SlotValue) → IsSlot d raw shipped s → dock_bytes s.dock ≡ (layers_of d).lay s.dock.file (dock_table s.dock)
unfolding setting_of
slot-laid d raw shipped s is = dock-laid s.dock ∙ ap (λ h. laid_out h s.dock.file (dock_table s.dock)) is.header
