-- How a window of files is gathered: the docks of which nothing is missing are sealed behind each batch of pieces, in whatever order
-- this comes to.
use Rattle.std.specs.Prelude.{◌≡◌, ◌≢◌, ◌⊎◌, ℕ, ◌+◌, ◌^◌, ◌≤◌, Bool, not, Option, IfSome, List, ◌++◌, length, map, filter, sum_by, take, All, AllPairs, Contains, if◌then◌else◌}
use Rattle.std.specs.Option.{is_some}
use Rattle.std.specs.List.Sorted.{IsPermutation}
use Rattle.idx_outside.specs.Files.{entry_shown, known_files, known_with}
use Rattle.idx_outside.specs.declared.mem_file.MemFile.{MemFile}
use Rattle.idx_geom.specs.Region.{points}
use Rattle.idx_geom.specs.Volume.{IsVolume}
use Rattle.idx_fields.specs.Field.{sample_bytes}
use Rattle.idx_header.specs.Header.{HeaderValue}
use Rattle.idx_layout.specs.Files.{length_of_file}
use Rattle.idx_layout.specs.OfHeader.{placing_of}
use Rattle.idx_layout.specs.Step.{step_file, volume_of_raw}
use Rattle.idx_rowmajor.specs.declared.layout.Layout.{Layout}
use Rattle.idx_pieces.specs.declared.piece.Piece.{Piece}
use Rattle.idx_dock.specs.Dock.{DockValue, is_open_at, missing, new_dock}
use Rattle.idx_seal.specs.Files.{dock_file}
use Rattle.idx_gather.specs.States.{HasAllBut, IsDockOf, wanted}
use Rattle.idx_gather.specs.Windows.{window_of}

-- The docks of the files of a window that are not sealed yet, and the pieces that were not delivered to them. Each of the first of
-- `files`, as many as there are, has a dock or is one of those that are sealed.
pub record AreOpen (h : HeaderValue) (pieces : List Piece) (files numbers : List ℕ) (left : List Piece) (docks : List DockValue) : Type 0 where
  pub docks_are : All (IsDockOf h pieces) docks
  pub among : All (Contains pieces) left
  pub apart : AllPairs (λ one other. one.id ≢ other.id) left
  pub delivered : All (HasAllBut left) docks
  pub whole : IsPermutation (take (length docks + length numbers) files) (map (λ d. d.file) docks ++ numbers)

-- how many bytes the files of those docks have together that are begun and not complete where the pieces with an id up to this one
-- were delivered
abbrev pub open_bytes : HeaderValue → List DockValue → ℕ → ℕ
open_bytes h docks id = sum_by (λ d. if is_open_at id d then length_of_file (placing_of h) d.file else 0) docks

-- behind none of the pieces they have more than so many
abbrev pub OpenAtMost : HeaderValue → ℕ → List Piece → List DockValue → Type 0
OpenAtMost h most pieces docks = All (λ piece. open_bytes h docks piece.id ≤ most) pieces

-- The next window of some files, of so many of them: docks to which nothing was delivered, and the pieces with a point in it. No more
-- than 2^30 bytes of its files are begun and not complete at a time, or it is of as many files as fit into the room together, or one.
pub record IsNextWindow (h : HeaderValue) (room : ℕ) (pieces : List Piece) (files : List ℕ) (count : ℕ) (docks : List DockValue)
    (left : List Piece) : Type 0 where
  pub docks_are : docks ≡ map (new_dock h pieces) (take count files)
  pub left_are : left ≡ wanted h (take count files) pieces
  pub few : OpenAtMost h (2 ^ 30) left docks ⊎ (take count files ≡ window_of h room files)

-- nothing is missing in the dock
abbrev pub is_full : DockValue → Bool
is_full d = not (is_some (missing d))

-- those of some docks in which nothing is missing, and the others
abbrev pub full_docks : List DockValue → List DockValue
full_docks docks = filter is_full docks

abbrev pub other_docks : List DockValue → List DockValue
other_docks docks = filter (λ d. not (is_full d)) docks

-- sealed files by their numbers, each with its path and what is known of its bytes
abbrev pub numbered : {L : Type 0} → (L → Option (List ℕ)) → List (ℕ × (List ℕ × L)) → List (ℕ × (List ℕ × Option (List ℕ)))
numbered contents sealed = map (λ entry. (entry.0, entry_shown contents entry.1)) sealed

-- the sealed file of a dock in a layout; `known` is what is known of the committed files
abbrev pub dock_entry : Layout → HeaderValue → ℕ → Option (List MemFile) → DockValue → ℕ × (List ℕ × Option (List ℕ))
dock_entry layout h step known d = (d.file, entry_shown (known_with known) (dock_file layout h step d))

-- a sealed file is that of a volume
abbrev pub IsFileOf : Layout → HeaderValue → List (List (List ℕ)) → ℕ → Option (List MemFile) → ℕ × (List ℕ × Option (List ℕ)) → Type 0
IsFileOf layout h volume step known entry = entry.1 ≡ entry_shown (known_with known) (step_file layout h volume step entry.0)

-- Sealed files are the first files of the step of some volume, and others of its files by their numbers. The volume is that of the
-- raw input where this is told.
pub record AreSealed (layout : Layout) (h : HeaderValue) (step : ℕ) (known : Option (List MemFile)) (told : Option (List ℕ)) (files : List ℕ)
    (first : List (List ℕ × Option (List ℕ))) (others : List (ℕ × (List ℕ × Option (List ℕ)))) : Type 0 where
  pub volume : List (List (List ℕ))
  pub is : IsVolume (map sample_bytes h.fields) (length (points h.box)) volume
  pub told_is : IfSome told (λ raw. volume ≡ volume_of_raw h raw)
  pub first_are : first ≡ known_files known (map (step_file layout h volume step) (take (length first) files))
  pub others_are : All (IsFileOf layout h volume step known) others
