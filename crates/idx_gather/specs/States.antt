-- What is true of the states through which a step is gathered.
use Rattle.std.specs.Prelude.{◌≡◌, ℕ, ◌<◌, ◌≤◌, Bool, not, None, Option, IfSome, List, ◌++◌, length, map, filter, take, drop, All}
use Rattle.std.specs.List.{AllZip, list_any}
use Rattle.std.specs.Option.{is_some}
use Rattle.idx_outside.specs.Files.{known_files}
use Rattle.idx_outside.specs.declared.mem_file.MemFile.{MemFile}
use Rattle.idx_geom.specs.Region.{LiesIn, points}
use Rattle.idx_geom.specs.Volume.{IsVolume}
use Rattle.idx_fields.specs.Field.{sample_bytes}
use Rattle.idx_header.specs.Header.{HeaderValue, sample_bytes_of, volume_bytes}
use Rattle.idx_header.specs.Names.{file_name}
use Rattle.idx_layout.specs.Placing.{file_numbers}
use Rattle.idx_layout.specs.OfHeader.{placing_of}
use Rattle.idx_layout.specs.Step.{step_file, step_files, volume_of_raw}
use Rattle.idx_rowmajor.specs.declared.layout.Layout.{Layout}
use Rattle.idx_pieces.specs.Digits.{piece_digits}
use Rattle.idx_pieces.specs.Pieces.{pieces_of}
use Rattle.idx_pieces.specs.Refusals.{why_not}
use Rattle.idx_pieces.specs.Runs.{HasSamples}
use Rattle.idx_pieces.specs.Samples.{region_bytes}
use Rattle.idx_pieces.specs.declared.piece.Piece.{Piece}
use Rattle.idx_dock.specs.Content.{runs_in}
use Rattle.idx_dock.specs.Dock.{DockValue, awaited_of, missing, reaches, reaching, undelivered}
use Rattle.idx_ranks.specs.declared.load.Load.{Load}
use Rattle.idx_aggregate.specs.Docks.{has_id, pieces_in}
use Rattle.idx_gather.specs.Windows.{first_run, window_of}

-- A step of a dataset that is gathered: its pieces, its files, and the paths of those that are sealed, which are the first ones.
pub record IsOpening (h : HeaderValue) (step ranks room : ℕ) (pieces : List Piece) (files : List ℕ) (paths : List (List ℕ)) : Type 0 where
  pub some_rank : 1 ≤ ranks
  pub few_ranks : ranks ≤ 256
  pub some_room : 1 ≤ room
  pub pieces_are : pieces ≡ pieces_of h (piece_digits h room) ranks
  pub files_are : files ≡ file_numbers (placing_of h)
  pub few : length paths ≤ length files
  pub paths_are : paths ≡ map (file_name h step) (take (length paths) files)

-- the piece has a point in one of these files
abbrev pub is_wanted : HeaderValue → List ℕ → Piece → Bool
is_wanted h files piece = list_any (reaches h piece.region) files

-- those of some pieces that have a point in one of these files, in their order
abbrev pub wanted : HeaderValue → List ℕ → List Piece → List Piece
wanted h files pieces = filter (is_wanted h files) pieces

-- the dock is of this dataset, and awaits the pieces of this division that have a point in its file
pub record IsDockOf (h : HeaderValue) (pieces : List Piece) (d : DockValue) : Type 0 where
  pub header : d.header ≡ h
  pub awaited : map undelivered d.awaited ≡ map awaited_of (reaching h d.file pieces)

-- of the pieces that the dock awaits, exactly those that are not left were delivered
abbrev pub HasAllBut : List Piece → DockValue → Type 0
HasAllBut left d = All (λ a. is_some a.runs ≡ not (has_id left a.piece)) d.awaited

-- The docks of the next window of the files that are not sealed. Of the pieces of the division that have a point in the window, so
-- many first ones were delivered, and these are left.
pub record AreDocks (h : HeaderValue) (room : ℕ) (pieces : List Piece) (files : List ℕ) (done : ℕ) (left : List Piece) (docks : List DockValue) : Type 0 where
  pub some : 0 < length files
  pub window : map (λ d. d.file) docks ≡ window_of h room files
  pub docks_are : All (IsDockOf h pieces) docks
  pub left_are : left ≡ drop done (wanted h (window_of h room files) pieces)
  pub delivered : All (HasAllBut left) docks

-- the parcels of a load make its piece, and each has as many bytes as the samples of its region
pub record IsLegal (h : HeaderValue) (load : Load) : Type 0 where
  pub legal : why_not h load.piece load.parcels ≡ None
  pub whole : All (λ parcel. length parcel.bytes ≡ region_bytes h parcel.region) load.parcels

-- the next batch of the pieces that are left: as many as fit into the room together, or one
abbrev pub batch_of : HeaderValue → ℕ → List Piece → List Piece
batch_of h room left = first_run (λ piece. region_bytes h piece.region) room left

-- What was read of the next batch of pieces; the others are left behind it.
pub record AreLoads (h : HeaderValue) (room : ℕ) (loads : List Load) (left : List Piece) : Type 0 where
  pub batch : pieces_in loads ≡ batch_of h room (pieces_in loads ++ left)
  pub legal : All (IsLegal h) loads

-- at each point of the box, the sample of a field has as many bytes as the field says
abbrev pub AreBoxSamples : HeaderValue → (ℕ → List ℕ → List ℕ) → Type 0
AreBoxSamples h sample =
    (field : ℕ) (p : List ℕ) → field < length h.fields → LiesIn h.box p → length (sample field p) ≡ sample_bytes_of h field

-- what was delivered to the docks has these samples
abbrev pub HaveSamples : HeaderValue → (ℕ → List ℕ → List ℕ) → List DockValue → Type 0
HaveSamples h sample docks = All (λ d. All (HasSamples h sample) (runs_in d.awaited)) docks

-- nothing is missing in any dock
abbrev pub AreFull : List DockValue → Type 0
AreFull docks = All (λ d. missing d ≡ None) docks

-- Sealed files, by their paths and what is known of their bytes, are those of the step of the volume with this raw input, in a
-- layout; `known` is what is known of the committed files.
pub record IsStepOf (layout : Layout) (h : HeaderValue) (step : ℕ) (known : Option (List MemFile)) (sealed : List (List ℕ × Option (List ℕ))) (raw : List ℕ) : Type 0 where
  pub whole : length raw ≡ volume_bytes h
  pub same : sealed ≡ known_files known (step_files layout h (volume_of_raw h raw) step)

-- Sealed files are the first files of the step of some volume, which is that of the raw input where this is told.
pub record AreFirstFiles (layout : Layout) (h : HeaderValue) (step : ℕ) (known : Option (List MemFile)) (told : Option (List ℕ)) (files : List ℕ)
    (sealed : List (List ℕ × Option (List ℕ))) : Type 0 where
  pub volume : List (List (List ℕ))
  pub is : IsVolume (map sample_bytes h.fields) (length (points h.box)) volume
  pub told_is : IfSome told (λ raw. volume ≡ volume_of_raw h raw)
  pub same : sealed ≡ known_files known (map (step_file layout h volume step) (take (length sealed) files))

-- a leaf has the path of this file, and its bytes where it tells its own
abbrev pub TellsFile : List ℕ × Option (List ℕ) → List ℕ × List ℕ → Type 0
TellsFile leaf file = (leaf.0 ≡ file.0) × IfSome leaf.1 (λ bytes. bytes ≡ file.1)

-- Sealed files, by their paths and what they tell of their bytes, are the first files of the step of some volume, each once.
pub record AreFilesSoFar (layout : Layout) (h : HeaderValue) (step : ℕ) (files : List ℕ) (sealed : List (List ℕ × Option (List ℕ))) : Type 0 where
  pub volume : List (List (List ℕ))
  pub is : IsVolume (map sample_bytes h.fields) (length (points h.box)) volume
  pub tell : AllZip TellsFile sealed (map (step_file layout h volume step) (take (length sealed) files))

-- Sealed files are all files of the step of some volume, each once.
pub record AreAllFiles (layout : Layout) (h : HeaderValue) (step : ℕ) (sealed : List (List ℕ × Option (List ℕ))) : Type 0 where
  pub volume : List (List (List ℕ))
  pub is : IsVolume (map sample_bytes h.fields) (length (points h.box)) volume
  pub tell : AllZip TellsFile sealed (step_files layout h volume step)

-- sealed files tell their bytes exactly where the committed files are known
abbrev pub TellAs : Option (List MemFile) → List (List ℕ × Option (List ℕ)) → Type 0
TellAs known sealed = All (λ leaf. is_some leaf.1 ≡ is_some known) sealed
