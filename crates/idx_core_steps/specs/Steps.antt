-- The revisions of timesteps that are written, as the code keeps them, and the volumes of events that they are.
use Rattle.std.specs.Prelude.{◌≡◌, ◌==◌, ℕ, Bool, true, false, All, Contains, List, [], ◌∷◌, ◌++◌, length, map, find, Option, Some, None, Result, Ok, Err}
use Rattle.std.specs.List.{list_any, range_with_len}
use Rattle.std.specs.Option.{is_some, option_map_or}
use Rattle.idx_header.specs.Header.{HeaderValue, volume_bytes}
use Rattle.idx_header.specs.Names.{file_name}
use Rattle.idx_layout.specs.OfHeader.{placing_of}
use Rattle.idx_layout.specs.Placing.{file_numbers}
use Rattle.idx_pieces.specs.Pieces.{IsPiece, pieces_of}
use Rattle.idx_pieces.specs.Runs.{HasSamples, file_addresses}
use Rattle.idx_pieces.specs.Samples.{raw_sample}
use Rattle.idx_pieces.specs.declared.piece.Piece.{Piece}
use Rattle.idx_pieces.specs.declared.run.Run.{Run}
use Rattle.idx_dock.specs.Content.{dock_bytes, dock_sample, runs_in}
use Rattle.idx_dock.specs.Dock.{DockValue, awaited_of, new_dock, reaching, undelivered}
use Rattle.idx_dock.specs.Next.{IsOneOf}
use Rattle.idx_events.specs.Lists.{change_first, has_pair}
use Rattle.idx_events.specs.World.{Slot, Volume, is_abandoned}
use Rattle.idx_events.specs.Volumes.{is_of}
use Rattle.idx_events.specs.declared.phase.Phase.{Phase}
use Rattle.idx_events.specs.declared.phase.Phase.TheVariants.{Abandoned, Published}
use Rattle.idx_core_layers.specs.Division.{DivisionValue, layers_of}
use Rattle.idx_core_layers.specs.declared.step_refusal.StepRefusal.{StepRefusal}
use Rattle.idx_core_layers.specs.declared.step_refusal.StepRefusal.TheVariants.{NotEnabled, NoMemory}

-- the samples of an aggregator, by field and address of its file
abbrev pub dock_table : DockValue → List (List (List ℕ))
dock_table d = map (λ field. map (dock_sample d field) (file_addresses d.header d.file)) (range_with_len 0 (length d.header.fields))

-- one file: its aggregator, and, once it was written, its name and bytes
pub record SlotValue : Type 0 where
  pub dock : DockValue
  pub sealed : Option (List ℕ × List ℕ)

abbrev pub slot_of : SlotValue → Slot
slot_of s = record { file = s.dock.file; dock = dock_table s.dock; sealed = s.sealed }

-- a revision of a timestep
pub record StepValue : Type 0 where
  pub time : ℕ
  pub revision : ℕ
  pub raw : List ℕ
  pub phase : Phase
  pub given : List (ℕ × ℕ)
  pub shipped : List (ℕ × ℕ)
  pub slots : List SlotValue

abbrev pub volume_of : StepValue → Volume
volume_of v = record {
  time = v.time;
  revision = v.revision;
  raw = v.raw;
  phase = v.phase;
  given = v.given;
  shipped = v.shipped;
  slots = map slot_of v.slots;
}

-- What holds of each file's aggregator: it awaits the pieces of the dataset with a point in the file, of these exactly those
-- came that were shipped, and what came are the volume's samples.
pub record IsSlot (d : DivisionValue) (raw : List ℕ) (shipped : List (ℕ × ℕ)) (s : SlotValue) : Type 0 where
  pub header : s.dock.header ≡ d.header
  pub among : Contains (file_numbers (placing_of d.header)) s.dock.file
  pub awaited : map undelivered s.dock.awaited ≡ map awaited_of (reaching d.header s.dock.file (pieces_of d.header d.digits d.ranks))
  pub came : All (λ a. is_some a.runs ≡ has_pair (a.piece, s.dock.file) shipped) s.dock.awaited
  pub samples : (r : Run) → IsOneOf (runs_in s.dock.awaited) r → HasSamples d.header (raw_sample d.header raw) r

abbrev pub AreSlots : DivisionValue → StepValue → Type 0
AreSlots d v = All (IsSlot d v.raw v.shipped) v.slots

-- The samples of a piece of a raw volume can be delivered to an aggregator, which awaits the piece and has nothing of it.
pub record CanTake (h : HeaderValue) (raw : List ℕ) (piece : Piece) (d : DockValue) : Type 0 where
  pub header : d.header ≡ h
  pub is : IsPiece h piece
  pub file : Contains (file_numbers (placing_of h)) d.file
  pub awaited : list_any (λ a. a.piece == piece.id) d.awaited ≡ true
  pub region : All (λ a. a.piece ≡ piece.id → (a.region ≡ piece.region) × (a.runs ≡ None)) d.awaited
  pub whole : length raw ≡ volume_bytes h

-- unless it was given up, a revision has a slot for each file, rising
abbrev pub HasAllFiles : DivisionValue → StepValue → Type 0
HasAllFiles d v = is_abandoned v.phase ≡ false → map (λ slot. slot.file) (volume_of v).slots ≡ (layers_of d).files

-- the slot of a file to which nothing was shipped
abbrev pub fresh_slot : DivisionValue → ℕ → SlotValue
fresh_slot d file = record { dock = new_dock d.header (pieces_of d.header d.digits d.ranks) file; sealed = None }

-- the slot with its file, of a timestep at the header's revision
abbrev pub sealed_slot : HeaderValue → ℕ → SlotValue → SlotValue
sealed_slot h time s = record s { sealed = Some (file_name h time s.dock.file, dock_bytes s.dock) }

-- a revision after a rank gave its part of a piece, after it was published, and after it was given up
abbrev pub given_step : ℕ → ℕ → StepValue → StepValue
given_step rank piece v = record v { given = v.given ++ (rank, piece) ∷ [] }

abbrev pub published_step : StepValue → StepValue
published_step v = record v { phase = Published }

abbrev pub abandoned_step : StepValue → StepValue
abandoned_step v = record v { phase = Abandoned; slots = [] }

-- a revision passes a test, as a volume of events
abbrev pub step_can : (Volume → Bool) → ℕ → ℕ → List StepValue → Bool
step_can test time revision steps = option_map_or test (find (is_of time revision) (map volume_of steps)) false

-- A change of a revision: done exactly where it may happen; not enabled, or without memory, nothing has changed.
abbrev pub IsChange : (Volume → Bool) → (Volume → Volume) → ℕ → ℕ → List StepValue → Result (Unit {0}) StepRefusal → List StepValue → Type 0
IsChange test f time revision old (Ok done) new =
    (step_can test time revision old ≡ true) × (map volume_of new ≡ change_first (is_of time revision) f (map volume_of old))
IsChange test f time revision old (Err NotEnabled) new = (step_can test time revision old ≡ false) × (new ≡ old)
IsChange test f time revision old (Err NoMemory) new = (step_can test time revision old ≡ true) × (new ≡ old)
