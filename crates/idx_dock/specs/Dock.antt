-- A dock: the file that it is for, the pieces that have a point in it, and what was delivered of each.
use Rattle.std.specs.Prelude.{◌≡◌, ℕ, ◌<◌, ◌≤◌, ◌==◌, ◌&&◌, nat_le, nat_lt, Bool, not, if◌then◌else◌, List, [], ◌∷◌, length, map, filter, find, Option, Some, None, All}
use Rattle.std.specs.List.{list_any, range_with_len}
use Rattle.std.specs.Option.{ForSome, is_some, option_map, option_map_or}
use Rattle.idx_geom.specs.Region.{points}
use Rattle.idx_hz.specs.Address.{hz_address}
use Rattle.idx_header.specs.Header.{HeaderValue, IsHeader, block_count}
use Rattle.idx_layout.specs.Placing.{has_point_in}
use Rattle.idx_pieces.specs.Pieces.{piece_of, pieces_of}
use Rattle.idx_pieces.specs.Runs.{AreRunsOf}
use Rattle.idx_pieces.specs.declared.piece.Piece.{Piece}
use Rattle.idx_pieces.specs.declared.run.Run.{Run}
use Rattle.idx_pieces.specs.declared.shipment.Shipment.{Shipment}
use Rattle.idx_dock.specs.declared.awaited.Awaited.{Awaited}
use Rattle.idx_dock.specs.declared.unwanted.Unwanted.{Unwanted}
use Rattle.idx_dock.specs.declared.unwanted.Unwanted.TheVariants.{Stranger, Double}

-- some point of a region has its address in a block of the file
abbrev pub reaches : HeaderValue → List (ℕ × ℕ) → ℕ → Bool
reaches h region file = list_any (has_point_in h.mask region h.block_bits) (range_with_len file h.blocks_per_file)

-- those of some pieces that have a point in a file
abbrev pub reaching : HeaderValue → ℕ → List Piece → List Piece
reaching h file pieces = filter (λ piece. reaches h piece.region file) pieces

-- the division of a dataset's box into these pieces
pub record IsDivision (h : HeaderValue) (pieces : List Piece) : Type 0 where
  pub e : ℕ
  pub ranks : ℕ
  pub within : e ≤ length h.mask
  pub some : 1 ≤ ranks
  pub is : pieces ≡ pieces_of h e ranks

-- a piece that is awaited and of which nothing was delivered
abbrev pub awaited_of : Piece → Awaited
awaited_of piece = record { piece = piece.id; region = piece.region; runs = None }

pub record DockValue : Type 0 where
  pub header : HeaderValue
  pub file : ℕ
  pub awaited : List Awaited

abbrev pub dock_of : HeaderValue → ℕ → List Awaited → DockValue
dock_of h file awaited = record { header = h; file = file; awaited = awaited }

-- a dock to which nothing was delivered
abbrev pub new_dock : HeaderValue → List Piece → ℕ → DockValue
new_dock h pieces file = dock_of h file (map awaited_of (reaching h file pieces))

-- the same piece with nothing delivered
abbrev pub undelivered : Awaited → Awaited
undelivered a = record { piece = a.piece; region = a.region; runs = None }

-- what is true of each dock: it awaits the pieces of some division that have a point in the file, and what was delivered of
-- each are its runs
pub record IsDock (d : DockValue) : Type 0 where
  pub header : IsHeader d.header
  pub exists : d.file < block_count d.header
  pub pieces : List Piece
  pub division : IsDivision d.header pieces
  pub awaited : map undelivered d.awaited ≡ map awaited_of (reaching d.header d.file pieces)
  pub runs : All (λ a. ForSome a.runs (AreRunsOf d.header a.region d.file)) d.awaited

-- the awaited piece of an id
abbrev pub awaited_at : DockValue → ℕ → Option Awaited
awaited_at d piece = find (λ a. a.piece == piece) d.awaited

-- why an awaited piece is not taken
abbrev pub unwanted_of : Option Awaited → Option Unwanted
unwanted_of None = Some Stranger
unwanted_of (Some a) = if is_some a.runs then Some Double else None

-- why a shipment is not taken: it is for another file or of no awaited piece, or its piece was delivered before
abbrev pub unwanted : DockValue → Shipment → Option Unwanted
unwanted d s = if s.file == d.file then unwanted_of (awaited_at d s.piece) else Some Stranger

-- where the dock awaits the piece of a shipment for its file, the runs are those of the piece
abbrev pub FitsDock : DockValue → Shipment → Type 0
FitsDock d s = s.file ≡ d.file → All (λ a. a.piece ≡ s.piece → AreRunsOf d.header a.region d.file s.runs) d.awaited

-- a piece with its runs
abbrev pub delivered : List Run → Awaited → Awaited
delivered runs a = record { piece = a.piece; region = a.region; runs = Some runs }

-- the awaited pieces, of which this one has these runs now
abbrev pub with_runs : ℕ → List Run → List Awaited → List Awaited
with_runs piece runs [] = []
with_runs piece runs (a ∷ others) =
    if a.piece == piece then delivered runs a ∷ others
    else a ∷ with_runs piece runs others

-- the piece, of those of e digits, of the point that has an address; 0 where no point has it
abbrev pub piece_at_address : HeaderValue → ℕ → ℕ → ℕ
piece_at_address h e address = option_map_or (piece_of h.mask e) (find (λ p. hz_address h.mask p == address) (points h.box)) 0

-- the dock with a shipment
abbrev pub with_shipment : Shipment → DockValue → DockValue
with_shipment s d = dock_of d.header d.file (with_runs s.piece s.runs d.awaited)

-- the least awaited piece of which nothing was delivered
abbrev pub missing : DockValue → Option ℕ
missing d = option_map (λ a. a.piece) (find (λ a. not (is_some a.runs)) d.awaited)

-- the dock awaits a piece with an id up to this one, and one behind it
abbrev pub is_open_at : ℕ → DockValue → Bool
is_open_at id d = list_any (λ a. nat_le a.piece id) d.awaited && list_any (λ a. nat_lt id a.piece) d.awaited
