-- What docks gain by the loads that are shipped to them.
use Rattle.std.specs.Prelude.{◌≡◌, ◌≢◌, true, ℕ, ◌==◌, ◌||◌, Bool, List, map, None, All, AllPairs, Contains}
use Rattle.std.specs.List.{AllZip, list_any}
use Rattle.std.specs.Option.{is_some}
use Rattle.idx_header.specs.Header.{HeaderValue}
use Rattle.idx_layout.specs.Placing.{file_numbers}
use Rattle.idx_layout.specs.OfHeader.{placing_of}
use Rattle.idx_pieces.specs.Samples.{AreSamples}
use Rattle.idx_pieces.specs.Runs.{HasSamples}
use Rattle.idx_pieces.specs.declared.piece.Piece.{Piece}
use Rattle.idx_dock.specs.Dock.{DockValue, IsDivision, awaited_of, reaching, undelivered}
use Rattle.idx_dock.specs.Content.{runs_in}
use Rattle.idx_ranks.specs.Loads.{HoldsLoad}
use Rattle.idx_ranks.specs.declared.load.Load.{Load}

-- the pieces of loads
abbrev pub pieces_in : List Load → List Piece
pieces_in loads = map (λ load. load.piece) loads

-- some piece has this id
abbrev pub has_id : List Piece → ℕ → Bool
has_id pieces id = list_any (λ piece. id == piece.id) pieces

-- a dock of a dataset's file: it awaits those pieces of a division that have a point in the file, and of some of them
-- nothing was delivered to it
pub record IsReady (h : HeaderValue) (division pieces : List Piece) (d : DockValue) : Type 0 where
  pub header : d.header ≡ h
  pub file : Contains (file_numbers (placing_of h)) d.file
  pub awaited : map undelivered d.awaited ≡ map awaited_of (reaching h d.file division)
  pub none : All (λ a. has_id pieces a.piece ≡ true → a.runs ≡ None) d.awaited

-- docks of different files of a dataset, to which different pieces of one division are still to be delivered
pub record AreReady (h : HeaderValue) (pieces : List Piece) (docks : List DockValue) : Type 0 where
  pub division : List Piece
  pub is : IsDivision h division
  pub among : All (Contains division) pieces
  pub apart : AllPairs (λ one other. one.id ≢ other.id) pieces
  pub each : All (IsReady h division pieces) docks
  pub files : AllPairs (λ one other. one.file ≢ other.file) docks

-- what a dock gains by loads: it is for the same file and awaits the same pieces, of which those of the loads are
-- delivered now beside those that were before; and where the loads and what was delivered before hold the samples of a
-- dataset, so does all that is delivered now
pub record Gains (h : HeaderValue) (loads : List Load) (old new : DockValue) : Type 0 where
  pub header : new.header ≡ old.header
  pub file : new.file ≡ old.file
  pub awaited : map undelivered new.awaited ≡ map undelivered old.awaited
  pub delivered : map (λ a. is_some a.runs) new.awaited ≡
      map (λ a. is_some a.runs || has_id (pieces_in loads) a.piece) old.awaited
  pub samples : (sample : ℕ → List ℕ → List ℕ) → AreSamples h sample → All (HoldsLoad h sample) loads →
      All (HasSamples h sample) (runs_in old.awaited) → All (HasSamples h sample) (runs_in new.awaited)

-- what docks gain by loads: dock by dock
abbrev pub Gain : HeaderValue → List Load → List DockValue → List DockValue → Type 0
Gain h loads old new = AllZip (Gains h loads) old new
