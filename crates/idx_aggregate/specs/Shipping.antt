-- The shipments of a load on their way into docks.
use Rattle.std.specs.Prelude.{◌≡◌, ◌≢◌, ℕ, ◌==◌, if◌then◌else◌, List, [], ◌∷◌, ◌++◌, map, None, All, AllPairs}
use Rattle.idx_header.specs.Header.{HeaderValue}
use Rattle.idx_pieces.specs.Samples.{AreSamples, HoldsSamples}
use Rattle.idx_pieces.specs.Runs.{IsRun}
use Rattle.idx_pieces.specs.declared.filled.Filled.{Filled}
use Rattle.idx_pieces.specs.declared.shipment.Shipment.{Shipment}
use Rattle.idx_ship.specs.Shipments.{AreShipments}
use Rattle.idx_dock.specs.Dock.{DockValue, FitsDock, unwanted, with_shipment}
use Rattle.idx_ranks.specs.Loads.{HoldsLoad, IsLoad}
use Rattle.idx_ranks.specs.declared.load.Load.{Load}
use Rattle.idx_aggregate.specs.Docks.{AreReady, Gain, pieces_in}

-- a dock with a shipment, if it is for the dock's file
abbrev pub with_one : Shipment → DockValue → DockValue
with_one s d = if s.file == d.file then with_shipment s d else d

-- a dock with those of some shipments that are for its file, one after another
abbrev pub with_shipments : List Shipment → DockValue → DockValue
with_shipments [] d = d
with_shipments (s ∷ others) d = with_shipments others (with_one s d)

-- a dock takes a shipment
pub record Takes (s : Shipment) (d : DockValue) : Type 0 where
  pub wanted : unwanted d s ≡ None
  pub runs : All (IsRun d.header s.file) s.runs
  pub fits : FitsDock d s

-- a dock takes those of some shipments that are for its file, one after another
abbrev pub CanTake : List Shipment → DockValue → Type 0
CanTake [] d = Unit {0}
CanTake (s ∷ others) d = (s.file ≡ d.file → Takes s d) × CanTake others (with_one s d)

-- these are the shipments of a load
pub record AreMade (h : HeaderValue) (load : Load) (made : List Shipment) : Type 0 where
  pub filled : Filled
  pub piece : filled.piece ≡ load.piece
  pub shipments : AreShipments h filled made
  pub samples : (sample : ℕ → List ℕ → List ℕ) → AreSamples h sample → HoldsLoad h sample load →
      HoldsSamples h sample filled.piece.region filled.bytes

-- these are the shipments of some loads, load after load
abbrev pub AreAllMade : HeaderValue → List Load → List Shipment → Type 0
AreAllMade h [] made = made ≡ []
AreAllMade h (load ∷ loads) made =
    (first : List Shipment) × ((others : List Shipment) × ((made ≡ first ++ others) × (AreMade h load first × AreAllMade h loads others)))

-- some loads are still to be shipped, and docks have gained the others
pub record AreShipping (h : HeaderValue) (loads left : List Load) (old docks : List DockValue) : Type 0 where
  pub done : List Load
  pub is : done ++ left ≡ loads
  pub valid : All (IsLoad h) left
  pub ready : AreReady h (pieces_in left) docks
  pub gain : Gain h done old docks

-- docks are still to take these of some shipments
pub record AreTaking (shipments rest : List Shipment) (old docks : List DockValue) : Type 0 where
  pub take : All (CanTake rest) docks
  pub apart : AllPairs (λ one other. one.file ≢ other.file) docks
  pub same : map (with_shipments rest) docks ≡ map (with_shipments shipments) old
