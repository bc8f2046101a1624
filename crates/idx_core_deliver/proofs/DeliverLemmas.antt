-- A dock takes the shipment of a piece that it awaits.
use Rattle.std.proofs.Common.{◌≡◌, ℕ, Bool, true, false, List, [], ◌∷◌, length, refl, sym, ap, ◌∙◌, subst, None, eqb-true}
use Rattle.std.specs.Prelude.{◌==◌, ◌||◌, All}
use Rattle.std.specs.List.{list_any}
use Rattle.std.proofs.lemmas.List.Elements.{All-head, All-tail}
use Rattle.idx_geom.specs.Region.{HoldsAll}
use Rattle.idx_header.specs.Header.{HeaderValue, volume_bytes}
use Rattle.idx_pieces.specs.Runs.{HasSamples}
use Rattle.idx_pieces.specs.Samples.{HoldsSamples, raw_sample}
use Rattle.idx_pieces.specs.declared.filled.Filled.{Filled}
use Rattle.idx_pieces.specs.declared.piece.Piece.{Piece}
use Rattle.idx_pieces.specs.declared.shipment.Shipment.{Shipment}
use Rattle.idx_ship.specs.Shipments.{IsShipment}
use Rattle.idx_dock.specs.declared.awaited.Awaited.{Awaited}
use Rattle.idx_dock.specs.Dock.{DockValue, IsDock, dock_of, reaches, unwanted, with_runs, with_shipment}
use Rattle.idx_dock.proofs.ContentLemmas.{one_of}
use Rattle.idx_aggregate.proofs.AwaitedLemmas.{are_known, is_wanted}
use Rattle.idx_core_deliver.specs.Deliver.{HasTaken}
use Rattle.idx_core_deliver.proofs.FitLemmas.{runs_have}

-- an awaited piece is to be delivered: its region is that of the piece, and nothing was delivered of it
abbrev pub IsDue : Piece → Awaited → Type 0
IsDue piece a = a.piece ≡ piece.id → (a.region ≡ piece.region) × (a.runs ≡ None)

-- what holds of the region of each awaited piece holds of that of a piece which is awaited
due_region : (P : List (ℕ × ℕ) → Type 0) (piece : Piece) (awaited : List Awaited) → list_any (λ a. a.piece == piece.id) awaited ≡ true → All (IsDue piece) awaited →
    All (λ a. P a.region) awaited → P piece.region
due_region P piece [] some due all = absurd (let wrong : false ≡ true = some in cc)
due_region P piece (a ∷ others) some due all =
    by_test (a.piece == piece.id) refl some (λ more. due_region P piece others more (All-tail (IsDue piece) a others due) (All-tail (λ a. P a.region) a others all))
  where
    by_test : (b : Bool) → (a.piece == piece.id) ≡ b → (b || list_any (λ a. a.piece == piece.id) others) ≡ true →
        (list_any (λ a. a.piece == piece.id) others ≡ true → P piece.region) → P piece.region
    by_test true here some more = subst P (All-head (IsDue piece) a others due (eqb-true a.piece piece.id here)).0 (All-head (λ a. P a.region) a others all)
    by_test false here some more = more some

module _ (h : HeaderValue) (d : DockValue) (piece : Piece) (header : d.header ≡ h) (some : list_any (λ a. a.piece == piece.id) d.awaited ≡ true)
    (due : All (IsDue piece) d.awaited) where
  -- the piece has a point in the dock's file
  pub does_reach : IsDock d → reaches h piece.region d.file ≡ true
  does_reach is =
      subst (λ h. reaches h piece.region d.file ≡ true) header
      (due_region (λ region. reaches d.header region d.file ≡ true) piece d.awaited some due
      (are_known d.header is.pieces is.division d.file d.awaited is.awaited).reach)

  module _ (filled : Filled) (s : Shipment) (same : filled.piece ≡ piece) (for : s.file ≡ d.file) (of : IsShipment h filled s) where
    id : s.piece ≡ piece.id
    id = of.piece ∙ ap (λ (piece : Piece). piece.id) same

    -- a shipment of it is taken
    pub wanted : unwanted d s ≡ None
    wanted =
        is_wanted d s for (subst (λ n. list_any (λ (a : Awaited). a.piece == n) d.awaited ≡ true) (sym id) some)
        (λ k a within same. (due k a within (same ∙ id)).1)

    -- and then the dock has its samples
    pub taken : (raw : List ℕ) (new : DockValue) → length raw ≡ volume_bytes h → HoldsAll h.box filled.piece.region →
        HoldsSamples h (raw_sample h raw) filled.piece.region filled.bytes → new ≡ with_shipment s d → HasTaken h raw piece.id d new
    taken raw new whole inside held is =
        let runs = runs_have h raw filled s whole inside held of in
        record {
          runs = s.runs;
          dock = is ∙ ap (λ n. dock_of d.header d.file (with_runs n s.runs d.awaited)) id;
          samples = λ r among. one_of (HasSamples h (raw_sample h raw)) s.runs r runs among;
        }
