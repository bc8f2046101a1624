-- What the shipments of a load bring to docks.
use Rattle.std.proofs.Common.{◌≡◌, ℕ, ◌+◌, ◌<◌, Bool, true, false, List, [], ◌∷◌, length, map, refl, sym, ap, ◌∙◌, subst, arith, eqb-true, eq-eqb}
use Rattle.std.specs.Prelude.{◌==◌, ◌&&◌, ◌||◌, All, Contains, if◌then◌else◌, slice_index_or}
use Rattle.std.specs.List.{list_any, range_with_len}
use Rattle.std.specs.Option.{is_some}
use Rattle.std.proofs.lemmas.Bool.{ne_eqb}
use Rattle.std.proofs.lemmas.List.Elements.{All-head, All-tail}
use Rattle.idx_header.specs.Header.{HeaderValue, IsHeader}
use Rattle.idx_layout.specs.Placing.{block_count, file_of, is_present}
use Rattle.idx_pieces.specs.Pieces.{piece_region}
use Rattle.idx_pieces.specs.Runs.{AreRunsOf, HasSamples, IsRun}
use Rattle.idx_pieces.specs.declared.piece.Piece.{Piece}
use Rattle.idx_pieces.specs.declared.shipment.Shipment.{Shipment}
use Rattle.idx_ship.specs.Shipments.{IsShipment, files_in, placing_in}
use Rattle.idx_dock.specs.declared.awaited.Awaited.{Awaited}
use Rattle.idx_dock.specs.Dock.{DockValue, IsDivision, reaches, with_shipment}
use Rattle.idx_dock.proofs.ContentLemmas.{RiseFrom, RiseFrom-filter}
use Rattle.idx_ranks.specs.Loads.{HoldsLoad, IsLoad}
use Rattle.idx_ranks.specs.declared.load.Load.{Load}
use Rattle.idx_aggregate.specs.Docks.{AreReady, Gain, Gains, IsReady, has_id, pieces_in}
use Rattle.idx_aggregate.specs.Shipping.{AreMade, AreShipping, CanTake, Takes, with_one, with_shipments}
use Rattle.idx_aggregate.proofs.FileLemmas.{begins_at, reaches_files}
use Rattle.idx_aggregate.proofs.AwaitedLemmas.{AreKnown, are_known, flags_none, flags_put, is_wanted, pieces_stay, region_of, runs_put}
use Rattle.idx_aggregate.proofs.GainLemmas.{ready_stays, shipping_more, zip_map}

pub any_file : (file : ℕ) (made : List Shipment) → list_any (λ s. s.file == file) made ≡ list_any (λ f. f == file) (map (λ s. s.file) made)
any_file file [] = refl
any_file file (s ∷ made) = ap (λ b. (s.file == file) || b) (any_file file made)

none_rise : (file low : ℕ) (made : List Shipment) → file < low → RiseFrom low (map (λ s. s.file) made) → list_any (λ s. s.file == file) made ≡ false
none_rise file low [] less rise = refl
none_rise file low (s ∷ made) less rise =
    ap (λ b. b || list_any (λ s. s.file == file) made) (ne_eqb s.file file (λ same. omega (arith, rise.0)))
    ∙ none_rise file (s.file + 1) made (omega (arith, rise.0)) rise.1

-- no shipment is for the dock's file
takes_none : (made : List Shipment) (d : DockValue) → list_any (λ s. s.file == d.file) made ≡ false → CanTake made d × (with_shipments made d ≡ d)
takes_none [] d none = (tt, refl)
takes_none (s ∷ made) d none = by_test (s.file == d.file) refl none (takes_none made d)
  where
    by_test : (b : Bool) → (s.file == d.file) ≡ b → (b || list_any (λ s. s.file == d.file) made) ≡ false →
        (list_any (λ s. s.file == d.file) made ≡ false → CanTake made d × (with_shipments made d ≡ d)) → CanTake (s ∷ made) d × (with_shipments (s ∷ made) d ≡ d)
    by_test true here none more = let wrong : true ≡ false = none in absurd (cc)
    by_test false here none more =
        let same : with_one s d ≡ d = ap (λ b. if b then with_shipment s d else d) here in
        let rest = more none in
        ((λ for. absurd (let wrong : true ≡ false = sym (eq-eqb s.file d.file for) ∙ here in cc), subst (CanTake made) (sym same) rest.0), ap (with_shipments made) same ∙ rest.1)

-- one of them is
record IsTaken (P : Shipment → Type 0) (made : List Shipment) (d : DockValue) : Type 0 where
  can : CanTake made d
  it : Shipment
  of : P it
  for : it.file ≡ d.file
  same : with_shipments made d ≡ with_shipment it d

takes_one : (P : Shipment → Type 0) (low : ℕ) (made : List Shipment) (d : DockValue) → RiseFrom low (map (λ s. s.file) made) → list_any (λ s. s.file == d.file) made ≡ true → All P made →
    ((s : Shipment) → P s → s.file ≡ d.file → Takes s d) → IsTaken P made d
takes_one P low [] d rise some all takes = let wrong : false ≡ true = some in absurd (cc)
takes_one P low (s ∷ made) d rise some all takes =
    by_test (s.file == d.file) refl some (λ more. takes_one P (s.file + 1) made d rise.1 more (All-tail P s made all) takes)
  where
    by_test : (b : Bool) → (s.file == d.file) ≡ b → (b || list_any (λ s. s.file == d.file) made) ≡ true → (list_any (λ s. s.file == d.file) made ≡ true → IsTaken P made d) → IsTaken P (s ∷ made) d
    by_test true here some more =
        let at : s.file ≡ d.file = eqb-true s.file d.file here in
        let same : with_one s d ≡ with_shipment s d = ap (λ b. if b then with_shipment s d else d) here in
        let rest = takes_none made (with_shipment s d) (none_rise d.file (s.file + 1) made (omega arith) rise.1) in
        record {
          can = (takes s (All-head P s made all), subst (CanTake made) (sym same) rest.0);
          it = s;
          of = All-head P s made all;
          for = at;
          same = ap (with_shipments made) same ∙ rest.1;
        }
    by_test false here some more =
        let same : with_one s d ≡ d = ap (λ b. if b then with_shipment s d else d) here in
        let rest = more some in
        record {
          can = (λ for. absurd (let wrong : true ≡ false = sym (eq-eqb s.file d.file for) ∙ here in cc), subst (CanTake made) (sym same) rest.can);
          it = rest.it;
          of = rest.of;
          for = rest.for;
          same = ap (with_shipments made) same ∙ rest.same;
        }

-- the shipments of a load and one dock
pub dock_gains : (h : HeaderValue) (division : List Piece) (load : Load) (left : List Load) (made : List Shipment) (d : DockValue) → IsHeader h → IsDivision h division → Contains division load.piece →
    IsReady h division (pieces_in (load ∷ left)) d → AreMade h load made → CanTake made d × Gains h (load ∷ []) d (with_shipments made d)
dock_gains h division load left made d valid is among ready are = by_reach (reaches h load.piece.region d.file) refl
  where
    known : AreKnown h is.e d.file division d.awaited
    known = are_known h division is d.file d.awaited ready.awaited

    region : load.piece.region ≡ piece_region h.mask h.box is.e load.piece.id
    region = region_of h division is load.piece among

    named : are.filled.piece.region ≡ load.piece.region
    named = ap (λ (piece : Piece). piece.region) are.piece

    files : list_any (λ s. s.file == d.file) made ≡ reaches h load.piece.region d.file
    files =
        let begins = begins_at h d.file ready.file in
        any_file d.file made ∙ ap (list_any (λ f. f == d.file)) (are.shipments.files ∙ ap (files_in h) named)
        ∙ sym (reaches_files h load.piece.region d.file begins.0 valid begins.1)

    rise : RiseFrom 0 (map (λ s. s.file) made)
    rise =
        subst (RiseFrom 0) (sym are.shipments.files)
        (RiseFrom-filter (λ file. list_any (λ block. is_present (placing_in h are.filled.piece.region) block && (file_of (placing_in h are.filled.piece.region) block == file)) (range_with_len 0 (block_count (placing_in h are.filled.piece.region)))) 0 (block_count (placing_in h are.filled.piece.region)))

    -- the region of an awaited piece of this id
    same_region : (k : ℕ) (a : Awaited) → k < length d.awaited → (slice_index_or d.awaited k a).piece ≡ load.piece.id → (slice_index_or d.awaited k a).region ≡ load.piece.region
    same_region k a within same = known.regions k a within ∙ ap (piece_region h.mask h.box is.e) same ∙ sym region

    takes : reaches h load.piece.region d.file ≡ true → (s : Shipment) → IsShipment h are.filled s → s.file ≡ d.file → Takes s d
    takes some s one for =
        let id : s.piece ≡ load.piece.id = one.piece ∙ ap (λ (piece : Piece). piece.id) are.piece in
        record {
          wanted = is_wanted d s for
              (subst (λ n. list_any (λ (a : Awaited). a.piece == n) d.awaited ≡ true) (sym id) (known.there load.piece among some))
              (λ k a within same. ready.none k a within (ap (λ b. b || has_id (pieces_in left) (slice_index_or d.awaited k a).piece) (eq-eqb (slice_index_or d.awaited k a).piece load.piece.id (same ∙ id))));
          runs = subst (λ (h : HeaderValue). All (IsRun h s.file) s.runs) (sym ready.header) one.runs.each;
          fits = λ _ k a within same.
              subst (λ (h : HeaderValue). AreRunsOf h (slice_index_or d.awaited k a).region d.file s.runs) (sym ready.header)
              (subst (λ region. AreRunsOf h region d.file s.runs) (named ∙ sym (same_region k a within (same ∙ id)))
              (subst (λ file. AreRunsOf h are.filled.piece.region file s.runs) for one.runs));
        }

    by_reach : (b : Bool) → reaches h load.piece.region d.file ≡ b → CanTake made d × Gains h (load ∷ []) d (with_shipments made d)
    by_reach false none =
        let nothing = takes_none made d (files ∙ none) in
        let other : All (λ a. (a.piece == load.piece.id) ≡ false) d.awaited =
        λ k a within. ne_eqb (slice_index_or d.awaited k a).piece load.piece.id (λ same.
        let wrong : true ≡ false = sym (known.reach k a within) ∙ ap (λ region. reaches h region d.file) (same_region k a within same) ∙ none in cc) in
        let gains : Gains h (load ∷ []) d d = record {
          header = refl;
          file = refl;
          awaited = refl;
          delivered = flags_none load.piece.id d.awaited other;
          samples = λ sample are held old. old;
        } in
        (nothing.0, subst (Gains h (load ∷ []) d) (sym nothing.1) gains)
    by_reach true some =
        let taken = takes_one (IsShipment h are.filled) 0 made d rise (files ∙ some) are.shipments.each (takes some) in
        let id : taken.it.piece ≡ load.piece.id = taken.of.piece ∙ ap (λ (piece : Piece). piece.id) are.piece in
        let gains : Gains h (load ∷ []) d (with_shipment taken.it d) = record {
          header = refl;
          file = refl;
          awaited = pieces_stay taken.it.piece taken.it.runs d.awaited;
          delivered = flags_put taken.it.piece 0 taken.it.runs d.awaited known.rise
              ∙ ap (λ n. map (λ a. is_some a.runs || ((a.piece == n) || false)) d.awaited) id;
          samples = λ sample samples held old.
              runs_put (HasSamples h sample) taken.it.piece taken.it.runs d.awaited
              (taken.of.samples sample samples (are.samples sample samples (All-head (HoldsLoad h sample) load [] held))) old;
        } in
        (taken.can, subst (Gains h (load ∷ []) d) (sym taken.same) gains)

-- ---- one load more

module _ (h : HeaderValue) (load : Load) (left : List Load) (made : List Shipment) (docks : List DockValue) (valid : IsHeader h) (are : AreMade h load made) where
  both : (ready : AreReady h (pieces_in (load ∷ left)) docks) (d : DockValue) → IsReady h ready.division (pieces_in (load ∷ left)) d → CanTake made d × Gains h (load ∷ []) d (with_shipments made d)
  both ready d one = dock_gains h ready.division load left made d valid ready.is (All-head (Contains ready.division) load.piece (pieces_in left) ready.among) one are

  -- each dock takes its shipment
  pub can_take : AreReady h (pieces_in (load ∷ left)) docks → All (CanTake made) docks
  can_take ready = λ k d within. (both ready (slice_index_or docks k d) (ready.each k d within)).0

  gain_one : AreReady h (pieces_in (load ∷ left)) docks → Gain h (load ∷ []) docks (map (with_shipments made) docks)
  gain_one ready =
      zip_map (IsReady h ready.division (pieces_in (load ∷ left))) (Gains h (load ∷ [])) (with_shipments made) (λ d one. (both ready d one).1) docks ready.each

  -- so one load more is shipped
  pub shipping_next : (loads : List Load) (old : List DockValue) → AreShipping h loads (load ∷ left) old docks → AreShipping h loads left old (map (with_shipments made) docks)
  shipping_next loads old is =
      shipping_more h loads (load ∷ left) left old docks (map (with_shipments made) docks) is (record {
        done = load ∷ [];
        is = refl;
        valid = All-tail (IsLoad h) load left is.valid;
        ready = ready_stays h (load ∷ []) left docks (map (with_shipments made) docks) is.ready (gain_one is.ready);
        gain = gain_one is.ready;
      })
