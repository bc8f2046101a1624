-- The pieces that a dock awaits.
use Rattle.std.proofs.Common.{◌≡◌, ℕ, zero, suc, ◌+◌, ◌-◌, ◌<◌, ◌≤◌, ◌^◌, Bool, true, false, cond, List, [], ◌∷◌, length, get_or, map, refl, sym, ap, ◌∙◌, subst, arith, Option, Some, None, min}
use Rattle.std.specs.Prelude.{filter, find, ◌||◌, position, nat_lt}
use Rattle.std.proofs.Common.{eqb-true, ltb-false, set}
use Rattle.std.specs.List.{position_or_len}
use Rattle.std.proofs.lemmas.List.Folds.{find_at}
use Rattle.std.proofs.lemmas.Option.{slice_get_past}
use Rattle.std.specs.List.{list_any, range_with_len}
use Rattle.std.specs.Option.{is_some, MatchOption}
use Rattle.std.specs.Prelude.{All, Contains, OnOk, OnErr, ◌==◌, Result, Ok, Err}
use Rattle.std.specs.Option.{ForSome}
use Rattle.std.proofs.lemmas.List.{length-map, get_or-map}
use Rattle.std.proofs.lemmas.List.Quantifiers.{position-Some}
use Rattle.std.specs.Prelude.{if◌then◌else◌, MatchResult}
use Rattle.std.proofs.Common.{eq-eqb}
use Rattle.idx_dock.specs.declared.unwanted.Unwanted.TheVariants.{Stranger, Double}
use Rattle.std.proofs.lemmas.List.Elements.{All-map, All-cons, All-nil, All-head, All-tail, All-filter, All-contains, All-same}
use Rattle.idx_geom.specs.Region.{common_bounds, upper_ends}
use Rattle.idx_geom.proofs.LiesInLemmas.{length-common_bounds, get_or-common_bounds}
use Rattle.idx_hz.specs.Mask.{HasAddress, bit_count}
use Rattle.idx_layout.specs.Placing.{file_numbers}
use Rattle.idx_layout.specs.OfHeader.{placing_of}
use Rattle.idx_pieces.specs.Pieces.{front_bounds, has_piece, piece_at, pieces_of}
use Rattle.idx_pieces.specs.Runs.{AreRunsOf}
use Rattle.idx_pieces.specs.declared.piece.Piece.{Piece}
use Rattle.idx_pieces.specs.declared.run.Run.{Run}
use Rattle.idx_pieces.specs.declared.shipment.Shipment.{Shipment}
use Rattle.idx_dock.specs.declared.awaited.Awaited.{Awaited}
use Rattle.idx_dock.specs.declared.unwanted.Unwanted.{Unwanted}
use Rattle.idx_dock.specs.Dock.{DockValue, FitsDock, IsDivision, IsDock, awaited_of, delivered, dock_of, reaching, undelivered, unwanted, unwanted_of, with_runs}
use Rattle.idx_header.specs.Header.{HeaderValue, IsHeader, block_count}
use Rattle.idx_header.proofs.BoundLemmas.{few_blocks}

-- some item passes a test where the first of those that pass is there
pub is_some-first : (p : ℕ → Bool) (xs all rest : List ℕ) (r : Option ℕ) → all ≡ filter p xs →
    MatchOption r ((all ≡ []) × (rest ≡ [])) (λ x. all ≡ x ∷ rest) → is_some r ≡ list_any p xs
is_some-first p [] all rest None same is = refl
is_some-first p [] all rest (Some x) same is = let wrong : x ∷ rest ≡ [] = sym is ∙ same in cc
is_some-first p (y ∷ ys) all rest r same is = by_test (is_some-first p ys all rest r) (p y) refl
  where
    first : (r : Option ℕ) (passed : List ℕ) → all ≡ y ∷ passed → MatchOption r ((all ≡ []) × (rest ≡ [])) (λ x. all ≡ x ∷ rest) → is_some r ≡ true
    first None passed begins is = let wrong : y ∷ passed ≡ [] = sym begins ∙ is.0 in cc
    first (Some x) passed begins is = refl

    by_test : (all ≡ filter p ys → MatchOption r ((all ≡ []) × (rest ≡ [])) (λ x. all ≡ x ∷ rest) → is_some r ≡ list_any p ys) →
        (b : Bool) → p y ≡ b → is_some r ≡ (p y || list_any p ys)
    by_test more true here = first r (filter p ys) (same ∙ ap (λ b. cond b (y ∷ filter p ys) (filter p ys)) here) is ∙ sym (ap (λ b. b || list_any p ys) here)
    by_test more false here =
        more (same ∙ ap (λ b. cond b (y ∷ filter p ys) (filter p ys)) here) is ∙ sym (ap (λ b. b || list_any p ys) here)

-- the end of a file is a number
pub file_end : (h : HeaderValue) (file : ℕ) → IsHeader h → file < block_count h → file + h.blocks_per_file < 2 ^ 64
file_end h file is exists =
    let few = few_blocks (length h.mask) h.block_bits is.bits_most in
    let blocks : h.blocks_per_file ≤ 65536 = is.blocks_few in
    omega arith

-- the numbers of a range that pass a test lie in it
All-range : (P : ℕ → Type 0) (a n : ℕ) → ((k : ℕ) → a ≤ k → k < a + n → P k) → All P (range_with_len a n)
All-range P a zero each = All-nil P
All-range P a (suc n) each = All-cons P a (range_with_len (a + 1) n) (each a (omega arith) (omega arith)) (All-range P (a + 1) n (λ k from to. each k (omega arith) (omega arith)))

-- a file has a block
pub file_exists : (h : HeaderValue) (file : ℕ) → Contains (file_numbers (placing_of h)) file → file < block_count h
file_exists h file among =
    All-contains (λ file. file < block_count h) (file_numbers (placing_of h)) file
    (All-filter _ (λ file. file < block_count h) (range_with_len 0 (block_count h)) (All-range (λ file. file < block_count h) 0 (block_count h) (λ k from to. omega arith)))
    among

-- the upper end of a part has an address where that of the whole has one
pub HasAddress-common : (mask : List ℕ) (bs cs : List (ℕ × ℕ)) → length bs ≡ length cs → HasAddress mask (upper_ends bs) → HasAddress mask (upper_ends (common_bounds bs cs))
HasAddress-common mask bs cs axes end =
    let ends : length (upper_ends bs) ≡ length bs = length-map bs (λ b. b.1) in
    let size : length (upper_ends (common_bounds bs cs)) ≡ length bs = length-map (common_bounds bs cs) (λ b. b.1) ∙ length-common_bounds bs cs axes in
    record {
      named = λ k d some. subst (λ n. get_or mask k d < n) (ends ∙ sym size) (end.named k d some);
      below = λ k some.
          let within : k < length bs = omega arith in
          let whole : k < length (common_bounds bs cs) = omega (arith, length-common_bounds bs cs axes) in
          let limit : get_or (upper_ends bs) k 0 < 2 ^ bit_count k mask = end.below k (omega arith) in
          let upper : get_or (upper_ends bs) k 0 ≡ (get_or bs k (0, 0)).1 = get_or-map (λ b. b.1) bs k (0, 0) 0 within in
          let part : get_or (upper_ends (common_bounds bs cs)) k 0 ≡ min (get_or bs k (0, 0)).1 (get_or cs k (0, 0)).1 =
          get_or-map (λ b. b.1) (common_bounds bs cs) k (0, 0) 0 whole ∙ ap (λ b. b.1) (get_or-common_bounds bs cs axes k (0, 0) within) in
          omega arith;
    }

length-range : (a n : ℕ) → length (range_with_len a n) ≡ n
length-range a zero = refl
length-range a (suc n) = ap suc (length-range (a + 1) n)

-- the upper end of each piece has an address
pub pieces_have_addresses : (h : HeaderValue) (pieces : List Piece) → IsHeader h → IsDivision h pieces → All (λ piece. HasAddress h.mask (upper_ends piece.region)) pieces
pieces_have_addresses h pieces is division =
    let P : Piece → Type 0 = λ piece. HasAddress h.mask (upper_ends piece.region) in
    let ids : List ℕ = filter (has_piece h.mask h.box division.e) (range_with_len 0 (2 ^ (length h.mask - division.e))) in
    All-same P pieces (pieces_of h division.e division.ranks) division.is
    (All-map P (piece_at h division.e division.ranks) ids
    (λ k d within. HasAddress-common h.mask h.box (map (front_bounds h.mask division.e (get_or ids k d)) (range_with_len 0 (length h.box)))
    (sym (length-map (range_with_len 0 (length h.box)) (front_bounds h.mask division.e (get_or ids k d)) ∙ length-range 0 (length h.box))) is.covered))

undelivered-all : (pieces : List Piece) → map undelivered (map awaited_of pieces) ≡ map awaited_of pieces
undelivered-all [] = refl
undelivered-all (p ∷ ps) = ap (λ rest. awaited_of p ∷ rest) (undelivered-all ps)

-- of pieces of which nothing was delivered a dock can be made
pub dock_made : (h : HeaderValue) (copy : HeaderValue) (pieces : List Piece) (file : ℕ) (awaited : List Awaited) → IsHeader h → copy ≡ h → file < block_count h → IsDivision h pieces →
    awaited ≡ map awaited_of (reaching h file pieces) → IsDock (dock_of copy file awaited)
dock_made h copy pieces file awaited is same exists division made =
    let P : DockValue → Type 0 = IsDock in
    subst (λ h. P (dock_of h file awaited)) (sym same) (subst (λ a. P (dock_of h file a)) (sym made) (record {
      header = is;
      exists = exists;
      pieces = pieces;
      division = division;
      awaited = undelivered-all (reaching h file pieces);
      runs = All-map (λ a. ForSome a.runs (AreRunsOf h a.region file)) awaited_of (reaching h file pieces)
          (λ k d within runs some. let wrong : None ≡ Some runs = some in cc);
    }))

undelivered-same : (piece : ℕ) (runs : List Run) (awaited : List Awaited) → map undelivered (with_runs piece runs awaited) ≡ map undelivered awaited
undelivered-same piece runs [] = refl
undelivered-same piece runs (a ∷ others) = by_test (a.piece == piece) (undelivered-same piece runs others)
  where
    by_test : (b : Bool) → map undelivered (with_runs piece runs others) ≡ map undelivered others →
        map undelivered (cond b (delivered runs a ∷ others) (a ∷ with_runs piece runs others)) ≡ undelivered a ∷ map undelivered others
    by_test true rest = refl
    by_test false rest = ap (λ xs. undelivered a ∷ xs) rest

runs-kept : (h : HeaderValue) (file piece : ℕ) (runs : List Run) (awaited : List Awaited) → All (λ a. a.piece ≡ piece → AreRunsOf h a.region file runs) awaited →
    All (λ a. ForSome a.runs (AreRunsOf h a.region file)) awaited → All (λ a. ForSome a.runs (AreRunsOf h a.region file)) (with_runs piece runs awaited)
runs-kept h file piece runs [] fits all = all
runs-kept h file piece runs (a ∷ others) fits all =
    by_test (a.piece == piece) refl (runs-kept h file piece runs others (All-tail Q a others fits) (All-tail P a others all))
  where
    P : Awaited → Type 0
    P a = ForSome a.runs (AreRunsOf h a.region file)

    Q : Awaited → Type 0
    Q a = a.piece ≡ piece → AreRunsOf h a.region file runs

    by_test : (b : Bool) → (a.piece == piece) ≡ b → All P (with_runs piece runs others) → All P (cond b (delivered runs a ∷ others) (a ∷ with_runs piece runs others))
    by_test true here rest = All-cons P (delivered runs a) others
        (λ given some. let same : runs ≡ given = cc in subst (AreRunsOf h a.region file) same (All-head Q a others fits (eqb-true a.piece piece here))) (All-tail P a others all)
    by_test false here rest = All-cons P a (with_runs piece runs others) (All-head P a others all) rest

-- a dock with a shipment is one
pub dock_kept : (h : HeaderValue) (file : ℕ) (old new : List Awaited) (s : Shipment) (result : Result (Unit {0}) (Shipment × Unwanted)) → IsDock (dock_of h file old) →
    file ≡ s.file → FitsDock (dock_of h file old) s → OnOk result (new ≡ with_runs s.piece s.runs old) → OnErr result (new ≡ old) → IsDock (dock_of h file new)
dock_kept h file old new s (Ok _) is here fits ok err =
    subst (λ a. IsDock (dock_of h file a)) (sym ok) (record {
      header = is.header;
      exists = is.exists;
      pieces = is.pieces;
      division = is.division;
      awaited = undelivered-same s.piece s.runs old ∙ is.awaited;
      runs = runs-kept h file s.piece s.runs old (fits (sym here)) is.runs;
    })
dock_kept h file old new s (Err _) is here fits ok err = subst (λ a. IsDock (dock_of h file a)) (sym err) is

-- the awaited piece at the place of an id
pub found_at : (piece : ℕ) (awaited : List Awaited) (place : ℕ) (d : Awaited) → place < length awaited → (get_or awaited place d).piece == piece ≡ true →
    ((k : ℕ) → k < place → (get_or awaited k d).piece == piece ≡ false) → find (λ a. a.piece == piece) awaited ≡ Some (get_or awaited place d)
found_at piece [] place d within here before = absurd (omega arith)
found_at piece (a ∷ others) zero d within here before = ap (λ b. cond b (Some a) (find (λ a. a.piece == piece) others)) here
found_at piece (a ∷ others) (suc place) d within here before =
    ap (λ b. cond b (Some a) (find (λ a. a.piece == piece) others)) (before 0 (omega arith))
    ∙ found_at piece others place d (omega arith) here (λ k less. before (suc k) (omega arith))

pub set_at : (piece : ℕ) (runs : List Run) (awaited : List Awaited) (place : ℕ) (d : Awaited) → place < length awaited → (get_or awaited place d).piece == piece ≡ true →
    ((k : ℕ) → k < place → (get_or awaited k d).piece == piece ≡ false) → set awaited place (delivered runs (get_or awaited place d)) ≡ with_runs piece runs awaited
set_at piece runs [] place d within here before = absurd (omega arith)
set_at piece runs (a ∷ others) zero d within here before = sym (ap (λ b. cond b (delivered runs a ∷ others) (a ∷ with_runs piece runs others)) here)
set_at piece runs (a ∷ others) (suc place) d within here before =
    ap (λ xs. a ∷ xs) (set_at piece runs others place d (omega arith) here (λ k less. before (suc k) (omega arith)))
    ∙ sym (ap (λ b. cond b (delivered runs a ∷ others) (a ∷ with_runs piece runs others)) (before 0 (omega arith)))

pub none_found : (piece : ℕ) (awaited : List Awaited) → position (λ a. a.piece == piece) awaited ≡ None → find (λ a. a.piece == piece) awaited ≡ None
none_found piece awaited none = find_at (λ a. a.piece == piece) awaited ∙ slice_get_past awaited (position_or_len (λ a. a.piece == piece) awaited) (by_test (nat_lt (position_or_len (λ a. a.piece == piece) awaited) (length awaited)) refl none)
  where
    at : ℕ
    at = position_or_len (λ a. a.piece == piece) awaited

    by_test : (b : Bool) → nat_lt at (length awaited) ≡ b → cond b (Some at) None ≡ None → length awaited ≤ at
    by_test true is none = let wrong : Some at ≡ None = none in cc
    by_test false is none = ltb-false at (length awaited) is

-- why a shipment of an awaited piece is not taken
pub unwanted_at : (piece : ℕ) (awaited : List Awaited) (place : ℕ) (item : Awaited) → Some place ≡ position (λ a. a.piece == piece) awaited → item ≡ get_or awaited place item →
    (b : Bool) → is_some item.runs ≡ b → unwanted_of (find (λ a. a.piece == piece) awaited) ≡ (if b then Some Double else None)
unwanted_at piece awaited place item at is b given =
    let found = position-Some (λ a. a.piece == piece) awaited place item (sym at) in
    ap unwanted_of (found_at piece awaited place item found.0 found.1 found.2 ∙ ap Some (sym is))
    ∙ ap (λ b. if b then Some Double else None) given

pub runs_put : (piece : ℕ) (runs : List Run) (awaited new : List Awaited) (place : ℕ) (item : Awaited) → Some place ≡ position (λ a. a.piece == piece) awaited →
    new ≡ set awaited place (delivered runs (get_or awaited place item)) → new ≡ with_runs piece runs awaited
runs_put piece runs awaited new place item at is =
    let found = position-Some (λ a. a.piece == piece) awaited place item (sym at) in
    is ∙ set_at piece runs awaited place item found.0 found.1 found.2

-- why a shipment for the dock's file is not taken
pub unwanted_cases : (h : HeaderValue) (file : ℕ) (awaited : List Awaited) (s : Shipment) (result : Result (Unit {0}) (Shipment × Unwanted)) → s.file ≡ file →
    MatchResult result (λ _. unwanted_of (find (λ a. a.piece == s.piece) awaited) ≡ None) (λ back. unwanted_of (find (λ a. a.piece == s.piece) awaited) ≡ Some back.1) →
    MatchResult result (λ _. unwanted (dock_of h file awaited) s ≡ None) (λ back. unwanted (dock_of h file awaited) s ≡ Some back.1)
unwanted_cases h file awaited s (Ok _) here cases =
    ap (λ b. if b then unwanted_of (find (λ a. a.piece == s.piece) awaited) else Some Stranger) (eq-eqb s.file file here) ∙ cases
unwanted_cases h file awaited s (Err _) here cases =
    ap (λ b. if b then unwanted_of (find (λ a. a.piece == s.piece) awaited) else Some Stranger) (eq-eqb s.file file here) ∙ cases
