-- The docks of a window of files to which nothing was delivered.
use Rattle.std.proofs.Common.{◌≡◌, ◌≢◌, ℕ, zero, suc, ◌+◌, ◌-◌, ◌*◌, ◌^◌, ◌<◌, ◌≤◌, true, List, [], ◌∷◌, length, length-drop, get_or, map, not, take, drop, refl, sym, ap, ◌∙◌, subst, arith, eq-eqb, min, inl, inr}
use Rattle.std.specs.Prelude.{◌⊎◌, ◌==◌, ◌&&◌, All, Contains, filter, nat_le}
use Rattle.std.specs.List.{range_with_len}
use Rattle.std.specs.Option.{is_some}
use Rattle.std.proofs.lemmas.Bool.{and_from, cases_lt}
use Rattle.std.proofs.lemmas.List.{length-map}
use Rattle.std.proofs.lemmas.List.Elements.{All-contains_itself, All-drop, All-filter, All-map, All-same, All-take, filter_passes}
use Rattle.std.proofs.lemmas.List.Folds.{list_any_at}
use Rattle.idx_geom.specs.Region.{upper_ends}
use Rattle.idx_hz.specs.Mask.{HasAddress}
use Rattle.idx_header.specs.Header.{HeaderValue, IsHeader}
use Rattle.idx_layout.specs.Files.{length_of_file}
use Rattle.idx_layout.specs.Placing.{file_numbers}
use Rattle.idx_layout.specs.OfHeader.{placing_of}
use Rattle.idx_pieces.specs.Digits.{piece_digits, point_bytes}
use Rattle.idx_pieces.specs.Pieces.{IsPiece, front_bounds, has_piece, piece_at, pieces_of}
use Rattle.idx_pieces.specs.declared.piece.Piece.{Piece}
use Rattle.idx_ship.proofs.ShipmentLemmas.{take_all}
use Rattle.idx_dock.specs.Dock.{DockValue, IsDivision, awaited_of, new_dock, reaches, reaching, undelivered}
use Rattle.idx_dock.proofs.DockLemmas.{HasAddress-common}
use Rattle.idx_aggregate.specs.Docks.{has_id}
use Rattle.idx_aggregate.proofs.FileLemmas.{any_kept}
use Rattle.idx_gather.specs.States.{AreDocks, HasAllBut, IsDockOf, is_wanted, wanted}
use Rattle.idx_gather.specs.Windows.{run_count, window_of}
use Rattle.idx_pieces.proofs.DigitLemmas.{greatest_within}

-- ---- pieces

-- a piece has no more free digits than there are
pub digits_within : (h : HeaderValue) (room : ℕ) → piece_digits h room ≤ length h.mask
digits_within h room =
    omega (arith, greatest_within (λ e. nat_le (4 * 2 ^ e * point_bytes h) room) (length h.mask - min (length h.mask) 6))

pub division_of : (h : HeaderValue) (room ranks : ℕ) (pieces : List Piece) → 1 ≤ ranks → pieces ≡ pieces_of h (piece_digits h room) ranks → IsDivision h pieces
division_of h room ranks pieces some is =
    record { e = piece_digits h room; ranks = ranks; within = digits_within h room; some = some; is = is }

-- the pieces of a division are pieces
pub are_pieces : (h : HeaderValue) (pieces : List Piece) → IsDivision h pieces → All (IsPiece h) pieces
are_pieces h pieces division =
    let test = has_piece h.mask h.box division.e in
    let all : List ℕ = range_with_len 0 (2 ^ (length h.mask - division.e)) in
    All-same (IsPiece h) pieces (pieces_of h division.e division.ranks) division.is
    (All-map (IsPiece h) (piece_at h division.e division.ranks) (filter test all) (λ k d within. record {
      e = division.e;
      within = division.within;
      ranks = division.some;
      some = filter_passes test all k d within;
      is = refl;
    }))

length-range : (a n : ℕ) → length (range_with_len a n) ≡ n
length-range a zero = refl
length-range a (suc n) = ap suc (length-range (a + 1) n)

-- the upper end of a piece has an address
pub piece_address : (h : HeaderValue) (piece : Piece) → IsHeader h → IsPiece h piece → HasAddress h.mask (upper_ends piece.region)
piece_address h piece is one =
    subst (λ (p : Piece). HasAddress h.mask (upper_ends p.region)) (sym one.is)
    (HasAddress-common h.mask h.box (map (front_bounds h.mask one.e piece.id) (range_with_len 0 (length h.box)))
    (sym (length-map (range_with_len 0 (length h.box)) (front_bounds h.mask one.e piece.id) ∙ length-range 0 (length h.box))) is.covered)

-- ---- files

-- what is left of a list behind the first
pub left_is : (files : List ℕ) (done : ℕ) → take (length files - done) (drop done files) ≡ drop done files
left_is files done = take_all (length files - done) (drop done files) (omega (arith, length-drop done files))

-- the files of a part of the list are files
pub are_files : (h : HeaderValue) (files : List ℕ) (done many count : ℕ) → files ≡ file_numbers (placing_of h) →
    All (Contains (file_numbers (placing_of h))) (take count (take many (drop done files)))
are_files h files done many count is =
    let P : ℕ → Type 0 = Contains (file_numbers (placing_of h)) in
    All-take P count (take many (drop done files)) (All-take P many (drop done files)
    (All-drop P done files (All-same P files (file_numbers (placing_of h)) is (All-contains_itself (file_numbers (placing_of h))))))

-- the next window
pub window_is : (h : HeaderValue) (room : ℕ) (xs files : List ℕ) (n done count : ℕ) → xs ≡ files → n ≡ done →
    count ≡ run_count (length_of_file (placing_of h)) room (take (length xs - n) (drop n xs)) →
    take count (take (length xs - n) (drop n xs)) ≡ window_of h room (drop done files)
window_is h room xs files n done count same at is =
    ap (λ k. take k (take (length xs - n) (drop n xs))) is
    ∙ ap (window_of h room) (left_is xs n)
    ∙ ap (λ (ys : List ℕ). window_of h room (drop n ys)) same
    ∙ ap (λ k. window_of h room (drop k files)) at

-- some file is left where not all are sealed
pub some_left : (files : List ℕ) (done sealed : ℕ) → sealed ≡ done → sealed ≤ length files → done ≢ length files → 0 < length (drop done files)
some_left files done sealed at few other = by_cases (cases_lt done (length files))
  where
    by_cases : (done < length files) ⊎ (length files ≤ done) → 0 < length (drop done files)
    by_cases (inl less) = omega (arith, less, length-drop done files)
    by_cases (inr past) = absurd (other (omega (arith, at, few, past)))

-- ---- docks

pub files_of : (h : HeaderValue) (pieces : List Piece) (files : List ℕ) → map (λ (d : DockValue). d.file) (map (new_dock h pieces) files) ≡ files
files_of h pieces [] = refl
files_of h pieces (f ∷ fs) = ap (λ rest. f ∷ rest) (files_of h pieces fs)

pub none_delivered : (pieces : List Piece) → map undelivered (map awaited_of pieces) ≡ map awaited_of pieces
none_delivered [] = refl
none_delivered (p ∷ ps) = ap (λ rest. awaited_of p ∷ rest) (none_delivered ps)

-- the ids of the pieces with a point in one of the files are those of wanted pieces
reaching_wanted : (h : HeaderValue) (pieces : List Piece) (files : List ℕ) (file : ℕ) → Contains files file →
    All (λ piece. has_id (wanted h files pieces) piece.id ≡ true) (reaching h file pieces)
reaching_wanted h pieces files file among = λ k d within.
    let piece : Piece = get_or (reaching h file pieces) k d in
    let reach : reaches h piece.region file ≡ true = filter_passes (λ (p : Piece). reaches h p.region file) pieces k d within in
    let there : Contains pieces piece = All-filter (λ (p : Piece). reaches h p.region file) (Contains pieces) pieces (All-contains_itself pieces) k d within in
    let is : is_wanted h files piece ≡ true =
    list_any_at (reaches h piece.region) files among.0 file among.1 (subst (λ f. reaches h piece.region f ≡ true) (sym among.2) reach) in
    any_kept (is_wanted h files) (λ (other : Piece). piece.id == other.id) pieces
    ∙ list_any_at (λ (other : Piece). is_wanted h files other && (piece.id == other.id)) pieces there.0 piece there.1
    (subst (λ (other : Piece). (is_wanted h files other && (piece.id == other.id)) ≡ true) (sym there.2)
    (and_from (is_wanted h files piece) (piece.id == piece.id) is (eq-eqb piece.id piece.id refl)))

-- new docks have nothing of the wanted pieces
pub new_without : (h : HeaderValue) (pieces : List Piece) (files : List ℕ) (file : ℕ) → Contains files file → HasAllBut (wanted h files pieces) (new_dock h pieces file)
new_without h pieces files file among =
    let left : List Piece = wanted h files pieces in
    All-map (λ a. is_some a.runs ≡ not (has_id left a.piece)) awaited_of (reaching h file pieces)
    (λ k d within. sym (ap not (reaching_wanted h pieces files file among k d within)))

-- they are the docks of the window
pub new_docks : (h : HeaderValue) (room : ℕ) (pieces : List Piece) (files : List ℕ) → 0 < length files →
    AreDocks h room pieces files 0 (wanted h (window_of h room files) pieces) (map (new_dock h pieces) (window_of h room files))
new_docks h room pieces files some =
    let window : List ℕ = window_of h room files in
    record {
      some = some;
      window = files_of h pieces window;
      docks_are = All-map (IsDockOf h pieces) (new_dock h pieces) window (λ k d within. record {
        header = refl;
        awaited = none_delivered (reaching h (get_or window k d) pieces);
      });
      left_are = refl;
      delivered = All-map (HasAllBut (wanted h window pieces)) (new_dock h pieces) window
          (λ k d within. new_without h pieces window (get_or window k d) (All-contains_itself window k d within));
    }

-- the same of lists that equal these
pub docks_are_new : (h : HeaderValue) (room : ℕ) (pieces : List Piece) (files window : List ℕ) (given : List Piece) (left : List Piece) (docks : List DockValue) → 0 < length files →
    window ≡ window_of h room files → given ≡ pieces → left ≡ wanted h window given → docks ≡ map (new_dock h pieces) window → AreDocks h room pieces files 0 left docks
docks_are_new h room pieces files window given left docks some is same chosen made =
    let all : left ≡ wanted h (window_of h room files) pieces = chosen ∙ ap (λ (w : List ℕ). wanted h w given) is ∙ ap (wanted h (window_of h room files)) same in
    let new : docks ≡ map (new_dock h pieces) (window_of h room files) = made ∙ ap (map (new_dock h pieces)) is in
    subst (λ (l : List Piece). AreDocks h room pieces files 0 l docks) (sym all)
    (subst (AreDocks h room pieces files 0 (wanted h (window_of h room files) pieces)) (sym new) (new_docks h room pieces files some))
