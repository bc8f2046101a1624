-- The next batch of the pieces that are left: they are pieces of the box, and some are left where a dock misses one.
use Rattle.std.proofs.Common.{◌≡◌, ◌≢◌, inl, inr, ℕ, suc, ◌+◌, ◌-◌, ◌^◌, ◌<◌, ◌≤◌, true, cond, List, [], ◌∷◌, ◌++◌, length, get_or, take, drop, not, refl, sym, ap, ◌∙◌, subst, arith, Option, Some, None}
use Rattle.std.specs.Prelude.{◌⊎◌, All, filter, find}
use Rattle.std.specs.List.{range_with_len}
use Rattle.std.specs.Option.{is_some, option_map}
use Rattle.std.proofs.lemmas.List.{get_or-map, length-drop, length-map, take-append-drop}
use Rattle.std.proofs.lemmas.List.Elements.{All-drop, All-filter, All-head, All-map, All-same, All-tail, All-take, All-weaker, filter_passes}
use Rattle.idx_outside.specs.Objects.{SameContents, contents_at}
use Rattle.idx_header.specs.Header.{HeaderValue, IsHeader, volume_bytes}
use Rattle.idx_pieces.specs.Digits.{piece_digits}
use Rattle.idx_pieces.specs.Pieces.{IsPiece, has_piece, piece_at, pieces_of}
use Rattle.idx_pieces.specs.Ranks.{longest, rank_count}
use Rattle.idx_pieces.specs.declared.piece.Piece.{Piece}
use Rattle.idx_dock.specs.Dock.{DockValue, IsDivision, missing}
use Rattle.idx_dock.specs.declared.awaited.Awaited.{Awaited}
use Rattle.idx_ranks.specs.Loads.{IsLoad}
use Rattle.idx_ranks.specs.declared.load.Load.{Load}
use Rattle.idx_aggregate.specs.Docks.{pieces_in}
use Rattle.idx_gather.specs.Gather.{HasVolume, HaveSame}
use Rattle.idx_gather.specs.States.{AreDocks, AreFull, AreLoads, HasAllBut, IsLegal, IsOpening, batch_of, is_wanted, wanted}
use Rattle.idx_gather.specs.Windows.{more_fit, run_count, window_of}
use Rattle.idx_gather.proofs.DockingLemmas.{digits_within}

-- ---- the division

-- the pieces of a step that is gathered are a division of the box
pub division_of : (h : HeaderValue) (step ranks room : ℕ) (pieces : List Piece) (files : List ℕ) (paths : List (List ℕ)) → IsOpening h step ranks room pieces files paths → IsDivision h pieces
division_of h step ranks room pieces files paths is = record {
  e = piece_digits h room;
  ranks = ranks;
  within = digits_within h room;
  some = is.some_rank;
  is = is.pieces_are;
}

pub all_pieces : (h : HeaderValue) (step ranks room : ℕ) (pieces : List Piece) (files : List ℕ) (paths : List (List ℕ)) → IsOpening h step ranks room pieces files paths → All (IsPiece h) pieces
all_pieces h step ranks room pieces files paths is =
    let e : ℕ = piece_digits h room in
    let within : e ≤ length h.mask = digits_within h room in
    let some_rank : 1 ≤ ranks = is.some_rank in
    let ids : List ℕ = range_with_len 0 (2 ^ (length h.mask - e)) in
    All-same (IsPiece h) pieces (pieces_of h e ranks) is.pieces_are
    (All-map (IsPiece h) (piece_at h e ranks) (filter (has_piece h.mask h.box e) ids)
    (All-weaker (λ id. has_piece h.mask h.box e id ≡ true) (λ id. IsPiece h (piece_at h e ranks id))
    (λ id some. record { e = e; within = within; ranks = some_rank; some = some; is = refl })
    (filter (has_piece h.mask h.box e) ids) (filter_passes (has_piece h.mask h.box e) ids)))

pub all_of_ranks : (h : HeaderValue) (step ranks room : ℕ) (pieces : List Piece) (files : List ℕ) (paths : List (List ℕ)) → IsOpening h step ranks room pieces files paths →
    All (λ piece. piece.of_ranks ≡ ranks) pieces
all_of_ranks h step ranks room pieces files paths is =
    let e : ℕ = piece_digits h room in
    All-same (λ piece. piece.of_ranks ≡ ranks) pieces (pieces_of h e ranks) is.pieces_are
    (All-map (λ piece. piece.of_ranks ≡ ranks) (piece_at h e ranks) (filter (has_piece h.mask h.box e) (range_with_len 0 (2 ^ (length h.mask - e)))) (λ k d within. refl))

-- ---- what is left

pub left_all : (P : Piece → Type 0) (h : HeaderValue) (room : ℕ) (pieces : List Piece) (files : List ℕ) (done : ℕ) (left : List Piece) (docks : List DockValue) →
    AreDocks h room pieces files done left docks → All P pieces → All P left
left_all P h room pieces files done left docks are all =
    All-same P left (drop done (wanted h (window_of h room files) pieces)) are.left_are
    (All-drop P done (wanted h (window_of h room files) pieces) (All-filter (is_wanted h (window_of h room files)) P pieces all))

pub batch_all : (P : Piece → Type 0) (count : ℕ) (batch left : List Piece) → batch ≡ take count left → All P left → All P batch
batch_all P count batch left is all = All-same P batch (take count left) is (All-take P count left all)

find_none : (awaited : List Awaited) → All (λ a. is_some a.runs ≡ true) awaited → find (λ a. not (is_some a.runs)) awaited ≡ None
find_none [] all = refl
find_none (a ∷ awaited) all =
    ap (λ b. cond (not b) (Some a) (find (λ a. not (is_some a.runs)) awaited)) (All-head P a awaited all)
    ∙ find_none awaited (All-tail P a awaited all)
  where
    P : Awaited → Type 0
    P a = is_some a.runs ≡ true

pub all_full : (docks : List DockValue) → All (HasAllBut []) docks → AreFull docks
all_full docks all = All-weaker (HasAllBut []) (λ d. missing d ≡ None) (λ d has. ap (option_map (λ (a : Awaited). a.piece)) (find_none d.awaited has)) docks all

-- where a dock misses a piece, some are left
pub some_left : (h : HeaderValue) (room : ℕ) (pieces : List Piece) (files : List ℕ) (done : ℕ) (left : List Piece) (docks : List DockValue) →
    AreDocks h room pieces files done left docks → (AreFull docks → ⊥) → left ≢ []
some_left h room pieces files done left docks are unfull none =
    unfull (all_full docks (subst (λ (ps : List Piece). All (HasAllBut ps) docks) none are.delivered))

pub run_moves : {X : Type 0} (size : X → ℕ) (room : ℕ) (xs : List X) → xs ≢ [] → length (drop (run_count size room xs) xs) < length xs
run_moves size room [] some = absurd (some refl)
run_moves size room (x ∷ xs) some =
    let rest : length (drop (more_fit size room (size x) xs) xs) ≡ length xs - more_fit size room (size x) xs = length-drop (more_fit size room (size x) xs) xs in
    let fewer : length (drop (more_fit size room (size x) xs) xs) < suc (length xs) = omega (arith, rest) in fewer

-- the pieces behind the next batch are fewer, or none
pub batch_moves : {X : Type 0} (size : X → ℕ) (room : ℕ) (xs rest : List X) → rest ≡ drop (run_count size room xs) xs → (length rest < length xs) ⊎ (rest ≡ [])
batch_moves size room [] rest is = inr is
batch_moves size room (x ∷ xs) rest is = inl (subst (λ ys. length ys < length (x ∷ xs)) (sym is) (run_moves size room (x ∷ xs) (λ none. cc)))

pub joined : (count : ℕ) (batch rest left : List Piece) → batch ≡ take count left → rest ≡ drop count left → batch ++ rest ≡ left
joined count batch rest left first behind =
    ap (λ (xs : List Piece). xs ++ rest) first ∙ ap (λ (xs : List Piece). take count left ++ xs) behind ∙ take-append-drop count left

-- ---- what was read

pub docks_stay : (h : HeaderValue) (room : ℕ) (pieces : List Piece) (files : List ℕ) (done : ℕ) (left again : List Piece) (docks : List DockValue) →
    again ≡ left → AreDocks h room pieces files done left docks → AreDocks h room pieces files done again docks
docks_stay h room pieces files done left again docks same are = subst (λ (ps : List Piece). AreDocks h room pieces files done ps docks) (sym same) are

pub are_loads : (h : HeaderValue) (room : ℕ) (loads : List Load) (rest left : List Piece) → pieces_in loads ≡ batch_of h room left → pieces_in loads ++ rest ≡ left →
    All (IsLoad h) loads → AreLoads h room loads rest
are_loads h room loads rest left batch whole all = record {
  batch = batch ∙ ap (batch_of h room) (sym whole);
  legal = All-weaker (IsLoad h) (IsLegal h) (λ load is. record { legal = is.legal; whole = is.whole }) loads all;
}

-- ---- the raw volumes

pub same_number : {V : Type 0} (contents : V → Option (List ℕ)) (old new : List V) → SameContents contents old new → length new ≡ length old
same_number contents old new same = sym (length-map new contents) ∙ ap length same ∙ length-map old contents

-- each holds what the first held
pub as_first : {V : Type 0} (contents : V → Option (List ℕ)) (old new : List V) → SameContents contents old new → HaveSame contents old →
    All (λ raw. contents raw ≡ contents_at contents old 0) new
as_first contents old new same alike = λ k d within.
    let inside : k < length old = omega (arith, same_number contents old new same) in
    sym (get_or-map contents new k d None within) ∙ ap (λ (xs : List (Option (List ℕ))). get_or xs k None) same ∙ alike k inside

pub first_is : {V : Type 0} (contents : V → Option (List ℕ)) (old new : List V) (bytes : List ℕ) → SameContents contents old new → HaveSame contents old →
    contents_at contents old 0 ≡ Some bytes → All (λ raw. contents raw ≡ Some bytes) new
first_is contents old new bytes same alike is = λ k d within. as_first contents old new same alike k d within ∙ is

pub all_volumes : {V : Type 0} (h : HeaderValue) (contents : V → Option (List ℕ)) (old new : List V) → SameContents contents old new → HaveSame contents old →
    HasVolume h (contents_at contents old 0) → All (λ raw. (bytes : List ℕ) → contents raw ≡ Some bytes → length bytes ≡ volume_bytes h) new
all_volumes h contents old new same alike right = λ k d within bytes told.
    subst (HasVolume h) (sym (as_first contents old new same alike k d within) ∙ told) right

longest_some : (box : List (ℕ × ℕ)) → 1 ≤ length box → All (λ b. b.0 ≤ b.1) box → 1 ≤ longest box
longest_some [] some all = absurd (omega arith)
longest_some (b ∷ bs) some all =
    let first : b.0 ≤ b.1 = all 0 (0, 0) (omega arith) in
    let wide : 1 ≤ b.1 + 1 - b.0 = omega arith in
    omega arith

-- some rank has a part
pub some_rank : (h : HeaderValue) (n : ℕ) → IsHeader h → 1 ≤ n → 1 ≤ rank_count h.box n
some_rank h n is some =
    let axes : 1 ≤ length h.box = omega (arith, is.region.axes.0) in
    let wide : 1 ≤ longest h.box = longest_some h.box axes is.region.ordered in omega (arith, wide)
