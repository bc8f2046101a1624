-- The pieces that a dock awaits, and what a shipment changes of them.
use Rattle.std.proofs.Common.{◌≡◌, ℕ, ◌+◌, ◌-◌, ◌^◌, ◌<◌, Bool, true, false, cond, List, [], ◌∷◌, ◌++◌, length, map, refl, sym, ap, ◌∙◌, subst, arith, Option, Some, None, eqb-true, eq-eqb}
use Rattle.std.specs.Prelude.{◌==◌, ◌&&◌, ◌||◌, All, Contains, filter, find, if◌then◌else◌}
use Rattle.std.specs.List.{list_any, range_with_len}
use Rattle.std.specs.Option.{is_some, unwrap_or}
use Rattle.std.proofs.lemmas.Bool.{and_from, ne_eqb}
use Rattle.std.proofs.lemmas.List.Elements.{All-cons, All-contains, All-filter, All-head, All-map, All-nil, All-same, All-tail, All-append, filter_passes}
use Rattle.std.proofs.lemmas.List.Folds.{list_any_at}
use Rattle.idx_header.specs.Header.{HeaderValue}
use Rattle.idx_pieces.specs.Pieces.{has_piece, piece_at, piece_region, pieces_of}
use Rattle.idx_pieces.specs.declared.piece.Piece.{Piece}
use Rattle.idx_pieces.specs.declared.run.Run.{Run}
use Rattle.idx_pieces.specs.declared.shipment.Shipment.{Shipment}
use Rattle.idx_dock.specs.declared.awaited.Awaited.{Awaited}
use Rattle.idx_dock.specs.declared.unwanted.Unwanted.TheVariants.{Stranger, Double}
use Rattle.idx_dock.specs.Content.{runs_in}
use Rattle.idx_dock.specs.Dock.{DockValue, IsDivision, awaited_of, delivered, reaches, reaching, undelivered, unwanted, unwanted_of, with_runs}
use Rattle.idx_dock.proofs.ContentLemmas.{RiseFrom, RiseFrom-filter, RiseFrom-lower}
use Rattle.idx_aggregate.proofs.FileLemmas.{any_kept}

-- ---- the same pieces with nothing delivered

ids_kept : (awaited : List Awaited) → map (λ a. a.piece) (map undelivered awaited) ≡ map (λ a. a.piece) awaited
ids_kept [] = refl
ids_kept (a ∷ others) = ap (λ ids. a.piece ∷ ids) (ids_kept others)

any_id : (id : ℕ) (awaited : List Awaited) → list_any (λ a. a.piece == id) awaited ≡ list_any (λ a. a.piece == id) (map undelivered awaited)
any_id id [] = refl
any_id id (a ∷ others) = ap (λ b. (a.piece == id) || b) (any_id id others)

any_awaited : (id : ℕ) (pieces : List Piece) → list_any (λ a. a.piece == id) (map awaited_of pieces) ≡ list_any (λ piece. piece.id == id) pieces
any_awaited id [] = refl
any_awaited id (p ∷ pieces) = ap (λ b. (p.id == id) || b) (any_awaited id pieces)

-- what holds of the pieces with nothing delivered
All-undelivered : (P : Awaited → Type 0) (awaited : List Awaited) → All P (map undelivered awaited) → All (λ a. P (undelivered a)) awaited
All-undelivered P [] all = All-nil (λ a. P (undelivered a))
All-undelivered P (a ∷ others) all =
    All-cons (λ a. P (undelivered a)) a others (All-head P (undelivered a) (map undelivered others) all)
    (All-undelivered P others (All-tail P (undelivered a) (map undelivered others) all))

-- ---- the pieces of a division

rise_reaching : (h : HeaderValue) (e n file low : ℕ) (ids : List ℕ) → RiseFrom low ids →
    RiseFrom low (map (λ a. a.piece) (map awaited_of (reaching h file (map (piece_at h e n) ids))))
rise_reaching h e n file low [] rise = tt
rise_reaching h e n file low (i ∷ ids) rise = by_test (reaches h (piece_region h.mask h.box e i) file) (rise_reaching h e n file (i + 1) ids rise.1)
  where
    rest : List Piece
    rest = reaching h file (map (piece_at h e n) ids)

    by_test : (b : Bool) → RiseFrom (i + 1) (map (λ a. a.piece) (map awaited_of rest)) →
        RiseFrom low (map (λ a. a.piece) (map awaited_of (cond b (piece_at h e n i ∷ rest) rest)))
    by_test true more = (rise.0, more)
    by_test false more = RiseFrom-lower low (i + 1) (map (λ a. a.piece) (map awaited_of rest)) (omega (arith, rise.0)) more

-- what is known of the pieces that a dock awaits, of a division into the pieces with these digits in front of the last e
pub record AreKnown (h : HeaderValue) (e file : ℕ) (division : List Piece) (awaited : List Awaited) : Type 0 where
  pub rise : RiseFrom 0 (map (λ a. a.piece) awaited)
  pub regions : All (λ a. a.region ≡ piece_region h.mask h.box e a.piece) awaited
  pub reach : All (λ a. reaches h a.region file ≡ true) awaited
  pub there : (piece : Piece) → Contains division piece → reaches h piece.region file ≡ true → list_any (λ a. a.piece == piece.id) awaited ≡ true

pub are_known : (h : HeaderValue) (division : List Piece) (is : IsDivision h division) (file : ℕ) (awaited : List Awaited) →
    map undelivered awaited ≡ map awaited_of (reaching h file division) → AreKnown h is.e file division awaited
are_known h division is file awaited same = record {
  rise = subst (RiseFrom 0) (ap (map (λ a. a.piece)) (sym whole) ∙ ids_kept awaited)
      (rise_reaching h is.e is.ranks file 0 ids (RiseFrom-filter (has_piece h.mask h.box is.e) 0 (2 ^ (length h.mask - is.e))));
  regions = All-undelivered Q awaited (All-same Q (map undelivered awaited) (map awaited_of (reaching h file (pieces_of h is.e is.ranks))) whole
      (All-map Q awaited_of (reaching h file (pieces_of h is.e is.ranks))
      (All-filter (λ piece. reaches h piece.region file) (λ piece. Q (awaited_of piece)) (pieces_of h is.e is.ranks)
      (All-map (λ piece. Q (awaited_of piece)) (piece_at h is.e is.ranks) ids (λ k d within. refl)))));
  reach = All-undelivered R awaited (All-same R (map undelivered awaited) (map awaited_of (reaching h file division)) same
      (All-map R awaited_of (reaching h file division) (filter_passes (λ piece. reaches h piece.region file) division)));
  there = λ piece among reach.
      any_id piece.id awaited ∙ ap (list_any (λ a. a.piece == piece.id)) same ∙ any_awaited piece.id (reaching h file division)
      ∙ any_kept (λ piece. reaches h piece.region file) (λ other. other.id == piece.id) division
      ∙ list_any_at (λ other. reaches h other.region file && (other.id == piece.id)) division among.0 piece among.1
      (subst (λ (other : Piece). (reaches h other.region file && (other.id == piece.id)) ≡ true) (sym among.2)
      (and_from (reaches h piece.region file) (piece.id == piece.id) reach (eq-eqb piece.id piece.id refl)));
}
  where
    ids : List ℕ
    ids = filter (has_piece h.mask h.box is.e) (range_with_len 0 (2 ^ (length h.mask - is.e)))

    whole : map undelivered awaited ≡ map awaited_of (reaching h file (pieces_of h is.e is.ranks))
    whole = same ∙ ap (λ pieces. map awaited_of (reaching h file pieces)) is.is

    Q : Awaited → Type 0
    Q a = a.region ≡ piece_region h.mask h.box is.e a.piece

    R : Awaited → Type 0
    R a = reaches h a.region file ≡ true

-- the region of a piece of a division
pub region_of : (h : HeaderValue) (division : List Piece) (is : IsDivision h division) (piece : Piece) → Contains division piece → piece.region ≡ piece_region h.mask h.box is.e piece.id
region_of h division is piece among =
    All-contains P division piece
    (All-same P division (pieces_of h is.e is.ranks) is.is
    (All-map P (piece_at h is.e is.ranks) (filter (has_piece h.mask h.box is.e) (range_with_len 0 (2 ^ (length h.mask - is.e)))) (λ k d within. refl))) among
  where
    P : Piece → Type 0
    P piece = piece.region ≡ piece_region h.mask h.box is.e piece.id

-- ---- a shipment of an awaited piece

found : (id : ℕ) (awaited : List Awaited) → list_any (λ a. a.piece == id) awaited ≡ true → All (λ a. a.piece ≡ id → a.runs ≡ None) awaited →
    unwanted_of (find (λ a. a.piece == id) awaited) ≡ None
found id [] some none = let wrong : false ≡ true = some in absurd (cc)
found id (a ∷ others) some none = by_test (a.piece == id) refl some (λ more. found id others more (All-tail P a others none))
  where
    P : Awaited → Type 0
    P a = a.piece ≡ id → a.runs ≡ None

    by_test : (b : Bool) → (a.piece == id) ≡ b → (b || list_any (λ a. a.piece == id) others) ≡ true →
        (list_any (λ a. a.piece == id) others ≡ true → unwanted_of (find (λ a. a.piece == id) others) ≡ None) →
        unwanted_of (cond b (Some a) (find (λ a. a.piece == id) others)) ≡ None
    by_test true here some more = ap (λ (runs : Option (List Run)). if is_some runs then Some Double else None) (All-head P a others none (eqb-true a.piece id here))
    by_test false here some more = more some

-- it is wanted
pub is_wanted : (d : DockValue) (s : Shipment) → s.file ≡ d.file → list_any (λ a. a.piece == s.piece) d.awaited ≡ true → All (λ a. a.piece ≡ s.piece → a.runs ≡ None) d.awaited →
    unwanted d s ≡ None
is_wanted d s here some none =
    ap (λ b. if b then unwanted_of (find (λ a. a.piece == s.piece) d.awaited) else Some Stranger) (eq-eqb s.file d.file here) ∙ found s.piece d.awaited some none

-- the pieces stay
pub pieces_stay : (id : ℕ) (runs : List Run) (awaited : List Awaited) → map undelivered (with_runs id runs awaited) ≡ map undelivered awaited
pieces_stay id runs [] = refl
pieces_stay id runs (a ∷ others) = by_test (a.piece == id) (pieces_stay id runs others)
  where
    by_test : (b : Bool) → map undelivered (with_runs id runs others) ≡ map undelivered others →
        map undelivered (cond b (delivered runs a ∷ others) (a ∷ with_runs id runs others)) ≡ undelivered a ∷ map undelivered others
    by_test true rest = refl
    by_test false rest = ap (λ xs. undelivered a ∷ xs) rest

or_false : (b : Bool) → (b || false) ≡ b
or_false true = refl
or_false false = refl

or_true : (b : Bool) → (b || true) ≡ true
or_true true = refl
or_true false = refl

-- which pieces have runs, where none of them is that of the shipment
pub flags_none : (id : ℕ) (awaited : List Awaited) → All (λ a. (a.piece == id) ≡ false) awaited →
    map (λ a. is_some a.runs) awaited ≡ map (λ a. is_some a.runs || ((a.piece == id) || false)) awaited
flags_none id [] other = refl
flags_none id (a ∷ others) other =
    ap (λ b. b ∷ map (λ a. is_some a.runs) others) (sym (ap (λ b. is_some a.runs || (b || false)) (All-head P a others other) ∙ or_false (is_some a.runs)))
    ∙ ap (λ bs. (is_some a.runs || ((a.piece == id) || false)) ∷ bs) (flags_none id others (All-tail P a others other))
  where
    P : Awaited → Type 0
    P a = (a.piece == id) ≡ false

others_past : (id low : ℕ) (awaited : List Awaited) → id < low → RiseFrom low (map (λ a. a.piece) awaited) → All (λ a. (a.piece == id) ≡ false) awaited
others_past id low [] less rise = All-nil (λ a. (a.piece == id) ≡ false)
others_past id low (a ∷ others) less rise =
    All-cons (λ a. (a.piece == id) ≡ false) a others (ne_eqb a.piece id (λ same. omega (arith, rise.0))) (others_past id (a.piece + 1) others (omega (arith, rise.0)) rise.1)

-- and where one of them is
pub flags_put : (id low : ℕ) (runs : List Run) (awaited : List Awaited) → RiseFrom low (map (λ a. a.piece) awaited) →
    map (λ a. is_some a.runs) (with_runs id runs awaited) ≡ map (λ a. is_some a.runs || ((a.piece == id) || false)) awaited
flags_put id low runs [] rise = refl
flags_put id low runs (a ∷ others) rise = by_test (a.piece == id) refl (flags_put id (a.piece + 1) runs others rise.1)
  where
    by_test : (b : Bool) → (a.piece == id) ≡ b → map (λ a. is_some a.runs) (with_runs id runs others) ≡ map (λ a. is_some a.runs || ((a.piece == id) || false)) others →
        map (λ a. is_some a.runs) (cond b (delivered runs a ∷ others) (a ∷ with_runs id runs others))
        ≡ (is_some a.runs || (b || false)) ∷ map (λ a. is_some a.runs || ((a.piece == id) || false)) others
    by_test true here rest =
        ap (λ b. b ∷ map (λ a. is_some a.runs) others) (sym (or_true (is_some a.runs)))
        ∙ ap (λ bs. (is_some a.runs || true) ∷ bs) (flags_none id others (others_past id (a.piece + 1) others (omega (arith, eqb-true a.piece id here)) rise.1))
    by_test false here rest =
        ap (λ b. b ∷ map (λ a. is_some a.runs) (with_runs id runs others)) (sym (or_false (is_some a.runs)))
        ∙ ap (λ bs. (is_some a.runs || false) ∷ bs) rest

-- ---- the runs

pub All-front : {X : Type 0} (P : X → Type 0) (xs ys : List X) → All P (xs ++ ys) → All P xs
All-front P [] ys all = All-nil P
All-front P (x ∷ xs) ys all = All-cons P x xs (All-head P x (xs ++ ys) all) (All-front P xs ys (All-tail P x (xs ++ ys) all))

pub All-back : {X : Type 0} (P : X → Type 0) (xs ys : List X) → All P (xs ++ ys) → All P ys
All-back P [] ys all = all
All-back P (x ∷ xs) ys all = All-back P xs ys (All-tail P x (xs ++ ys) all)

pub runs_put : (P : Run → Type 0) (id : ℕ) (runs : List Run) (awaited : List Awaited) → All P runs → All P (runs_in awaited) → All P (runs_in (with_runs id runs awaited))
runs_put P id runs [] new old = old
runs_put P id runs (a ∷ others) new old =
    by_test (a.piece == id) (runs_put P id runs others new (All-back P (unwrap_or a.runs []) (runs_in others) old))
  where
    by_test : (b : Bool) → All P (runs_in (with_runs id runs others)) → All P (runs_in (cond b (delivered runs a ∷ others) (a ∷ with_runs id runs others)))
    by_test true more = All-append P runs (runs_in others) new (All-back P (unwrap_or a.runs []) (runs_in others) old)
    by_test false more = All-append P (unwrap_or a.runs []) (runs_in (with_runs id runs others)) (All-front P (unwrap_or a.runs []) (runs_in others) old) more
