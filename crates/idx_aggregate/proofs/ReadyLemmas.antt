-- Docks that are new, ready and complete.
use Rattle.std.proofs.Common.{◌≡◌, ◌≢◌, ℕ, zero, suc, ◌+◌, ◌-◌, ◌^◌, ◌<◌, Bool, true, cond, List, [], ◌∷◌, ◌++◌, length, get_or, map, not, refl, sym, ap, ◌∙◌, subst, arith, Some, None, eq-eqb}
use Rattle.std.specs.Prelude.{◌==◌, ◌||◌, All, AllPairs, Contains, filter, find}
use Rattle.std.specs.List.{range_with_len}
use Rattle.std.specs.Option.{is_some, option_map}
use Rattle.std.proofs.lemmas.List.{get_or_append_left, get_or-map, length-append, length-map}
use Rattle.std.proofs.lemmas.List.Elements.{All-cons, All-contains_itself, All-filter, All-head, All-map, All-nil, All-tail}
use Rattle.std.proofs.lemmas.List.Folds.{list_any_at}
use Rattle.idx_header.specs.Header.{HeaderValue}
use Rattle.idx_layout.specs.Placing.{file_numbers}
use Rattle.idx_layout.specs.OfHeader.{placing_of}
use Rattle.idx_pieces.specs.Pieces.{has_piece, piece_at}
use Rattle.idx_pieces.specs.Runs.{HasSamples}
use Rattle.idx_pieces.specs.Samples.{AreSamples}
use Rattle.idx_pieces.specs.declared.piece.Piece.{Piece}
use Rattle.idx_pieces.specs.declared.run.Run.{Run}
use Rattle.idx_dock.specs.declared.awaited.Awaited.{Awaited}
use Rattle.idx_dock.specs.Content.{runs_in}
use Rattle.idx_dock.specs.Dock.{DockValue, IsDivision, awaited_of, missing, new_dock, reaches, reaching, undelivered}
use Rattle.idx_dock.proofs.ContentLemmas.{RiseFrom, RiseFrom-filter}
use Rattle.idx_ranks.specs.Loads.{HoldsLoad}
use Rattle.idx_ranks.specs.declared.load.Load.{Load}
use Rattle.idx_aggregate.specs.Docks.{AreReady, Gain, Gains, IsReady, has_id, pieces_in}
use Rattle.idx_aggregate.proofs.AwaitedLemmas.{All-front}
use Rattle.idx_aggregate.proofs.GainLemmas.{both_ids, pieces-append}

-- ---- a part of the pieces

pairs_front : {X : Type 0} (R : X → X → Type 0) (xs ys : List X) → AllPairs R (xs ++ ys) → AllPairs R xs
pairs_front R xs ys all = λ i j d less within.
    subst (λ x. R x (get_or xs j d)) (get_or_append_left xs ys d i (omega arith))
    (subst (λ y. R (get_or (xs ++ ys) i d) y) (get_or_append_left xs ys d j within) (all i j d less (omega (arith, length-append xs ys))))

pub ready_first : (h : HeaderValue) (loads left : List Load) (docks : List DockValue) → AreReady h (pieces_in (loads ++ left)) docks → AreReady h (pieces_in loads) docks
ready_first h loads left docks ready =
    let whole : pieces_in (loads ++ left) ≡ pieces_in loads ++ pieces_in left = pieces-append loads left in
    record {
      division = ready.division;
      is = ready.is;
      among = All-front (Contains ready.division) (pieces_in loads) (pieces_in left) (subst (All (Contains ready.division)) whole ready.among);
      apart = pairs_front (λ one other. one.id ≢ other.id) (pieces_in loads) (pieces_in left) (subst (AllPairs (λ one other. one.id ≢ other.id)) whole ready.apart);
      each = λ k d within. (
          let one : IsReady h ready.division (pieces_in (loads ++ left)) (get_or docks k d) = ready.each k d within in
          record {
            header = one.header;
            file = one.file;
            awaited = one.awaited;
            none = λ n a inside due. one.none n a inside (sym (both_ids loads left (get_or (get_or docks k d).awaited n a).piece)
                ∙ ap (λ b. b || has_id (pieces_in left) (get_or (get_or docks k d).awaited n a).piece) due);
          });
      files = ready.files;
    }

-- ---- new docks

pairs_cons : {X : Type 0} (R : X → X → Type 0) (x : X) (xs : List X) → All (R x) xs → AllPairs R xs → AllPairs R (x ∷ xs)
pairs_cons R x xs first rest zero zero d less within = absurd (omega arith)
pairs_cons R x xs first rest zero (suc j) d less within = first j d (omega arith)
pairs_cons R x xs first rest (suc i) zero d less within = absurd (omega arith)
pairs_cons R x xs first rest (suc i) (suc j) d less within = rest i j d (omega arith) (omega arith)

rise_past : (n low : ℕ) (ids : List ℕ) → n < low → RiseFrom low ids → All (λ id. n ≢ id) ids
rise_past n low [] less rise = All-nil (λ id. n ≢ id)
rise_past n low (id ∷ ids) less rise = All-cons (λ id. n ≢ id) id ids (λ same. omega (arith, rise.0)) (rise_past n (id + 1) ids (omega (arith, rise.0)) rise.1)

rise_apart : (low : ℕ) (ids : List ℕ) → RiseFrom low ids → AllPairs (λ one other. one ≢ other) ids
rise_apart low [] rise = λ i j d less within. absurd (omega arith)
rise_apart low (id ∷ ids) rise = pairs_cons (λ one other. one ≢ other) id ids (rise_past id (id + 1) ids (omega arith) rise.1) (rise_apart (id + 1) ids rise.1)

pairs_map : {Y : Type 0} (R : Y → Y → Type 0) (f : ℕ → Y) (xs : List ℕ) → AllPairs (λ a b. R (f a) (f b)) xs → AllPairs R (map f xs)
pairs_map R f xs all = λ i j d less within.
    let inside : j < length xs = omega (arith, length-map xs f) in
    subst (λ x. R x (get_or (map f xs) j d)) (sym (get_or-map f xs i 0 d (omega arith)))
    (subst (λ y. R (f (get_or xs i 0)) y) (sym (get_or-map f xs j 0 d inside)) (all i j 0 less inside))

-- the pieces of a division have different ids
division_apart : (h : HeaderValue) (division : List Piece) → IsDivision h division → AllPairs (λ one other. one.id ≢ other.id) division
division_apart h division is =
    let ids : List ℕ = filter (has_piece h.mask h.box is.e) (range_with_len 0 (2 ^ (length h.mask - is.e))) in
    subst (AllPairs (λ one other. one.id ≢ other.id)) (sym is.is)
    (pairs_map (λ one other. one.id ≢ other.id) (piece_at h is.e is.ranks) ids (rise_apart 0 ids (RiseFrom-filter (has_piece h.mask h.box is.e) 0 (2 ^ (length h.mask - is.e)))))

none_delivered : (pieces : List Piece) → map undelivered (map awaited_of pieces) ≡ map awaited_of pieces
none_delivered [] = refl
none_delivered (p ∷ pieces) = ap (λ rest. awaited_of p ∷ rest) (none_delivered pieces)

pub new_ready : (h : HeaderValue) (division : List Piece) (files : List ℕ) → IsDivision h division → All (Contains (file_numbers (placing_of h))) files → AllPairs (λ one other. one ≢ other) files →
    AreReady h division (map (new_dock h division) files)
new_ready h division files is known apart = record {
  division = division;
  is = is;
  among = All-contains_itself division;
  apart = division_apart h division is;
  each = All-map (IsReady h division division) (new_dock h division) files (λ k file within. record {
    header = refl;
    file = known k file within;
    awaited = none_delivered (reaching h (get_or files k file) division);
    none = All-map (λ a. has_id division a.piece ≡ true → a.runs ≡ None) awaited_of (reaching h (get_or files k file) division) (λ n piece inside due. refl);
  });
  files = pairs_map (λ one other. one.file ≢ other.file) (new_dock h division) files apart;
}

-- ---- complete docks

own_ids : (pieces : List Piece) → All (λ piece. has_id pieces piece.id ≡ true) pieces
own_ids pieces = λ k d within.
    list_any_at (λ (piece : Piece). (get_or pieces k d).id == piece.id) pieces k d within (eq-eqb (get_or pieces k d).id (get_or pieces k d).id refl)

none_missing : (ids : ℕ → Bool) (awaited : List Awaited) (pieces : List Piece) → map (λ a. is_some a.runs) awaited ≡ map (λ a. is_some a.runs || ids a.piece) (map awaited_of pieces) →
    All (λ piece. ids piece.id ≡ true) pieces → find (λ a. not (is_some a.runs)) awaited ≡ None
none_missing ids [] pieces flags all = refl
none_missing ids (a ∷ awaited) [] flags all = let wrong : is_some a.runs ∷ map (λ (a : Awaited). is_some a.runs) awaited ≡ [] = flags in absurd (cc)
none_missing ids (a ∷ awaited) (p ∷ pieces) flags all =
    let first : is_some a.runs ≡ ids p.id = cc in
    let rest : map (λ (a : Awaited). is_some a.runs) awaited ≡ map (λ (a : Awaited). is_some a.runs || ids a.piece) (map awaited_of pieces) = cc in
    ap (λ b. cond (not b) (Some a) (find (λ a. not (is_some a.runs)) awaited)) (first ∙ All-head (λ (piece : Piece). ids piece.id ≡ true) p pieces all)
    ∙ none_missing ids awaited pieces rest (All-tail (λ (piece : Piece). ids piece.id ≡ true) p pieces all)

no_runs : (P : Run → Type 0) (pieces : List Piece) → All P (runs_in (map awaited_of pieces))
no_runs P [] = All-nil P
no_runs P (p ∷ pieces) = no_runs P pieces

module _ (h : HeaderValue) (division : List Piece) (loads : List Load) (all : pieces_in loads ≡ division) where
  one_complete : (file : ℕ) (d : DockValue) → Gains h loads (new_dock h division file) d → missing d ≡ None
  one_complete file d gains =
      ap (option_map (λ (a : Awaited). a.piece))
      (none_missing (has_id (pieces_in loads)) d.awaited (reaching h file division) gains.delivered
      (All-filter (λ piece. reaches h piece.region file) (λ piece. has_id (pieces_in loads) piece.id ≡ true) division
      (subst (λ (pieces : List Piece). All (λ (piece : Piece). has_id (pieces_in loads) piece.id ≡ true) pieces) all (own_ids (pieces_in loads)))))

  pub all_complete : (files : List ℕ) (docks : List DockValue) → Gain h loads (map (new_dock h division) files) docks → All (λ d. missing d ≡ None) docks
  all_complete [] [] gain = All-nil (λ d. missing d ≡ None)
  all_complete [] (d ∷ docks) gain = absurd gain
  all_complete (file ∷ files) [] gain = absurd gain
  all_complete (file ∷ files) (d ∷ docks) gain = All-cons (λ d. missing d ≡ None) d docks (one_complete file d gain.0) (all_complete files docks gain.1)

pub all_hold : (h : HeaderValue) (division : List Piece) (loads : List Load) (files : List ℕ) (docks : List DockValue) → Gain h loads (map (new_dock h division) files) docks →
    (sample : ℕ → List ℕ → List ℕ) → AreSamples h sample → All (HoldsLoad h sample) loads → All (λ d. All (HasSamples h sample) (runs_in d.awaited)) docks
all_hold h division loads [] [] gain sample are held = All-nil (λ d. All (HasSamples h sample) (runs_in d.awaited))
all_hold h division loads [] (d ∷ docks) gain sample are held = absurd gain
all_hold h division loads (file ∷ files) [] gain sample are held = absurd gain
all_hold h division loads (file ∷ files) (d ∷ docks) gain sample are held =
    All-cons (λ d. All (HasSamples h sample) (runs_in d.awaited)) d docks
    (gain.0.samples sample are held (no_runs (HasSamples h sample) (reaching h file division)))
    (all_hold h division loads files docks gain.1 sample are held)
