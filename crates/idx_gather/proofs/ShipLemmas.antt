-- Docks that wait for a batch of pieces, and what they are once the batch was shipped to them.
use Rattle.std.proofs.Common.{◌≡◌, ◌≢◌, ℕ, suc, ◌+◌, ◌-◌, ◌<◌, ◌≤◌, Bool, true, false, cond, List, [], ◌∷◌, ◌++◌, length, get_or, map, drop, not, refl, sym, ap, ◌∙◌, subst, arith, Option, Some, None, eqb-true}
use Rattle.std.specs.Prelude.{◌==◌, ◌&&◌, ◌||◌, All, AllPairs, Contains, filter}
use Rattle.std.specs.List.{list_any, range_with_len}
use Rattle.std.specs.Option.{is_some}
use Rattle.std.proofs.lemmas.Bool.{ne_eqb}
use Rattle.std.proofs.lemmas.List.{drop-drop, drop_at, length-append, length-drop, length-map}
use Rattle.std.proofs.lemmas.List.Elements.{All-cons, All-contains_itself, All-drop, All-head, All-nil, All-same, All-tail, All-take}
use Rattle.std.proofs.lemmas.List.Folds.{list_any-append}
use Rattle.std.proofs.lemmas.List.Kept.{AllPairs-filter}
use Rattle.idx_header.specs.Header.{HeaderValue, IsHeader}
use Rattle.idx_layout.specs.Files.{length_of_file}
use Rattle.idx_layout.specs.Placing.{block_count, file_numbers, file_of, is_present}
use Rattle.idx_layout.specs.OfHeader.{placing_of}
use Rattle.idx_pieces.specs.Pieces.{IsPiece}
use Rattle.idx_pieces.specs.Runs.{HasSamples}
use Rattle.idx_pieces.specs.declared.piece.Piece.{Piece}
use Rattle.idx_pieces.specs.declared.run.Run.{Run}
use Rattle.idx_dock.specs.Content.{runs_in}
use Rattle.idx_dock.specs.Dock.{DockValue, IsDivision, awaited_of, reaching, undelivered}
use Rattle.idx_dock.specs.declared.awaited.Awaited.{Awaited}
use Rattle.idx_ranks.specs.Loads.{HoldsLoad, IsLoad}
use Rattle.idx_ranks.specs.declared.load.Load.{Load}
use Rattle.idx_aggregate.specs.Docks.{AreReady, Gain, Gains, has_id, pieces_in}
use Rattle.idx_aggregate.proofs.ReadyLemmas.{new_ready}
use Rattle.idx_gather.specs.States.{AreBoxSamples, AreDocks, AreLoads, HasAllBut, HaveSamples, IsDockOf, IsOpening, is_wanted, wanted}
use Rattle.idx_gather.specs.Windows.{run_count, window_of}
use Rattle.idx_gather.proofs.PairLemmas.{All-back, All-front, All-of_map, All-zip, kept_apart, map_zip, pairs_drop, pairs_head, pairs_of_map, pairs_front, pairs_tail, pairs_take}
use Rattle.idx_gather.proofs.BatchLemmas.{all_pieces, division_of, left_all}
use Rattle.idx_gather.proofs.FitLemmas.{docks_fit, docks_from_fit, fit, fit_are, load_fits}

-- ---- ids

none_has : (id : ℕ) (pieces : List Piece) → All (λ piece. id ≢ piece.id) pieces → has_id pieces id ≡ false
none_has id [] other = refl
none_has id (p ∷ pieces) other =
    ap (λ b. b || has_id pieces id) (ne_eqb id p.id (All-head P p pieces other)) ∙ none_has id pieces (All-tail P p pieces other)
  where
    P : Piece → Type 0
    P piece = id ≢ piece.id

abbrev Apart : Piece → Piece → Type 0
Apart one other = one.id ≢ other.id

apart_ids : (front back : List Piece) → AllPairs Apart (front ++ back) → (id : ℕ) → has_id back id ≡ true → has_id front id ≡ false
apart_ids [] back apart id here = refl
apart_ids (p ∷ front) back apart id here = by_test (id == p.id) refl (apart_ids front back (pairs_tail Apart p (front ++ back) apart) id here)
  where
    by_test : (b : Bool) → (id == p.id) ≡ b → has_id front id ≡ false → (b || has_id front id) ≡ false
    by_test true same rest =
        let none : has_id back p.id ≡ false = none_has p.id back (All-back (Apart p) front back (pairs_head Apart p (front ++ back) apart)) in
        let wrong : true ≡ false = sym here ∙ ap (has_id back) (eqb-true id p.id same) ∙ none in absurd (cc)
    by_test false same rest = rest

pub apart_back : (front back : List Piece) → AllPairs Apart (front ++ back) → (id : ℕ) → has_id front id ≡ true → has_id back id ≡ false
apart_back front back apart id here = by_test (has_id back id) refl
  where
    by_test : (b : Bool) → has_id back id ≡ b → has_id back id ≡ false
    by_test true there = let wrong : true ≡ false = sym here ∙ apart_ids front back apart id there in absurd (cc)
    by_test false none = none

-- ---- which pieces have runs

or_false : (b : Bool) → (b || false) ≡ b
or_false true = refl
or_false false = refl

or_true : (b : Bool) → (b || true) ≡ true
or_true true = refl
or_true false = refl

pub none_is : (runs : Option (List Run)) → is_some runs ≡ false → runs ≡ None
none_is None none = refl
none_is (Some runs) none = let wrong : true ≡ false = none in absurd (cc)

one_flag : (old p q new : Bool) → (p ≡ true → q ≡ false) → old ≡ not (p || q) → new ≡ (old || p) → new ≡ not q
one_flag old true q new apart was is = is ∙ or_true old ∙ sym (ap not (apart refl))
one_flag old false q new apart was is = is ∙ or_false old ∙ was

module _ (p q : ℕ → Bool) where
  abbrev Before : Awaited → Type 0
  Before a = is_some a.runs ≡ not (p a.piece || q a.piece)

  abbrev After : Awaited → Type 0
  After a = is_some a.runs ≡ not (q a.piece)

  pub flags_left : (old new : List Awaited) → ((id : ℕ) → p id ≡ true → q id ≡ false) → map undelivered new ≡ map undelivered old →
      map (λ a. is_some a.runs) new ≡ map (λ a. is_some a.runs || p a.piece) old → All Before old → All After new
  flags_left old [] apart same flags all = All-nil After
  flags_left [] (b ∷ news) apart same flags all = let wrong : undelivered b ∷ map undelivered news ≡ [] = same in absurd (cc)
  flags_left (a ∷ olds) (b ∷ news) apart same flags all =
      let first : undelivered b ≡ undelivered a = cc in
      let rest : map undelivered news ≡ map undelivered olds = cc in
      let flag : is_some b.runs ≡ (is_some a.runs || p a.piece) = cc in
      let others : map (λ a. is_some a.runs) news ≡ map (λ a. is_some a.runs || p a.piece) olds = cc in
      let id : b.piece ≡ a.piece = ap (λ (x : Awaited). x.piece) first in
      All-cons After b news
      (one_flag (is_some a.runs) (p a.piece) (q a.piece) (is_some b.runs) (apart a.piece) (All-head Before a olds all) flag ∙ ap (λ n. not (q n)) (sym id))
      (flags_left olds news apart rest others (All-tail Before a olds all))

pub either_id : (batch left : List Piece) (id : ℕ) → has_id (batch ++ left) id ≡ (has_id batch id || has_id left id)
either_id batch left id = list_any-append (λ (piece : Piece). id == piece.id) batch left

-- ---- the division

pub ids_apart : (h : HeaderValue) (pieces : List Piece) → IsDivision h pieces → AllPairs Apart pieces
ids_apart h pieces is =
    (new_ready h pieces [] is (All-nil (Contains (file_numbers (placing_of h)))) (λ i j d less within. absurd (omega arith))).apart

kept_few : {X : Type 0} (test : X → Bool) (xs : List X) → length (filter test xs) ≤ length xs
kept_few test [] = omega arith
kept_few test (x ∷ xs) = by_test (test x) (kept_few test xs)
  where
    by_test : (b : Bool) → length (filter test xs) ≤ length xs → length (cond b (x ∷ filter test xs) (filter test xs)) ≤ suc (length xs)
    by_test true rest = omega (arith, rest)
    by_test false rest = omega (arith, rest)

module _ (h : HeaderValue) (step ranks room : ℕ) (pieces : List Piece) (files : List ℕ) (paths : List (List ℕ)) (opening : IsOpening h step ranks room pieces files paths)
    (sealed done : ℕ) (loads : List Load) (left : List Piece) (docks : List DockValue)
    (are : AreDocks h room pieces (drop sealed files) done (pieces_in loads ++ left) docks) where
  abbrev rest : List ℕ
  rest = drop sealed files

  abbrev all_wanted : List Piece
  all_wanted = wanted h (window_of h room rest) pieces

  abbrev Numbers : ℕ → Type 0
  Numbers = Contains (file_numbers (placing_of h))

  abbrev Differ : ℕ → ℕ → Type 0
  Differ x y = x ≢ y

  numbers : All Numbers (map (λ d. d.file) docks)
  numbers =
      All-same Numbers (map (λ d. d.file) docks) (window_of h room rest) are.window
      (All-take Numbers (run_count (length_of_file (placing_of h)) room rest) rest (All-drop Numbers sealed files
      (All-same Numbers files (file_numbers (placing_of h)) opening.files_are (All-contains_itself (file_numbers (placing_of h))))))

  numbers_apart : AllPairs Differ (file_numbers (placing_of h))
  numbers_apart =
      kept_apart (λ file. list_any (λ block. is_present (placing_of h) block && (file_of (placing_of h) block == file)) (range_with_len 0 (block_count (placing_of h)))) 0 (block_count (placing_of h))

  files_apart : AllPairs (λ one other. one.file ≢ other.file) docks
  files_apart =
      pairs_of_map Differ (λ d. d.file) docks
      (subst (AllPairs Differ) (sym are.window)
      (pairs_take Differ (run_count (length_of_file (placing_of h)) room rest) rest
      (pairs_drop Differ sealed files (subst (AllPairs Differ) (sym opening.files_are) numbers_apart))))

  pieces_apart : AllPairs Apart (pieces_in loads ++ left)
  pieces_apart =
      subst (AllPairs Apart) (sym are.left_are)
      (pairs_drop Apart done all_wanted
      (AllPairs-filter Apart (is_wanted h (window_of h room rest)) pieces
      (ids_apart h pieces (division_of h step ranks room pieces files paths opening))))

  -- the docks are ready for the batch
  pub are_ready : AreReady h (pieces_in loads) docks
  are_ready = record {
    division = pieces;
    is = division_of h step ranks room pieces files paths opening;
    among = All-front (Contains pieces) (pieces_in loads) left
        (left_all (Contains pieces) h room pieces rest done (pieces_in loads ++ left) docks are (All-contains_itself pieces));
    apart = pairs_front Apart (pieces_in loads) left pieces_apart;
    each = λ k d within. (
        let one : IsDockOf h pieces (get_or docks k d) = are.docks_are k d within in
        record {
          header = one.header;
          file = All-of_map Numbers (λ (x : DockValue). x.file) docks numbers k d within;
          awaited = one.awaited;
          none = λ n a inside due.
              none_is (get_or (get_or docks k d).awaited n a).runs (are.delivered k d within n a inside
              ∙ ap not (either_id (pieces_in loads) left (get_or (get_or docks k d).awaited n a).piece
              ∙ ap (λ b. b || has_id left (get_or (get_or docks k d).awaited n a).piece) due));
        });
    files = files_apart;
  }

  pub loads_are : AreLoads h room loads left → All (IsLoad h) loads
  loads_are known = λ k d within. record {
    piece = All-of_map (IsPiece h) (λ (load : Load). load.piece) loads (All-front (IsPiece h) (pieces_in loads) left
        (left_all (IsPiece h) h room pieces rest done (pieces_in loads ++ left) docks are (all_pieces h step ranks room pieces files paths opening))) k d within;
    legal = (known.legal k d within).legal;
    whole = (known.legal k d within).whole;
  }

  has_all : (x y : DockValue) → HasAllBut (pieces_in loads ++ left) x → Gains h loads x y → HasAllBut left y
  has_all x y has gains =
      flags_left (has_id (pieces_in loads)) (has_id left) x.awaited y.awaited (apart_back (pieces_in loads) left pieces_apart) gains.awaited gains.delivered
      (λ n a inside. has n a inside ∙ ap not (either_id (pieces_in loads) left (get_or x.awaited n a).piece))

  is_still : (x y : DockValue) → IsDockOf h pieces x → Gains h loads x y → IsDockOf h pieces y
  is_still x y is gains = record {
    header = gains.header ∙ is.header;
    awaited = gains.awaited ∙ is.awaited ∙ ap (λ file. map awaited_of (reaching h file pieces)) (sym gains.file);
  }

  -- once it was shipped, the others are left
  pub are_shipped : (new : List DockValue) → Gain h loads docks new → AreDocks h room pieces (drop sealed files) (done + length loads) left new
  are_shipped new gain = record {
    some = are.some;
    window = map_zip (λ (d : DockValue). d.file) (Gains h loads) (λ x y gains. gains.file) docks new gain ∙ are.window;
    docks_are = All-zip (IsDockOf h pieces) (IsDockOf h pieces) (Gains h loads) is_still docks new are.docks_are gain;
    left_are = sym (drop_at (pieces_in loads) left (length loads) (length-map loads (λ (load : Load). load.piece)))
        ∙ ap (drop (length loads)) are.left_are ∙ drop-drop (length loads) done all_wanted;
    delivered = All-zip (HasAllBut (pieces_in loads ++ left)) (HasAllBut left) (Gains h loads) has_all docks new are.delivered gain;
  }

  -- so many pieces fit where those of the division do
  pub counts_fit : (end : ℕ) → done < end → length pieces < end → done + length loads < end
  counts_fit end first all =
      let whole : length (pieces_in loads ++ left) ≡ length (pieces_in loads) + length left = length-append (pieces_in loads) left in
      let mapped : length (pieces_in loads) ≡ length loads = length-map loads (λ (load : Load). load.piece) in
      let behind : length (pieces_in loads ++ left) ≡ length all_wanted - done = ap length are.left_are ∙ length-drop done all_wanted in
      by_counts (length (pieces_in loads ++ left)) (length (pieces_in loads)) (length left) (length loads) (length all_wanted) (length pieces)
      whole mapped behind (kept_few (is_wanted h (window_of h room rest)) pieces) all first
    where
      by_counts : (both batch others n w p : ℕ) → both ≡ batch + others → batch ≡ n → both ≡ w - done → w ≤ p → p < end → done < end → done + n < end
      by_counts both batch others n w p whole mapped behind few all first = omega arith

-- what was delivered keeps the samples
pub keep_samples : (h : HeaderValue) (loads : List Load) (docks new : List DockValue) → IsHeader h → All (IsLoad h) loads → Gain h loads docks new → (sample : ℕ → List ℕ → List ℕ) →
    AreBoxSamples h sample → All (HoldsLoad h sample) loads → HaveSamples h sample docks → HaveSamples h sample new
keep_samples h loads docks new valid known gain sample are held have =
    let other : ℕ → List ℕ → List ℕ = fit h sample in
    let fits : All (HoldsLoad h other) loads = λ k d within. load_fits h sample are (get_or loads k d) valid (known k d within) (held k d within) in
    docks_from_fit h sample are new
    (All-zip (λ d. All (HasSamples h other) (runs_in d.awaited)) (λ d. All (HasSamples h other) (runs_in d.awaited)) (Gains h loads)
    (λ x y has gains. gains.samples other (fit_are h sample) fits has) docks new (docks_fit h sample are docks have) gain)
