-- Docks of a window whose files are sealed as they come.
use Rattle.std.proofs.Common.{◌≡◌, ◌≢◌, inl, inr, ℕ, zero, suc, ◌+◌, ◌-◌, ◌<◌, Bool, true, false, List, [], ◌∷◌, ◌++◌, length, get_or, map, take, drop, not, if◌then◌else◌, refl, sym, ap, ◌∙◌, subst, arith, append_assoc, append-nil, Option, Some, None}
use Rattle.std.specs.Prelude.{◌⊎◌, ◌||◌, ◌^◌, IfOk, Result, Ok, Err, All, AllPairs, Contains, filter, nat_eq}
use Rattle.std.specs.List.Sorted.{IsPermutation}
use Rattle.std.specs.Option.{is_some}
use Rattle.std.proofs.lemmas.Bool.Decides.{Decides-eqb}
use Rattle.std.proofs.lemmas.List.{length-append, length-map, map-append, take-append-drop, take_all}
use Rattle.std.proofs.lemmas.List.Elements.{All-contains, All-contains_itself, All-drop, All-filter, All-head, All-map, All-same, All-tail, All-take, filter_passes}
use Rattle.std.proofs.lemmas.List.Kept.{AllPairs-filter}
use Rattle.std.proofs.lemmas.List.Sorted.{All-permutation, IsPermutation-append_comm, IsPermutation-append_left, IsPermutation-append_right, IsPermutation-filter_both, IsPermutation-map, IsPermutation-refl, IsPermutation-trans, length_permutation}
use Rattle.std.proofs.lemmas.Map.Keys.{IsDistinct-IsPermutation}
use Rattle.std.proofs.lemmas.Map.Made.{AllPairs-from_IsDistinct, IsDistinct-from_AllPairs}
use Rattle.idx_header.specs.Header.{HeaderValue}
use Rattle.idx_layout.specs.Files.{length_of_file}
use Rattle.idx_layout.specs.OfHeader.{placing_of}
use Rattle.idx_layout.specs.Placing.{file_numbers}
use Rattle.idx_pieces.specs.declared.piece.Piece.{Piece}
use Rattle.idx_dock.specs.Dock.{DockValue, IsDivision, awaited_of, missing, new_dock, reaching}
use Rattle.idx_ranks.specs.declared.load.Load.{Load}
use Rattle.idx_aggregate.specs.Docks.{AreReady, Gain, Gains, has_id, pieces_in}
use Rattle.idx_gather.specs.States.{AreFull, HasAllBut, IsDockOf, IsOpening, is_wanted, wanted}
use Rattle.idx_gather.specs.Streams.{AreOpen, IsNextWindow, OpenAtMost, full_docks, is_full, other_docks}
use Rattle.idx_gather.specs.Windows.{run_count}
use Rattle.idx_gather.proofs.BatchLemmas.{all_full, division_of}
use Rattle.idx_gather.proofs.PairLemmas.{All-back, All-front, All-of_map, All-zip, map_zip, pairs_drop, pairs_front, pairs_of_map, pairs_take}
use Rattle.idx_gather.proofs.DockingLemmas.{files_of, left_is, new_without, none_delivered}
use Rattle.idx_gather.proofs.FirstLemmas.{numbers_apart, pairs_across, pairs_back}
use Rattle.idx_gather.proofs.SealLemmas.{run_some}
use Rattle.idx_gather.proofs.ShipLemmas.{apart_back, either_id, flags_left, ids_apart, none_is}

abbrev pub Apart : Piece → Piece → Type 0
Apart one other = one.id ≢ other.id

abbrev pub Differ : ℕ → ℕ → Type 0
Differ x y = x ≢ y

-- numbers that differ still do in another order
pub moved_apart : (xs ys : List ℕ) → IsPermutation xs ys → AllPairs Differ xs → AllPairs Differ ys
moved_apart xs ys moved apart =
    AllPairs-from_IsDistinct {eq = nat_eq} Decides-eqb ys
    (IsDistinct-IsPermutation nat_eq flips xs ys moved (IsDistinct-from_AllPairs {eq = nat_eq} Decides-eqb xs apart))
  where
    flips : (x y : ℕ) → nat_eq x y ≡ nat_eq y x
    flips x y = grind arith

-- ---- a new window

-- as many of a list as a first part has are that part
all_taken : (count : ℕ) (xs : List ℕ) → take (length (take count xs)) xs ≡ take count xs
all_taken zero xs = refl
all_taken (suc count) [] = refl
all_taken (suc count) (x ∷ xs) = ap (λ ys. x ∷ ys) (all_taken count xs)

-- the docks of a window to which nothing was delivered
pub open_new : (h : HeaderValue) (step ranks room : ℕ) (pieces : List Piece) (files : List ℕ) (paths : List (List ℕ)) (rest : List ℕ) (count : ℕ) (left : List Piece) (docks : List DockValue) →
    IsOpening h step ranks room pieces files paths → docks ≡ map (new_dock h pieces) (take count rest) → left ≡ wanted h (take count rest) pieces → AreOpen h pieces rest [] left docks
open_new h step ranks room pieces files paths rest count left docks opening made chosen =
    let window : List ℕ = take count rest in
    let division : IsDivision h pieces = division_of h step ranks room pieces files paths opening in
    let test : Piece → Bool = is_wanted h window in
    let own : map (λ (d : DockValue). d.file) docks ≡ window = ap (map (λ (d : DockValue). d.file)) made ∙ files_of h pieces window in
    let many : length docks + 0 ≡ length window = omega (arith, length-map docks (λ (d : DockValue). d.file), ap length own) in
    let each : All (IsDockOf h pieces) (map (new_dock h pieces) window) =
    All-map (IsDockOf h pieces) (new_dock h pieces) window (λ k d within. record { header = refl; awaited = none_delivered (reaching h (get_or window k d) pieces) }) in
    let none : All (HasAllBut (wanted h window pieces)) (map (new_dock h pieces) window) =
    All-map (HasAllBut (wanted h window pieces)) (new_dock h pieces) window
    (λ k d within. new_without h pieces window (get_or window k d) (All-contains_itself window k d within)) in
    record {
      docks_are = All-same (IsDockOf h pieces) docks (map (new_dock h pieces) window) made each;
      among = All-same (Contains pieces) left (filter test pieces) chosen (All-filter test (Contains pieces) pieces (All-contains_itself pieces));
      apart = subst (AllPairs Apart) (sym chosen) (AllPairs-filter Apart test pieces (ids_apart h pieces division));
      delivered = subst (λ (ps : List Piece). All (HasAllBut ps) docks) (sym chosen) (All-same (HasAllBut (wanted h window pieces)) docks (map (new_dock h pieces) window) made none);
      whole = subst (IsPermutation (take (length docks + 0) rest)) (ap (λ n. take n rest) many ∙ all_taken count rest ∙ sym own ∙ sym (append-nil (map (λ (d : DockValue). d.file) docks)))
          (IsPermutation-refl (take (length docks + 0) rest));
    }

-- ---- a window in which some files are sealed

module _ (h : HeaderValue) (step ranks room : ℕ) (pieces : List Piece) (files : List ℕ) (paths : List (List ℕ)) (opening : IsOpening h step ranks room pieces files paths)
    (n : ℕ) (numbers : List ℕ) (left : List Piece) (docks : List DockValue) (state : AreOpen h pieces (drop n files) numbers left docks) where
  abbrev Numbers : ℕ → Type 0
  Numbers = Contains (file_numbers (placing_of h))

  abbrev own : List ℕ
  own = map (λ d. d.file) docks

  abbrev window : List ℕ
  window = take (length docks + length numbers) (drop n files)

  -- its files are files of the dataset, and differ
  pub window_among : All Numbers (own ++ numbers)
  window_among =
      All-permutation Numbers window (own ++ numbers) state.whole
      (All-take Numbers (length docks + length numbers) (drop n files) (All-drop Numbers n files
      (All-same Numbers files (file_numbers (placing_of h)) opening.files_are (All-contains_itself (file_numbers (placing_of h))))))

  all_apart : AllPairs Differ files
  all_apart = subst (AllPairs Differ) (sym opening.files_are) (numbers_apart (placing_of h))

  pub window_apart : AllPairs Differ (own ++ numbers)
  window_apart =
      moved_apart window (own ++ numbers) state.whole
      (pairs_take Differ (length docks + length numbers) (drop n files) (pairs_drop Differ n files all_apart))

  -- of those before and of the window too
  pub before_apart : All (λ file. All (Differ file) (own ++ numbers)) (take n files)
  before_apart = λ k d within.
      All-permutation (Differ (get_or (take n files) k d)) window (own ++ numbers) state.whole
      (All-take (Differ (get_or (take n files) k d)) (length docks + length numbers) (drop n files)
      (pairs_across Differ (take n files) (drop n files) (subst (AllPairs Differ) (sym (take-append-drop n files)) all_apart) k d within))

  pub docks_among : All (λ (d : DockValue). Numbers d.file) docks
  docks_among = All-of_map Numbers (λ (d : DockValue). d.file) docks (All-front Numbers own numbers window_among)

  pub docks_apart : AllPairs (λ (one other : DockValue). one.file ≢ other.file) docks
  docks_apart = pairs_of_map Differ (λ (d : DockValue). d.file) docks (pairs_front Differ own numbers window_apart)

  module _ (batch behind : List Piece) (split : batch ++ behind ≡ left) where
    parts_apart : AllPairs Apart (batch ++ behind)
    parts_apart = subst (AllPairs Apart) (sym split) state.apart

    parts_among : All (Contains pieces) (batch ++ behind)
    parts_among = All-same (Contains pieces) (batch ++ behind) left split state.among

    flags : (d : DockValue) → HasAllBut left d → All (λ a. is_some a.runs ≡ not (has_id batch a.piece || has_id behind a.piece)) d.awaited
    flags d has = λ k a within.
        has k a within ∙ ap (λ (ps : List Piece). not (has_id ps (get_or d.awaited k a).piece)) (sym split) ∙ ap not (either_id batch behind (get_or d.awaited k a).piece)

    -- the docks are ready for the batch
    pub ready_for : AreReady h batch docks
    ready_for = record {
      division = pieces;
      is = division_of h step ranks room pieces files paths opening;
      among = All-front (Contains pieces) batch behind parts_among;
      apart = pairs_front Apart batch behind parts_apart;
      each = λ k d within. (
          let one : IsDockOf h pieces (get_or docks k d) = state.docks_are k d within in
          record {
            header = one.header;
            file = docks_among k d within;
            awaited = one.awaited;
            none = λ i a inside due.
                none_is (get_or (get_or docks k d).awaited i a).runs (flags (get_or docks k d) (state.delivered k d within) i a inside
                ∙ ap (λ b. not (b || has_id behind (get_or (get_or docks k d).awaited i a).piece)) due);
          });
      files = docks_apart;
    }

    has_more : (loads : List Load) → pieces_in loads ≡ batch → (x y : DockValue) → HasAllBut left x → Gains h loads x y → HasAllBut behind y
    has_more loads same x y has gains =
        flags_left (has_id batch) (has_id behind) x.awaited y.awaited (apart_back batch behind parts_apart) gains.awaited
        (gains.delivered ∙ ap (λ (ps : List Piece). map (λ a. is_some a.runs || has_id ps a.piece) x.awaited) same) (flags x has)

    dock_still : (loads : List Load) (x y : DockValue) → IsDockOf h pieces x → Gains h loads x y → IsDockOf h pieces y
    dock_still loads x y is gains = record {
      header = gains.header ∙ is.header;
      awaited = gains.awaited ∙ is.awaited ∙ ap (λ file. map awaited_of (reaching h file pieces)) (sym gains.file);
    }

    -- once it was shipped, the others are left
    pub open_shipped : (loads : List Load) (new : List DockValue) → pieces_in loads ≡ batch → Gain h loads docks new → AreOpen h pieces (drop n files) numbers behind new
    open_shipped loads new same gain =
        let same_files : map (λ (d : DockValue). d.file) new ≡ own = map_zip (λ (d : DockValue). d.file) (Gains h loads) (λ x y gains. gains.file) docks new gain in
        let many : length new ≡ length docks =
        sym (length-map new (λ (d : DockValue). d.file)) ∙ ap length same_files ∙ length-map docks (λ (d : DockValue). d.file) in
        record {
          docks_are = All-zip (IsDockOf h pieces) (IsDockOf h pieces) (Gains h loads) (dock_still loads) docks new state.docks_are gain;
          among = All-back (Contains pieces) batch behind parts_among;
          apart = pairs_back Apart batch behind parts_apart;
          delivered = All-zip (HasAllBut left) (HasAllBut behind) (Gains h loads) (has_more loads same) docks new state.delivered gain;
          whole = subst (λ (k : ℕ). IsPermutation (take (k + length numbers) (drop n files)) (map (λ (d : DockValue). d.file) new ++ numbers)) (sym many)
              (subst (λ (fs : List ℕ). IsPermutation window (fs ++ numbers)) (sym same_files) state.whole);
        }

  -- ---- sealing

  -- the files of the full docks go behind those that are sealed
  pub open_sealed : (docks' : List DockValue) (numbers' : List ℕ) → docks' ≡ other_docks docks → numbers' ≡ numbers ++ map (λ (d : DockValue). d.file) (full_docks docks) →
      AreOpen h pieces (drop n files) numbers' left docks'
  open_sealed docks' numbers' rest_is more_is =
      let file : DockValue → ℕ = λ d. d.file in
      let full : List DockValue = full_docks docks in
      let others : List DockValue = other_docks docks in
      let split : IsPermutation docks (full ++ others) = IsPermutation-filter_both is_full (λ d. not (is_full d)) (λ d. refl) docks in
      let turned : IsPermutation docks (others ++ full) = IsPermutation-trans docks (full ++ others) (others ++ full) split (IsPermutation-append_comm full others) in
      let mapped : IsPermutation own (map file others ++ map file full) =
      subst (IsPermutation own) (map-append file others full) (IsPermutation-map file docks (others ++ full) turned) in
      let first : IsPermutation (own ++ numbers) ((map file others ++ map file full) ++ numbers) =
      IsPermutation-append_left numbers own (map file others ++ map file full) mapped in
      let second : IsPermutation (map file others ++ (map file full ++ numbers)) (map file others ++ (numbers ++ map file full)) =
      IsPermutation-append_right (map file others) (map file full ++ numbers) (numbers ++ map file full) (IsPermutation-append_comm (map file full) numbers) in
      let both : IsPermutation (own ++ numbers) (map file others ++ (numbers ++ map file full)) =
      IsPermutation-trans (own ++ numbers) (map file others ++ (map file full ++ numbers)) (map file others ++ (numbers ++ map file full))
      (subst (IsPermutation (own ++ numbers)) (append_assoc (map file others) (map file full) numbers) first) second in
      let many : length others + length (numbers ++ map file full) ≡ length docks + length numbers =
      omega (arith, length_permutation docks (full ++ others) split, length-append full others, length-append numbers (map file full), length-map full file) in
      let whole : IsPermutation (take (length others + length (numbers ++ map file full)) (drop n files)) (map file others ++ (numbers ++ map file full)) =
      subst (λ (k : ℕ). IsPermutation (take k (drop n files)) (map file others ++ (numbers ++ map file full))) (sym many)
      (IsPermutation-trans window (own ++ numbers) (map file others ++ (numbers ++ map file full)) state.whole both) in
      subst (λ (ds : List DockValue). AreOpen h pieces (drop n files) numbers' left ds) (sym rest_is)
      (subst (λ (ns : List ℕ). AreOpen h pieces (drop n files) ns left others) (sym more_is) (record {
        docks_are = All-filter (λ d. not (is_full d)) (IsDockOf h pieces) docks state.docks_are;
        among = state.among;
        apart = state.apart;
        delivered = All-filter (λ d. not (is_full d)) (HasAllBut left) docks state.delivered;
        whole = whole;
      }))

  -- where no piece is left, no dock is
  pub none_open : left ≡ [] → other_docks docks ≡ []
  none_open none = all_gone docks (all_full docks (subst (λ (ps : List Piece). All (HasAllBut ps) docks) none state.delivered))
    where
      all_gone : (ds : List DockValue) → AreFull ds → other_docks ds ≡ []
      all_gone [] full = refl
      all_gone (d ∷ ds) full =
          ap (λ (o : Option ℕ). if not (not (is_some o)) then d ∷ other_docks ds else other_docks ds) (All-head (λ (e : DockValue). missing e ≡ None) d ds full)
          ∙ all_gone ds (All-tail (λ (e : DockValue). missing e ≡ None) d ds full)

-- nothing is missing in a full dock
pub full_are : (docks : List DockValue) → AreFull (full_docks docks)
full_are docks = λ k d within. none_of (missing (get_or (full_docks docks) k d)) (filter_passes is_full docks k d within)
  where
    none_of : (o : Option ℕ) → not (is_some o) ≡ true → o ≡ None
    none_of None passes = refl
    none_of (Some piece) passes = let wrong : false ≡ true = passes in absurd (cc)

-- what holds of each element of a list holds of those that it has
pub all_among : {X : Type 0} (P : X → Type 0) (all some : List X) → All (Contains all) some → All P all → All P some
all_among P all some among every = λ k d within. All-contains P all (get_or some k d) every (among k d within)

-- full docks and the others are all
pub parts_count : (docks : List DockValue) → length (full_docks docks) + length (other_docks docks) ≡ length docks
parts_count docks =
    let split : IsPermutation docks (full_docks docks ++ other_docks docks) = IsPermutation-filter_both is_full (λ d. not (is_full d)) (λ d. refl) docks in
    omega (arith, length_permutation docks (full_docks docks ++ other_docks docks) split, length-append (full_docks docks) (other_docks docks))

-- the same of what equals these
pub open_moved : (h g : HeaderValue) (pieces ps : List Piece) (rest rs : List ℕ) (numbers ns : List ℕ) (left ls : List Piece) (docks : List DockValue) → h ≡ g → pieces ≡ ps → rest ≡ rs → numbers ≡ ns → left ≡ ls →
    AreOpen h pieces rest numbers left docks → AreOpen g ps rs ns ls docks
open_moved h g pieces ps rest rs numbers ns left ls docks hg pp rr nn ll are =
    subst (λ (x : List Piece). AreOpen g ps rs ns x docks) ll
    (subst (λ (x : List ℕ). AreOpen g ps rs x left docks) nn
    (subst (λ (x : List ℕ). AreOpen g ps x numbers left docks) rr
    (subst (λ (x : List Piece). AreOpen g x rest numbers left docks) pp
    (subst (λ (x : HeaderValue). AreOpen x pieces rest numbers left docks) hg are))))

-- a turn leaves fewer pieces, or fewer docks where none is left
pub fewer_left : (left next last : List Piece) (docks delivered others : List DockValue) → (length next < length left) ⊎ (next ≡ []) → last ≡ next → others ≡ other_docks delivered →
    length delivered ≡ length docks → (next ≡ [] → other_docks delivered ≡ []) → 0 < length docks → length last + length others < length left + length docks
fewer_left left next last docks delivered others moves same is many none some = by_cases moves
  where
    by_cases : (length next < length left) ⊎ (next ≡ []) → length last + length others < length left + length docks
    by_cases (inl less) =
        omega (arith, less, ap (λ (xs : List Piece). length xs) same, ap (λ (xs : List DockValue). length xs) is, parts_count delivered, many)
    by_cases (inr gone) =
        omega (arith, some, ap (λ (xs : List Piece). length xs) (same ∙ gone), ap (λ (xs : List DockValue). length xs) (is ∙ none gone))

-- each file of the window has a dock or is sealed
pub kept_count : {L : Type 0} (old new : List (ℕ × (List ℕ × L))) (docks delivered others : List DockValue) (all : ℕ) →
    map (λ entry. entry.0) new ≡ map (λ entry. entry.0) old ++ map (λ (d : DockValue). d.file) (full_docks delivered) → others ≡ other_docks delivered → length delivered ≡ length docks →
    length docks + length old ≡ all → length others + length new ≡ all
kept_count {L} old new docks delivered others all numbers is many before =
    let first : ℕ × (List ℕ × L) → ℕ = λ entry. entry.0 in
    let file : DockValue → ℕ = λ d. d.file in
    omega (
      arith,
      before,
      many,
      parts_count delivered,
      ap (λ (xs : List DockValue). length xs) is,
      ap (λ (ns : List ℕ). length ns) numbers,
      length-map new first,
      length-map old first,
      length-map (full_docks delivered) file,
      length-append (map first old) (map file (full_docks delivered)),
    )

-- ---- the next window

-- what is behind the files that are sealed, as a slice
pub rest_is : (xs files : List ℕ) (n done : ℕ) → xs ≡ files → n ≡ done → take (length xs - n) (drop n xs) ≡ drop done files
rest_is xs files n done same at = left_is xs n ∙ ap (drop n) same ∙ ap (λ k. drop k files) at

pub rest_among : (h : HeaderValue) (files : List ℕ) (done many : ℕ) → files ≡ file_numbers (placing_of h) → All (Contains (file_numbers (placing_of h))) (take many (drop done files))
rest_among h files done many is =
    All-take (Contains (file_numbers (placing_of h))) many (drop done files) (All-drop (Contains (file_numbers (placing_of h))) done files
    (All-same (Contains (file_numbers (placing_of h))) files (file_numbers (placing_of h)) is (All-contains_itself (file_numbers (placing_of h)))))

module _ (h : HeaderValue) (room : ℕ) (pieces : List Piece) (slice rest : List ℕ) (slice_is : slice ≡ rest) (some : 0 < length rest) where
  -- the window of all files
  pub whole_window : (docks : List DockValue) (left : List Piece) → docks ≡ map (new_dock h pieces) slice → left ≡ wanted h slice pieces → OpenAtMost h (2 ^ 30) left docks →
      (count : ℕ) × (0 < count) × IsNextWindow h room pieces rest count docks left
  whole_window docks left made chosen few =
      let all : slice ≡ take (length rest) rest = slice_is ∙ sym (take_all (length rest) rest (omega arith)) in (
        length rest,
        some,
        record { docks_are = made ∙ ap (map (new_dock h pieces)) all; left_are = chosen ∙ ap (λ files. wanted h files pieces) all; few = inl few },
      )

  -- the window of as many as fit
  pub fit_window : (count : ℕ) → count ≡ run_count (length_of_file (placing_of h)) room slice → (docks : List DockValue) (left : List Piece) → docks ≡ map (new_dock h pieces) (take count slice) →
      left ≡ wanted h (take count slice) pieces → (many : ℕ) × (0 < many) × IsNextWindow h room pieces rest many docks left
  fit_window count is docks left made chosen =
      let own : count ≡ run_count (length_of_file (placing_of h)) room rest = is ∙ ap (run_count (length_of_file (placing_of h)) room) slice_is in
      let files : take count slice ≡ take count rest = ap (take count) slice_is in (
        count,
        omega (arith, own, run_some (length_of_file (placing_of h)) room rest some),
        record {
          docks_are = made ∙ ap (map (new_dock h pieces)) files;
          left_are = chosen ∙ ap (λ fs. wanted h fs pieces) files;
          few = inr (ap (λ k. take k rest) own);
        },
      )

pub both_ok : {T E : Type 0} (r : Result T E) (P Q R : T → Type 0) → IfOk r P → IfOk r Q → ((x : T) → P x → Q x → R x) → IfOk r R
both_ok (Ok x) P Q R p q both = both x p q
both_ok (Err e) P Q R p q both = tt
