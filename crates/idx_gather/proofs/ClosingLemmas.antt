-- The sealed files of a window in the order of their numbers are the next files of the step.
use Rattle.std.proofs.Common.{◌≡◌, ◌≢◌, ℕ, zero, suc, ◌+◌, ◌<◌, ◌≤◌, List, [], ◌∷◌, ◌++◌, length, get_or, map, take, drop, refl, sym, ap, ◌∙◌, subst, arith, length-append, Option}
use Rattle.std.specs.Prelude.{All, AllPairs, Contains}
use Rattle.std.specs.List.{AllZip, range_with_len}
use Rattle.std.specs.List.Sorted.{IsNonDecreasingBy, IsPermutation}
use Rattle.std.proofs.lemmas.List.{get_or-map, length-drop, length-map, map-append}
use Rattle.std.proofs.lemmas.List.Elements.{All-append, All-contains_itself, All-cons, All-head, All-nil, All-tail}
use Rattle.std.proofs.lemmas.List.Kept.{AllPairs-cons, AllPairs-filter}
use Rattle.std.proofs.lemmas.List.Sorted.{All-permutation, IsPermutation-map, IsPermutation-sym, IsPermutation-trans, length_permutation}
use Rattle.std.proofs.lemmas.Map.Made.{Contains-tail}
use Rattle.idx_outside.specs.Files.{AllNamed, IsNamed, entry_shown, known_files, known_with, shown}
use Rattle.idx_outside.specs.declared.mem_file.MemFile.{MemFile}
use Rattle.idx_header.specs.Header.{HeaderValue}
use Rattle.idx_header.specs.Names.{file_name}
use Rattle.idx_rowmajor.specs.declared.layout.Layout.{Layout}
use Rattle.idx_layout.specs.OfHeader.{placing_of}
use Rattle.idx_layout.specs.Placing.{block_count, file_numbers}
use Rattle.idx_layout.specs.Step.{step_file}
use Rattle.idx_pieces.specs.declared.piece.Piece.{Piece}
use Rattle.idx_gather.specs.States.{AreFilesSoFar, AreFirstFiles, IsOpening, TellsFile}
use Rattle.idx_gather.specs.Streams.{AreOpen, AreSealed, IsFileOf, numbered}
use Rattle.idx_gather.proofs.PairLemmas.{All-of_map, pairs_drop, pairs_head, pairs_tail, pairs_take}
use Rattle.idx_gather.proofs.SealLemmas.{take_more}
use Rattle.idx_gather.proofs.StreamLemmas.{Differ, moved_apart, window_apart}
use Rattle.idx_gather.proofs.ToldLemmas.{paths_told, told_known}

abbrev Below : ℕ → ℕ → Type 0
Below x y = x < y

-- ---- rising numbers

range_above : (n low x : ℕ) → x < low → All (Below x) (range_with_len low n)
range_above zero low x less = All-nil (Below x)
range_above (suc n) low x less = All-cons (Below x) low (range_with_len (low + 1) n) less (range_above n (low + 1) x (omega arith))

range_rises : (n low : ℕ) → AllPairs Below (range_with_len low n)
range_rises zero low = λ i j d less within. absurd (omega arith)
range_rises (suc n) low = AllPairs-cons Below low (range_with_len (low + 1) n) (range_above n (low + 1) low (omega arith)) (range_rises n (low + 1))

-- the numbers of files rise
numbers_rise : (h : HeaderValue) → AllPairs Below (file_numbers (placing_of h))
numbers_rise h = AllPairs-filter Below _ (range_with_len 0 (block_count (placing_of h))) (range_rises (block_count (placing_of h)) 0)

-- numbers that do not fall and differ rise
rise_from : (xs : List ℕ) → IsNonDecreasingBy (λ x. x) xs → AllPairs Differ xs → AllPairs Below xs
rise_from xs level apart = λ i j d less within.
    let most : get_or xs i d ≤ get_or xs j d = level i j d (omega arith) within in
    let other : get_or xs i d ≢ get_or xs j d = apart i j d less within in
    by_cases (get_or xs i d) (get_or xs j d) most other
  where
    by_cases : (a b : ℕ) → a ≤ b → a ≢ b → a < b
    by_cases a b most other = omega (arith, most, other)

-- rising numbers are determined by which they are
one_order : (xs ys : List ℕ) → AllPairs Below xs → AllPairs Below ys → All (Contains ys) xs → All (Contains xs) ys → xs ≡ ys
one_order [] [] rise rise' in_ys in_xs = refl
one_order [] (y ∷ ys) rise rise' in_ys in_xs = absurd (no_element (All-head (Contains []) y ys in_xs))
  where
    no_element : Contains [] y → ⊥
    no_element has = omega (arith, has.1)
one_order (x ∷ xs) [] rise rise' in_ys in_xs = absurd (no_element (All-head (Contains []) x xs in_ys))
  where
    no_element : Contains [] x → ⊥
    no_element has = omega (arith, has.1)
one_order (x ∷ xs) (y ∷ ys) rise rise' in_ys in_xs =
    let low : y ≤ x = first_least y ys x (pairs_head Below y ys rise') (All-head (Contains (y ∷ ys)) x xs in_ys) in
    let high : x ≤ y = first_least x xs y (pairs_head Below x xs rise) (All-head (Contains (x ∷ xs)) y ys in_xs) in
    let same : x ≡ y = omega (arith, low, high) in
    let rest : xs ≡ ys =
    one_order xs ys (pairs_tail Below x xs rise) (pairs_tail Below y ys rise')
    (λ k d within. Contains-tail y ys (get_or xs k d)
    (λ e. omega (arith, e, same, pairs_head Below x xs rise k d within)) (All-tail (Contains (y ∷ ys)) x xs in_ys k d within))
    (λ k d within. Contains-tail x xs (get_or ys k d)
    (λ e. omega (arith, e, same, pairs_head Below y ys rise' k d within)) (All-tail (Contains (x ∷ xs)) y ys in_xs k d within)) in
    ap (λ z. z ∷ xs) same ∙ ap (λ zs. y ∷ zs) rest
  where
    first_least : (a : ℕ) (others : List ℕ) (b : ℕ) → All (Below a) others → Contains (a ∷ others) b → a ≤ b
    first_least a others b above (zero, inside, same) = omega (arith, same)
    first_least a others b above (suc k, inside, same) =
        let less : a < get_or others k b = above k b (omega (arith, inside)) in
        omega (arith, less, same)

-- ---- the window

module _ {L : Type 0} (layout : Layout) (contents : L → Option (List ℕ)) (h : HeaderValue) (step ranks room : ℕ) (pieces : List Piece) (files : List ℕ) (leaves : List (List ℕ × L))
    (opening : IsOpening h step ranks room pieces files (map (λ leaf. leaf.0) leaves)) (sealed sorted : List (ℕ × (List ℕ × L))) (left : List Piece)
    (state : AreOpen h pieces (drop (length leaves) files) (map (λ entry. entry.0) sealed) left [])
    (moved : IsPermutation sealed sorted) (rising : IsNonDecreasingBy (λ entry. entry.0) sorted) where
  abbrev number : ℕ × (List ℕ × L) → ℕ
  number entry = entry.0

  abbrev leaf_of : ℕ × (List ℕ × L) → List ℕ × L
  leaf_of entry = entry.1

  abbrev n : ℕ
  n = length leaves

  abbrev numbers : List ℕ
  numbers = map number sorted

  abbrev window : List ℕ
  window = take (length sealed) (drop n files)

  abbrev more : List (List ℕ × L)
  more = map leaf_of sorted

  window_moved : IsPermutation window numbers
  window_moved =
      IsPermutation-trans window (map number sealed) numbers
      (subst (λ (k : ℕ). IsPermutation (take k (drop n files)) (map number sealed)) (omega (arith, length-map sealed number)) state.whole)
      (IsPermutation-map number sealed sorted moved)

  numbers_apart : AllPairs Differ (map number sealed)
  numbers_apart = window_apart h step ranks room pieces files (map (λ leaf. leaf.0) leaves) opening n (map number sealed) left [] state

  level : IsNonDecreasingBy (λ x. x) numbers
  level = by_some sorted rising
    where
      by_some : (es : List (ℕ × (List ℕ × L))) → IsNonDecreasingBy number es → IsNonDecreasingBy (λ x. x) (map number es)
      by_some [] up = λ i j d less within. absurd (omega arith)
      by_some (e ∷ es) up = λ i j d less within.
          let inside : j < length (e ∷ es) = omega (arith, within, length-map (e ∷ es) number) in
          let before : i < length (e ∷ es) = omega arith in
          let first : get_or (map number (e ∷ es)) i d ≡ number (get_or (e ∷ es) i e) = get_or-map number (e ∷ es) i e d before in
          let last : get_or (map number (e ∷ es)) j d ≡ number (get_or (e ∷ es) j e) = get_or-map number (e ∷ es) j e d inside in
          omega (arith, first, last, up i j e less inside)

  numbers_are : numbers ≡ window
  numbers_are =
      sym (one_order window numbers
      (pairs_take Below (length sealed) (drop n files) (pairs_drop Below n files (subst (AllPairs Below) (sym opening.files_are) (numbers_rise h))))
      (rise_from numbers level (moved_apart (map number sealed) numbers (IsPermutation-map number sealed sorted moved) numbers_apart))
      (All-permutation (Contains numbers) numbers window (IsPermutation-sym window numbers window_moved) (All-contains_itself numbers))
      (All-permutation (Contains window) window numbers window_moved (All-contains_itself window)))

  many : length sorted ≡ length sealed
  many = length_permutation sealed sorted moved

  many_more : length more ≡ length sealed
  many_more = length-map sorted leaf_of ∙ many

  within : n + length sealed ≤ length files
  within =
      let all : length window ≡ length sealed = sym (ap length numbers_are) ∙ length-map sorted number ∙ many in
      let before : n ≤ length files = omega (arith, opening.few, length-map leaves (λ (leaf : List ℕ × L). leaf.0)) in
      omega (arith, all, before, take_short (length sealed) (drop n files), length-drop n files)
    where
      take_short : (m : ℕ) (xs : List ℕ) → length (take m xs) ≤ length xs
      take_short zero xs = omega arith
      take_short (suc m) [] = omega arith
      take_short (suc m) (x ∷ xs) = omega (arith, take_short m xs)

  whole_count : length (leaves ++ more) ≡ n + length sealed
  whole_count = length-append leaves more ∙ ap (λ k. n + k) many_more

  whole_numbers : take n files ++ numbers ≡ take (length (shown contents (leaves ++ more))) files
  whole_numbers =
      ap (λ ns. take n files ++ ns) numbers_are ∙ take_more n (length sealed) files (omega (arith, within))
      ∙ ap (λ k. take k files) (sym whole_count ∙ sym (length-map (leaves ++ more) (entry_shown contents)))

  shown_more : (known : Option (List MemFile)) (v : List (List (List ℕ))) (es : List (ℕ × (List ℕ × L))) →
      All (λ e. entry_shown contents e.1 ≡ entry_shown (known_with known) (step_file layout h v step e.0)) es →
      map (entry_shown contents) (map leaf_of es) ≡ known_files known (map (step_file layout h v step) (map number es))
  shown_more known v [] all = refl
  shown_more known v (e ∷ es) all =
      ap (λ x. x ∷ map (entry_shown contents) (map leaf_of es)) (All-head (λ e. entry_shown contents e.1 ≡ entry_shown (known_with known) (step_file layout h v step e.0)) e es all)
      ∙ ap (λ xs. entry_shown (known_with known) (step_file layout h v step e.0) ∷ xs)
      (shown_more known v es (All-tail (λ e. entry_shown contents e.1 ≡ entry_shown (known_with known) (step_file layout h v step e.0)) e es all))

  -- the files so far are the first ones
  pub first_closed : (known : Option (List MemFile)) (told : Option (List ℕ)) → AreSealed layout h step known told files (shown contents leaves) (numbered contents sealed) →
      AreFirstFiles layout h step known told files (shown contents (leaves ++ more))
  first_closed known told are =
      let v : List (List (List ℕ)) = are.volume in
      let sf : ℕ → List ℕ × List ℕ = step_file layout h v step in
      let given : All (λ e. entry_shown contents e.1 ≡ entry_shown (known_with known) (step_file layout h v step e.0)) sealed =
      All-of_map (IsFileOf layout h v step known) (λ (entry : ℕ × (List ℕ × L)). (entry.0, entry_shown contents entry.1)) sealed are.others_are in
      let here : All (λ e. entry_shown contents e.1 ≡ entry_shown (known_with known) (step_file layout h v step e.0)) sorted =
      All-permutation (λ e. entry_shown contents e.1 ≡ entry_shown (known_with known) (step_file layout h v step e.0)) sealed sorted moved given in
      record {
        volume = v;
        is = are.is;
        told_is = are.told_is;
        same =
            map-append (entry_shown contents) leaves more
            ∙ ap (λ xs. xs ++ map (entry_shown contents) more) (are.first_are ∙ ap (λ k. known_files known (map sf (take k files))) (length-map leaves (entry_shown contents)))
            ∙ ap (λ xs. known_files known (map sf (take n files)) ++ xs) (shown_more known v sorted here)
            ∙ sym (map-append (entry_shown (known_with known)) (map sf (take n files)) (map sf numbers))
            ∙ ap (known_files known) (sym (map-append sf (take n files) numbers) ∙ ap (map sf) whole_numbers);
      }

  so_far : (known : Option (List MemFile)) (told : Option (List ℕ)) → AreFirstFiles layout h step known told files (shown contents (leaves ++ more)) → AreFilesSoFar layout h step files (shown contents (leaves ++ more))
  so_far known told first =
      record {
        volume = first.volume;
        is = first.is;
        tell = subst (λ (xs : List (List ℕ × Option (List ℕ))). AllZip TellsFile xs (map (step_file layout h first.volume step) (take (length (shown contents (leaves ++ more))) files))) (sym first.same)
            (told_known known (map (step_file layout h first.volume step) (take (length (shown contents (leaves ++ more))) files)));
      }

  firsts : (xs : List (List ℕ × L)) → map (λ (entry : List ℕ × Option (List ℕ)). entry.0) (shown contents xs) ≡ map (λ leaf. leaf.0) xs
  firsts [] = refl
  firsts (x ∷ xs) = ap (λ ps. x.0 ∷ ps) (firsts xs)

  module _ (known : Option (List MemFile)) (told : Option (List ℕ)) (are : AreSealed layout h step known told files (shown contents leaves) (numbered contents sealed)) where
    pub so_far_closed : AreFilesSoFar layout h step files (shown contents (leaves ++ more))
    so_far_closed = so_far known told (first_closed known told are)

    pub opening_closed : IsOpening h step ranks room pieces files (map (λ leaf. leaf.0) (leaves ++ more))
    opening_closed =
        let all : AreFilesSoFar layout h step files (shown contents (leaves ++ more)) = so_far_closed in
        let count : length (map (λ (leaf : List ℕ × L). leaf.0) (leaves ++ more)) ≡ n + length sealed = length-map (leaves ++ more) (λ (leaf : List ℕ × L). leaf.0) ∙ whole_count in
        record {
          some_rank = opening.some_rank;
          few_ranks = opening.few_ranks;
          some_room = opening.some_room;
          pieces_are = opening.pieces_are;
          files_are = opening.files_are;
          few = omega (arith, count, within);
          paths_are =
              sym (firsts (leaves ++ more))
              ∙ paths_told layout h step all.volume (shown contents (leaves ++ more)) (take (length (shown contents (leaves ++ more))) files) all.tell
              ∙ ap (λ k. map (file_name h step) (take k files)) (length-map (leaves ++ more) (entry_shown contents) ∙ whole_count ∙ sym count);
        }

  -- some file is sealed more
  pub more_closed : 0 < length sealed → length leaves < length (leaves ++ more)
  more_closed some = omega (arith, some, whole_count)

  -- and each leaf that tells its path is under it
  pub named_closed : (path : L → Option (List ℕ)) → AllNamed path leaves → AllNamed path (map leaf_of sealed) → AllNamed path (leaves ++ more)
  named_closed path first others =
      All-append (IsNamed path) leaves more first
      (All-permutation (IsNamed path) (map leaf_of sealed) more (IsPermutation-map leaf_of sealed sorted moved) others)
