-- Files that are sealed as they come are those of one volume.
use Rattle.std.proofs.Common.{◌≡◌, ◌≢◌, ℕ, List, [], ◌∷◌, ◌++◌, length, get_or, map, take, drop, not, refl, sym, ap, ◌∙◌, subst, arith, Option, Some}
use Rattle.std.specs.Prelude.{All, AllPairs, Contains}
use Rattle.std.specs.List.{zip}
use Rattle.std.proofs.lemmas.List.{length-map, map-append}
use Rattle.std.proofs.lemmas.List.Elements.{All-append, All-contains_itself, All-filter, All-map, All-nil, All-same, All-take, All-weaker}
use Rattle.std.proofs.lemmas.List.Kept.{AllPairs-filter}
use Rattle.idx_outside.specs.Files.{AllNamed, IsNamed, entry_shown, known_files, known_with, shown}
use Rattle.idx_outside.specs.declared.mem_file.MemFile.{MemFile}
use Rattle.idx_header.specs.Header.{HeaderValue}
use Rattle.idx_header.specs.Names.{file_name}
use Rattle.idx_rowmajor.specs.declared.layout.Layout.{Layout}
use Rattle.idx_layout.specs.OfHeader.{placing_of}
use Rattle.idx_layout.specs.Placing.{file_numbers}
use Rattle.idx_layout.specs.Step.{step_file}
use Rattle.idx_pieces.specs.Runs.{HasSamples}
use Rattle.idx_pieces.specs.Samples.{raw_sample}
use Rattle.idx_pieces.specs.declared.piece.Piece.{Piece}
use Rattle.idx_dock.specs.Content.{runs_in}
use Rattle.idx_dock.specs.Dock.{DockValue, IsDock}
use Rattle.idx_seal.specs.Files.{dock_file}
use Rattle.idx_gather.specs.States.{AreFirstFiles, HaveSamples, IsDockOf, IsOpening}
use Rattle.idx_gather.specs.Streams.{AreOpen, AreSealed, IsFileOf, dock_entry, full_docks, is_full, numbered, other_docks}
use Rattle.idx_gather.proofs.FirstLemmas.{grown, maps_agree, pairs_across}
use Rattle.idx_gather.proofs.PairLemmas.{All-back, All-front, All-of_map}
use Rattle.idx_gather.proofs.StreamLemmas.{Differ, before_apart, docks_among, docks_apart, full_are, open_moved, window_among, window_apart}

-- before a window its sealed files are none
pub sealed_none : (layout : Layout) (h : HeaderValue) (step : ℕ) (known : Option (List MemFile)) (told : Option (List ℕ)) (files : List ℕ) (first : List (List ℕ × Option (List ℕ))) →
    AreFirstFiles layout h step known told files first → AreSealed layout h step known told files first []
sealed_none layout h step known told files first are =
    record { volume = are.volume; is = are.is; told_is = are.told_is; first_are = are.same; others_are = All-nil (IsFileOf layout h are.volume step known) }

-- what differs from each of some files, each of them differs from
turned_round : (xs ys : List ℕ) → All (λ x. All (Differ x) ys) xs → All (λ y. All (Differ y) xs) ys
turned_round xs ys all = λ k d within i e inside same. all i e inside k d within (sym same)

module _ (layout : Layout) (h : HeaderValue) (step ranks room : ℕ) (pieces : List Piece) (files : List ℕ) (paths : List (List ℕ)) (opening : IsOpening h step ranks room pieces files paths)
    (known : Option (List MemFile)) (told : Option (List ℕ)) (first : List (List ℕ × Option (List ℕ))) (entries : List (ℕ × (List ℕ × Option (List ℕ))))
    (left : List Piece) (docks : List DockValue)
    (state : AreOpen h pieces (drop (length first) files) (map (λ e. e.0) entries) left docks) where
  abbrev number : ℕ × (List ℕ × Option (List ℕ)) → ℕ
  number e = e.0

  abbrev numbers : List ℕ
  numbers = map number entries

  abbrev own : List ℕ
  own = map (λ (d : DockValue). d.file) docks

  abbrev full : List DockValue
  full = full_docks docks

  -- a file that differs from those of all docks differs from those of the full ones
  from_full : (file : ℕ) → All (Differ file) own → All (λ (d : DockValue). file ≢ d.file) full
  from_full file all = All-filter is_full (λ (d : DockValue). file ≢ d.file) docks (All-of_map (Differ file) (λ (d : DockValue). d.file) docks all)

  -- once the full docks are sealed too, all are files of one volume
  pub sealed_more : All IsDock docks → ((raw : List ℕ) → told ≡ Some raw → HaveSamples h (raw_sample h raw) docks) → AreSealed layout h step known told files first entries →
      AreSealed layout h step known told files first (entries ++ map (dock_entry layout h step known) full)
  sealed_more docks_are samples are =
      let n : ℕ = length first in
      let v : List (List (List ℕ)) = are.volume in
      let Numbers : ℕ → Type 0 = Contains (file_numbers (placing_of h)) in
      let among : All Numbers (own ++ numbers) = window_among h step ranks room pieces files paths opening n numbers left docks state in
      let apart : AllPairs Differ (own ++ numbers) = window_apart h step ranks room pieces files paths opening n numbers left docks state in
      let before : All (λ file. All (Differ file) (own ++ numbers)) (take n files) = before_apart h step ranks room pieces files paths opening n numbers left docks state in
      let one = grown told h full v are.told_is are.is (All-filter is_full IsDock docks docks_are)
      (All-filter is_full (λ (d : DockValue). d.header ≡ h) docks (All-weaker (IsDockOf h pieces) (λ d. d.header ≡ h) (λ d of. of.header) docks state.docks_are))
      (All-filter is_full (λ (d : DockValue). Numbers d.file) docks (docks_among h step ranks room pieces files paths opening n numbers left docks state))
      (AllPairs-filter (λ (a b : DockValue). a.file ≢ b.file) is_full docks (docks_apart h step ranks room pieces files paths opening n numbers left docks state))
      (full_are docks)
      (λ raw is. All-filter is_full (λ (d : DockValue). All (HasSamples h (raw_sample h raw)) (runs_in d.awaited)) docks (samples raw is)) in
      let u : List (List (List ℕ)) = one.0 in
      let first_numbers : All Numbers (take n files) =
      All-take Numbers n files (All-same Numbers files (file_numbers (placing_of h)) opening.files_are (All-contains_itself (file_numbers (placing_of h)))) in
      let same_file : (file : ℕ) → Numbers file → All (Differ file) own → step_file layout h u step file ≡ step_file layout h v step file =
      λ file inside other. ap (λ bytes. (file_name h step file, bytes)) (one.1.0.kept file inside (from_full file other) layout) in
      record {
        volume = u;
        is = one.1.0.volume;
        told_is = one.1.1;
        first_are = are.first_are
            ∙ ap (known_files known) (sym (maps_agree (step_file layout h u step) (step_file layout h v step) (take n files)
            (λ k d within. same_file (get_or (take n files) k d) (first_numbers k d within) (All-front (Differ (get_or (take n files) k d)) own numbers (before k d within)))));
        others_are = All-append (IsFileOf layout h u step known) entries (map (dock_entry layout h step known) full)
            (λ k d within.
            let e = get_or entries k d in
            are.others_are k d within ∙ ap (entry_shown (known_with known)) (sym (same_file e.0
            (All-of_map Numbers number entries (All-back Numbers own numbers among) k d within)
            (All-of_map (λ file. All (Differ file) own) number entries (turned_round own numbers (pairs_across Differ own numbers apart)) k d within))))
            (All-map (IsFileOf layout h u step known) (dock_entry layout h step known) full
            (λ k d within. ap (λ bytes. entry_shown (known_with known) (file_name h step (get_or full k d).file, bytes)) (one.1.0.own layout k d within)));
      }

-- ---- numbered leaves

module _ {L : Type 0} (layout : Layout) (contents : L → Option (List ℕ)) (h : HeaderValue) (step : ℕ) (known : Option (List MemFile)) where
  zipped : (docks : List DockValue) (leaves : List (List ℕ × L)) → shown contents leaves ≡ known_files known (map (dock_file layout h step) docks) →
      numbered contents (zip (map (λ (d : DockValue). d.file) docks) leaves) ≡ map (dock_entry layout h step known) docks
  zipped [] leaves same = refl
  zipped (d ∷ docks) [] same = let wrong : ◌≡◌ {A = List (List ℕ × Option (List ℕ))} [] (entry_shown (known_with known) (dock_file layout h step d) ∷ known_files known (map (dock_file layout h step) docks)) = same in absurd (cc)
  zipped (d ∷ docks) (leaf ∷ leaves) same =
      let first : entry_shown contents leaf ≡ entry_shown (known_with known) (dock_file layout h step d) = cc in
      let rest : shown contents leaves ≡ known_files known (map (dock_file layout h step) docks) = cc in
      ap (λ shown_leaf. (d.file, shown_leaf) ∷ numbered contents (zip (map (λ (e : DockValue). e.file) docks) leaves)) first
      ∙ ap (λ entries. dock_entry layout h step known d ∷ entries) (zipped docks leaves rest)

  -- leaves of docks behind others, each with its number
  pub numbered_more : (old new : List (ℕ × (List ℕ × L))) (numbers : List ℕ) (leaves : List (List ℕ × L)) (docks : List DockValue) → new ≡ old ++ zip numbers leaves →
      numbers ≡ map (λ (d : DockValue). d.file) docks → shown contents leaves ≡ known_files known (map (dock_file layout h step) docks) →
      numbered contents new ≡ numbered contents old ++ map (dock_entry layout h step known) docks
  numbered_more old new numbers leaves docks is same all =
      ap (numbered contents) (is ∙ ap (λ ns. old ++ zip ns leaves) same)
      ∙ map-append (λ (entry : ℕ × (List ℕ × L)). (entry.0, entry_shown contents entry.1)) old (zip (map (λ (d : DockValue). d.file) docks) leaves)
      ∙ ap (λ entries. numbered contents old ++ entries) (zipped docks leaves all)

  seconds : (numbers : List ℕ) (leaves : List (List ℕ × L)) → length numbers ≡ length leaves → map (λ (entry : ℕ × (List ℕ × L)). entry.1) (zip numbers leaves) ≡ leaves
  seconds [] [] many = refl
  seconds [] (leaf ∷ leaves) many = absurd (omega (arith, many))
  seconds (n ∷ numbers) [] many = absurd (omega (arith, many))
  seconds (n ∷ numbers) (leaf ∷ leaves) many = ap (λ xs. leaf ∷ xs) (seconds numbers leaves (omega (arith, many)))

  -- each of which is under its path
  pub named_more : (path : L → Option (List ℕ)) (old new : List (ℕ × (List ℕ × L))) (numbers : List ℕ) (leaves : List (List ℕ × L)) (docks : List DockValue) → new ≡ old ++ zip numbers leaves →
      numbers ≡ map (λ (d : DockValue). d.file) docks → shown contents leaves ≡ known_files known (map (dock_file layout h step) docks) → AllNamed path leaves →
      AllNamed path (map (λ entry. entry.1) old) → AllNamed path (map (λ entry. entry.1) new)
  named_more path old new numbers leaves docks is same all named before =
      let second : ℕ × (List ℕ × L) → List ℕ × L = λ entry. entry.1 in
      let many : length numbers ≡ length leaves =
      ap length same ∙ length-map docks (λ (d : DockValue). d.file) ∙ sym (length-map docks (dock_file layout h step)) ∙ sym (length-map (map (dock_file layout h step) docks) (entry_shown (known_with known)))
      ∙ sym (ap length all) ∙ length-map leaves (entry_shown contents) in
      All-same (IsNamed path) (map second new) (map second old ++ leaves)
      (ap (map second) is ∙ map-append second old (zip numbers leaves) ∙ ap (λ xs. map second old ++ xs) (seconds numbers leaves many))
      (All-append (IsNamed path) (map second old) leaves before named)

  -- and of these the numbers alone
  pub numbers_more : (old new : List (ℕ × (List ℕ × L))) (full : List DockValue) → numbered contents new ≡ numbered contents old ++ map (dock_entry layout h step known) full →
      map (λ entry. entry.0) new ≡ map (λ entry. entry.0) old ++ map (λ (d : DockValue). d.file) full
  numbers_more old new full same =
      let first : ℕ × (List ℕ × Option (List ℕ)) → ℕ = λ entry. entry.0 in
      sym (numbers_in new) ∙ ap (map first) same ∙ map-append first (numbered contents old) (map (dock_entry layout h step known) full)
      ∙ ap (λ ns. ns ++ map first (map (dock_entry layout h step known) full)) (numbers_in old) ∙ ap (λ ns. map (λ (entry : ℕ × (List ℕ × L)). entry.0) old ++ ns) (files_in full)
    where
      numbers_in : (es : List (ℕ × (List ℕ × L))) → map (λ (entry : ℕ × (List ℕ × Option (List ℕ))). entry.0) (numbered contents es) ≡ map (λ entry. entry.0) es
      numbers_in [] = refl
      numbers_in (e ∷ es) = ap (λ ns. e.0 ∷ ns) (numbers_in es)

      files_in : (ds : List DockValue) → map (λ (entry : ℕ × (List ℕ × Option (List ℕ))). entry.0) (map (dock_entry layout h step known) ds) ≡ map (λ (d : DockValue). d.file) ds
      files_in [] = refl
      files_in (d ∷ ds) = ap (λ ns. d.file ∷ ns) (files_in ds)

-- what was delivered to docks that are not full has the samples that all have
pub others_have : (h : HeaderValue) (sample : ℕ → List ℕ → List ℕ) (docks others : List DockValue) → others ≡ other_docks docks → HaveSamples h sample docks → HaveSamples h sample others
others_have h sample docks others is have =
    All-same (λ (d : DockValue). All (HasSamples h sample) (runs_in d.awaited)) others (other_docks docks) is
    (All-filter (λ d. not (is_full d)) (λ (d : DockValue). All (HasSamples h sample) (runs_in d.awaited)) docks have)

numbers_in : {L : Type 0} (contents : L → Option (List ℕ)) (es : List (ℕ × (List ℕ × L))) → map (λ (entry : ℕ × (List ℕ × Option (List ℕ))). entry.0) (numbered contents es) ≡ map (λ entry. entry.0) es
numbers_in contents [] = refl
numbers_in contents (e ∷ es) = ap (λ ns. e.0 ∷ ns) (numbers_in contents es)

-- a turn: the full docks are sealed
pub sealed_turn : {L : Type 0} (layout : Layout) (contents : L → Option (List ℕ)) (h : HeaderValue) (step ranks room : ℕ) (pieces : List Piece) (files : List ℕ) (leaves : List (List ℕ × L)) →
    IsOpening h step ranks room pieces files (map (λ leaf. leaf.0) leaves) → (known : Option (List MemFile)) (told : Option (List ℕ)) (old : List (ℕ × (List ℕ × L))) (left : List Piece) (docks : List DockValue) →
    AreOpen h pieces (drop (length leaves) files) (map (λ entry. entry.0) old) left docks → All IsDock docks → ((raw : List ℕ) → told ≡ Some raw → HaveSamples h (raw_sample h raw) docks) →
    AreSealed layout h step known told files (shown contents leaves) (numbered contents old) → (entries : List (ℕ × (List ℕ × Option (List ℕ)))) →
    entries ≡ numbered contents old ++ map (dock_entry layout h step known) (full_docks docks) → AreSealed layout h step known told files (shown contents leaves) entries
sealed_turn layout contents h step ranks room pieces files leaves opening known told old left docks state docks_are samples are entries is =
    let first : List (List ℕ × Option (List ℕ)) = shown contents leaves in
    let rest : drop (length leaves) files ≡ drop (length first) files = ap (λ k. drop k files) (sym (length-map leaves (entry_shown contents))) in
    subst (AreSealed layout h step known told files first) (sym is)
    (sealed_more layout h step ranks room pieces files (map (λ leaf. leaf.0) leaves) opening known told first (numbered contents old) left docks
    (open_moved h h pieces pieces (drop (length leaves) files) (drop (length first) files) (map (λ entry. entry.0) old) (map (λ e. e.0) (numbered contents old)) left left docks
    refl refl rest (sym (numbers_in contents old)) refl state) docks_are samples are)

-- the same of what equals these
pub sealed_moved : (layout other : Layout) (h g : HeaderValue) (step s : ℕ) (known : Option (List MemFile)) (told : Option (List ℕ)) (files fs : List ℕ) (first entries : List (List ℕ × Option (List ℕ)))
    (others : List (ℕ × (List ℕ × Option (List ℕ)))) → layout ≡ other → h ≡ g → step ≡ s → files ≡ fs → first ≡ entries → AreSealed layout h step known told files first others →
    AreSealed other g s known told fs entries others
sealed_moved layout other h g step s known told files fs first entries others lo hg ss all same are =
    subst (λ (x : List (List ℕ × Option (List ℕ))). AreSealed other g s known told fs x others) same
    (subst (λ (x : List ℕ). AreSealed other g s known told x first others) all
    (subst (λ (x : ℕ). AreSealed other g x known told files first others) ss
    (subst (λ (x : HeaderValue). AreSealed other x step known told files first others) hg
    (subst (λ (x : Layout). AreSealed x h step known told files first others) lo are))))
