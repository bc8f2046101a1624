-- The files of a window are sealed.
use Rattle.std.proofs.Common.{◌≡◌, ℕ, zero, suc, ◌+◌, ◌-◌, ◌<◌, ◌≤◌, List, [], ◌∷◌, ◌++◌, length, map, take, drop, refl, sym, ap, subst, ◌∙◌, arith}
use Rattle.std.specs.Prelude.{Option}
use Rattle.std.proofs.lemmas.List.{length-append, length-drop, length-map, map-append}
use Rattle.idx_outside.specs.Files.{entry_shown, known_files, shown}
use Rattle.idx_outside.specs.declared.mem_file.MemFile.{MemFile}
use Rattle.idx_header.specs.Header.{HeaderValue}
use Rattle.idx_header.specs.Names.{file_name}
use Rattle.idx_layout.specs.Files.{length_of_file}
use Rattle.idx_layout.specs.OfHeader.{placing_of}
use Rattle.idx_pieces.specs.declared.piece.Piece.{Piece}
use Rattle.idx_dock.specs.Dock.{DockValue}
use Rattle.idx_rowmajor.specs.declared.layout.Layout.{Layout}
use Rattle.idx_seal.specs.Files.{dock_file}
use Rattle.idx_gather.specs.Windows.{run_count}
use Rattle.idx_gather.specs.States.{AreDocks, IsOpening}
use Rattle.idx_gather.proofs.RunLemmas.{run_within}

-- the first ones of a list, of which so many are known
pub take_more : {X : Type 0} (n m : ℕ) (xs : List X) → n ≤ length xs → take n xs ++ take m (drop n xs) ≡ take (n + m) xs
take_more zero m xs within = ap (λ k. take k xs) (omega arith)
take_more (suc n) m [] within = absurd (omega arith)
take_more (suc n) m (x ∷ xs) within =
    let next : suc (n + m) ≡ suc n + m = omega arith in
    ap (λ ys. x ∷ ys) (take_more n m xs (omega (arith, within))) ∙ ap (λ k. take k (x ∷ xs)) next

pub length_take : {X : Type 0} (n : ℕ) (xs : List X) → n ≤ length xs → length (take n xs) ≡ n
length_take zero xs within = refl
length_take (suc n) [] within = absurd (omega arith)
length_take (suc n) (x ∷ xs) within = ap suc (length_take n xs (omega (arith, within)))

-- some file makes the first run of some
pub run_some : {X : Type 0} (size : X → ℕ) (room : ℕ) (xs : List X) → 0 < length xs → 0 < run_count size room xs
run_some size room [] some = absurd (omega arith)
run_some size room (x ∷ xs) some = omega arith

module _ {L : Type 0} (layout : Layout) (contents : L → Option (List ℕ)) (h : HeaderValue) (step : ℕ) where
  -- the paths of sealed files
  paths_of : (known : Option (List MemFile)) (leaves : List (List ℕ × L)) (docks : List DockValue) →
      shown contents leaves ≡ known_files known (map (dock_file layout h step) docks) → map (λ leaf. leaf.0) leaves ≡ map (file_name h step) (map (λ d. d.file) docks)
  paths_of known leaves docks same =
      sym (firsts (entry_shown contents) leaves (λ leaf. refl))
      ∙ ap (map (λ (entry : List ℕ × Option (List ℕ)). entry.0)) same
      ∙ firsts_of docks
    where
      firsts : (f : List ℕ × L → List ℕ × Option (List ℕ)) (xs : List (List ℕ × L)) → ((x : List ℕ × L) → (f x).0 ≡ x.0) → map (λ (entry : List ℕ × Option (List ℕ)). entry.0) (map f xs) ≡ map (λ leaf. leaf.0) xs
      firsts f [] each = refl
      firsts f (x ∷ xs) each = ap (λ p. p ∷ map (λ (entry : List ℕ × Option (List ℕ)). entry.0) (map f xs)) (each x) ∙ ap (λ ps. x.0 ∷ ps) (firsts f xs each)

      firsts_of : (ds : List DockValue) → map (λ (entry : List ℕ × Option (List ℕ)). entry.0) (known_files known (map (dock_file layout h step) ds)) ≡ map (file_name h step) (map (λ d. d.file) ds)
      firsts_of [] = refl
      firsts_of (d ∷ ds) = ap (λ ps. file_name h step d.file ∷ ps) (firsts_of ds)

  module _ (room : ℕ) (pieces : List Piece) (files : List ℕ) (leaves more : List (List ℕ × L)) (known : Option (List MemFile)) (docks : List DockValue) (done : ℕ) (left : List Piece) where
    count : ℕ
    count = run_count (length_of_file (placing_of h)) room (drop (length leaves) files)

    count_within : count ≤ length (drop (length leaves) files)
    unfolding count
    count_within = run_within (length_of_file (placing_of h)) room (drop (length leaves) files)

    -- as many files are sealed as the window has
    more_count : AreDocks h room pieces (drop (length leaves) files) done left docks → shown contents more ≡ known_files known (map (dock_file layout h step) docks) → length more ≡ count
    unfolding count
    more_count are same =
        sym (length-map more (λ leaf. leaf.0)) ∙ ap length (paths_of known more docks same)
        ∙ length-map (map (λ d. d.file) docks) (file_name h step) ∙ ap length are.window
        ∙ length_take count (drop (length leaves) files) count_within

    pub more_leaves : AreDocks h room pieces (drop (length leaves) files) done left docks → shown contents more ≡ known_files known (map (dock_file layout h step) docks) → length leaves < length (leaves ++ more)
    unfolding count
    more_leaves are same =
        let some = run_some (length_of_file (placing_of h)) room (drop (length leaves) files) are.some in
        let many = more_count are same in
        omega (arith, length-append leaves more, many, some)

    pub next_opening : (ranks : ℕ) → IsOpening h step ranks room pieces files (map (λ leaf. leaf.0) leaves) → AreDocks h room pieces (drop (length leaves) files) done left docks →
        shown contents more ≡ known_files known (map (dock_file layout h step) docks) → IsOpening h step ranks room pieces files (map (λ leaf. leaf.0) (leaves ++ more))
    unfolding count
    next_opening ranks opening are same =
        let first : List ℕ × L → List ℕ = λ leaf. leaf.0 in
        let n : ℕ = length leaves in
        let so_far : length (map first leaves) ≡ n = length-map leaves first in
        let in_all : n ≤ length files = subst (λ k. k ≤ length files) so_far opening.few in
        let many : length more ≡ count = more_count are same in
        let whole : length (map first (leaves ++ more)) ≡ n + count =
        length-map (leaves ++ more) first ∙ length-append leaves more ∙ ap (λ k. n + k) many in
        let fits : count ≤ length (drop n files) = count_within in
        let behind : length (drop n files) ≡ length files - n = length-drop n files in
        let before : map first leaves ≡ map (file_name h step) (take n files) =
        opening.paths_are ∙ ap (λ k. map (file_name h step) (take k files)) so_far in
        let new : map first more ≡ map (file_name h step) (take count (drop n files)) =
        paths_of known more docks same ∙ ap (map (file_name h step)) are.window in
        record {
          some_rank = opening.some_rank;
          few_ranks = opening.few_ranks;
          some_room = opening.some_room;
          pieces_are = opening.pieces_are;
          files_are = opening.files_are;
          few = omega (arith, whole, fits, behind, in_all);
          paths_are =
              map-append first leaves more ∙ ap (λ ps. ps ++ map first more) before ∙ ap (λ ps. map (file_name h step) (take n files) ++ ps) new
              ∙ sym (map-append (file_name h step) (take n files) (take count (drop n files)))
              ∙ ap (map (file_name h step)) (take_more n count files in_all)
              ∙ ap (λ k. map (file_name h step) (take k files)) (sym whole);
        }
