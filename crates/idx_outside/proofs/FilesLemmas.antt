-- Leaves that hold the bytes of files, and what they are as committed files.
use Rattle.std.specs.Prelude.{◌≡◌, ℕ, ◌+◌, ◌<◌, List, [], ◌∷◌, ◌++◌, take, length, slice_index_or, Option, Some, None, refl}
use Rattle.std.proofs.Common.{sym, ap, subst, ◌∙◌, add-one}
use Rattle.std.proofs.Math.Seq.{take-suc}
use Rattle.std.proofs.lemmas.List.{get_or-map, length-map, map-append}
use Rattle.idx_outside.specs.declared.mem_file.MemFile.{MemFile}
use Rattle.idx_outside.specs.Files.{added, known_with, entry_shown, shown, known_files, files_of, file_of, leaf_file, leaf_files, LiesIn, AllLieIn, Mirrors, HoldFiles}

of_files : (old : List MemFile) (folder : List ℕ) (files : List (List ℕ × List ℕ)) → leaf_files (λ o. o) folder (known_files (Some old) files) ≡ files_of folder files
of_files old folder [] = refl
of_files old folder (x ∷ xs) = ap (λ s. file_of folder x ∷ s) (of_files old folder xs)

module _ {L : Type 0} (contents : L → Option (List ℕ)) where
  of_leaves : (folder : List ℕ) (leaves : List (List ℕ × L)) → leaf_files contents folder leaves ≡ leaf_files (λ o. o) folder (shown contents leaves)
  of_leaves folder [] = refl
  of_leaves folder (x ∷ xs) = ap (λ s. leaf_file contents folder x ∷ s) (of_leaves folder xs)

  leaves-stand : (t : Option (List MemFile)) (folder : List ℕ) (leaves : List (List ℕ × L)) (files : List (List ℕ × List ℕ)) → shown contents leaves ≡ known_files t files → added t (leaf_files contents folder leaves) ≡ added t (files_of folder files)
  leaves-stand None folder leaves files e = refl
  leaves-stand (Some old) folder leaves files e =
      ap (λ more. Some (old ++ more)) (of_leaves folder leaves ∙ ap (leaf_files (λ o. o) folder) e ∙ of_files old folder files)

  leaves-lie : (t : Option (List MemFile)) (folder : List ℕ) (leaves : List (List ℕ × L)) (files : List (List ℕ × List ℕ)) → shown contents leaves ≡ known_files t files → AllLieIn folder files → AllLieIn folder leaves
  leaves-lie t folder leaves files e h = λ k d within.
      let f : List ℕ × L → List ℕ × Option (List ℕ) = entry_shown contents in
      let g : List ℕ × List ℕ → List ℕ × Option (List ℕ) = entry_shown (known_with t) in
      let d' : List ℕ × List ℕ = (d.0, []) in
      let same_length : length leaves ≡ length files = sym (length-map leaves f) ∙ ap length e ∙ length-map files g in
      let within' : k < length files = subst (λ n. k < n) same_length within in
      let same : f (slice_index_or leaves k d) ≡ g (slice_index_or files k d') = sym (get_or-map f leaves k d (f d) within) ∙ ap (λ s. slice_index_or s k (f d)) e ∙ get_or-map g files k d' (f d) within' in
      subst (LiesIn folder) (sym (ap (λ x. x.0) same)) (h k d' within')

  -- no leaf yet
  pub Mirrors-none : (t : Option (List MemFile)) (files : List (List ℕ × List ℕ)) → Mirrors contents t [] (take 0 files)
  Mirrors-none t files = record { same = refl }

  -- one more leaf, of the next file
  pub Mirrors-next : (t : Option (List MemFile)) (leaves : List (List ℕ × L)) (files : List (List ℕ × List ℕ)) (i : ℕ) (path : List ℕ) (leaf : L) (entry : List ℕ × List ℕ) → Mirrors contents t leaves (take i files) → i < length files → entry ≡ slice_index_or files i entry → path ≡ entry.0 → contents leaf ≡ known_with t entry.1 → Mirrors contents t (leaves ++ (path, leaf) ∷ []) (take (i + 1) files)
  Mirrors-next t leaves files i path leaf entry so_far within at same_path same_bytes = record {
    same =
        map-append (entry_shown contents) leaves ((path, leaf) ∷ [])
        ∙ ap (λ s. s ++ (path, contents leaf) ∷ []) so_far.same
        ∙ ap (λ p. known_files t (take i files) ++ (p, contents leaf) ∷ []) same_path
        ∙ ap (λ b. known_files t (take i files) ++ (entry.0, b) ∷ []) same_bytes
        ∙ sym (map-append (entry_shown (known_with t)) (take i files) (entry ∷ []))
        ∙ ap (known_files t) (ap (λ e. take i files ++ e ∷ []) at ∙ sym (take-suc files i entry within) ∙ ap (λ n. take n files) (sym (add-one i)));
  }

  -- with what follows
  pub HoldFiles-of : (t : Option (List MemFile)) (leaves : List (List ℕ × L)) (files : List (List ℕ × List ℕ)) → Mirrors contents t leaves files → HoldFiles contents t leaves files
  HoldFiles-of t leaves files h = record {
    same = h.same;
    lie = λ folder lie. leaves-lie t folder leaves files h.same lie;
    stand = λ folder. leaves-stand t folder leaves files h.same;
  }

-- for `#[tactic(auto, using(..))]` on a function that makes the leaves of files in their order
pub ruleset writing = (Mirrors-none, Mirrors-next, HoldFiles-of)
