-- The files of a step, one after another, and the folder in which they lie.
use Rattle.std.proofs.Common.{◌≡◌, ℕ, zero, suc, ◌+◌, ◌<◌, Bool, true, false, cond, List, [], ◌∷◌, ◌++◌, map, sym, ap, subst, ◌∙◌, arith, append_assoc, append-nil}
use Rattle.std.specs.Prelude.{filter, Option, Some, None, IsSome, option_map}
use Rattle.std.specs.List.{range_with_len, AllByRecursion}
use Rattle.std.proofs.Math.Seq.{take-append-add}
use Rattle.std.proofs.lemmas.List.{map-append}
use Rattle.std.proofs.lemmas.List.Elements.{All-from_recursion}
use Rattle.idx_outside.specs.Files.{known_with, entry_shown, shown, known_files, LiesIn, AllLieIn, HoldFiles}
use Rattle.idx_outside.specs.declared.mem_file.MemFile.{MemFile}
use Rattle.idx_outside.proofs.FilesLemmas.{HoldFiles-of}
use Rattle.idx_names.specs.Path as paths
use Rattle.idx_header.specs.Header.{HeaderValue, block_count}
use Rattle.idx_header.specs.Names.{file_name, step_folder, name_with}
use Rattle.idx_header.specs.declared.steps.Steps.{Steps}
use Rattle.idx_rowmajor.specs.declared.layout.Layout.{Layout}
use Rattle.idx_layout.specs.Placing.{file_numbers}
use Rattle.idx_layout.specs.OfHeader.{placing_of}
use Rattle.idx_layout.specs.Step.{step_file, step_files}

-- numbers of a range lie below its end
below_end : (test : ℕ → Bool) (a n end : ℕ) → a + n ≡ end → AllByRecursion (λ k. k < end) (filter test (range_with_len a n))
below_end test a zero end at = tt
below_end test a (suc n) end at = by_test (test a) (below_end test (a + 1) n end (omega (arith, at)))
  where
    rest : List ℕ
    rest = filter test (range_with_len (a + 1) n)

    by_test : (b : Bool) → AllByRecursion (λ k. k < end) rest → AllByRecursion (λ k. k < end) (cond b (a ∷ rest) rest)
    by_test true more = (omega (arith, at), more)
    by_test false more = more

-- the number of each file is that of a block
pub files_exist : (h : HeaderValue) → AllByRecursion (λ file. file < block_count h) (file_numbers (placing_of h))
files_exist h = below_end _ 0 (block_count h) (block_count h) (omega arith)

module _ {L : Type 0} (contents : L → Option (List ℕ)) (known : Option (List MemFile)) where
  -- the first of the files that are left was written
  pub leaf_more : (f : ℕ → List ℕ × List ℕ) (leaves : List (List ℕ × L)) (left rest : List ℕ) (file : ℕ) (leaf : List ℕ × L) (whole : List (List ℕ × Option (List ℕ))) →
      left ≡ file ∷ rest → leaf.0 ≡ (f file).0 → contents leaf.1 ≡ known_with known (f file).1 →
      shown contents leaves ++ known_files known (map f left) ≡ whole →
      shown contents (leaves ++ leaf ∷ []) ++ known_files known (map f rest) ≡ whole
  leaf_more f leaves left rest file leaf whole first path bytes before =
      ap (λ s. s ++ known_files known (map f rest)) (map-append (entry_shown contents) leaves (leaf ∷ []))
      ∙ append_assoc (shown contents leaves) ((leaf.0, contents leaf.1) ∷ []) (known_files known (map f rest))
      ∙ ap (λ p. shown contents leaves ++ (p, contents leaf.1) ∷ known_files known (map f rest)) path
      ∙ ap (λ b. shown contents leaves ++ ((f file).0, b) ∷ known_files known (map f rest)) bytes
      ∙ ap (λ s. shown contents leaves ++ known_files known (map f s)) (sym first) ∙ before

  -- no file is left
  pub leaves_hold : (f : ℕ → List ℕ × List ℕ) (leaves : List (List ℕ × L)) (left : List ℕ) (files : List (List ℕ × List ℕ)) → left ≡ [] →
      shown contents leaves ++ known_files known (map f left) ≡ known_files known files → HoldFiles contents known leaves files
  leaves_hold f leaves left files none all = HoldFiles-of contents known leaves files (record {
    same = sym (append-nil (shown contents leaves)) ∙ ap (λ s. shown contents leaves ++ known_files known (map f s)) (sym none) ∙ all;
  })

-- a file's path goes on behind the folder of its step
pub name_lies : (h : HeaderValue) (step file : ℕ) (folder : List ℕ) → step_folder h step ≡ Some folder → LiesIn folder (file_name h step file)
unfolding file_name step_folder paths.file_path
name_lies h step file folder stands = by_steps h.steps stands
  where
    by_steps : (steps : Option Steps) → option_map (λ (s : Steps). paths.step_folder h.template s.template step h.revision) steps ≡ Some folder → LiesIn folder (name_with h steps step file)
    by_steps None e = let wrong : ◌≡◌ {A = Option (List ℕ)} None (Some folder) = e in absurd (cc)
    by_steps (Some steps) e =
        let same : paths.step_folder h.template steps.template step h.revision ≡ folder = cc in
        subst (λ f. LiesIn f (name_with h (Some steps) step file)) same
        (take-append-add (paths.step_folder h.template steps.template step h.revision) _ 1)

-- all files of a step lie in its folder
pub files_lie : (layout : Layout) (h : HeaderValue) (volume : List (List (List ℕ))) (step : ℕ) (folder : List ℕ) → step_folder h step ≡ Some folder → AllLieIn folder (step_files layout h volume step)
files_lie layout h volume step folder stands = All-from_recursion (λ (entry : List ℕ × List ℕ). LiesIn folder entry.0) (step_files layout h volume step) (over (file_numbers (placing_of h)))
  where
    over : (numbers : List ℕ) → AllByRecursion (λ (entry : List ℕ × List ℕ). LiesIn folder entry.0) (map (step_file layout h volume step) numbers)
    over [] = tt
    over (file ∷ numbers) = (name_lies h step file folder stands, over numbers)

-- a header with a time has a folder for each step
pub folder_exists : (h : HeaderValue) (step : ℕ) → IsSome h.steps → step_folder h step ≡ None → ⊥
unfolding step_folder
folder_exists h step timed none = by_steps h.steps timed none
  where
    by_steps : (steps : Option Steps) → IsSome steps → option_map (λ (s : Steps). paths.step_folder h.template s.template step h.revision) steps ≡ None → ⊥
    by_steps None some e = let wrong : false ≡ true = some in cc
    by_steps (Some steps) some e = let wrong : ◌≡◌ {A = Option (List ℕ)} (Some (paths.step_folder h.template steps.template step h.revision)) None = e in cc
