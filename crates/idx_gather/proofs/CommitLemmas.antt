-- Leaves that are the files of the step of some volume, and the committed files once these leaves stand.
use Rattle.std.proofs.Common.{◌≡◌, ℕ, ◌⊎◌, inl, inr, List, Option, Some, IfSome, sym, ap, subst, ◌∙◌}
use Rattle.idx_outside.specs.Files.{HoldFiles, added, files_of, known_files, leaf_files, shown}
use Rattle.idx_outside.specs.declared.mem_file.MemFile.{MemFile}
use Rattle.idx_outside.proofs.FilesLemmas.{HoldFiles-of}
use Rattle.idx_header.specs.Header.{HeaderValue}
use Rattle.idx_header.specs.Names.{step_folder}
use Rattle.idx_rowmajor.specs.declared.layout.Layout.{Layout}
use Rattle.idx_layout.specs.Step.{step_files, volume_of_raw}
use Rattle.idx_edition.specs.Loaded.{AreWritten}
use Rattle.idx_edition.proofs.StoredLemmas.{known_written}
use Rattle.idx_gather.specs.Gather.{StepAddedAs}
use Rattle.idx_gather.specs.States.{IsStepOf}
use Rattle.idx_gather.proofs.EditionLemmas.{is_volume}

module _ {L : Type 0} (layout : Layout) (contents : L → Option (List ℕ)) (h : HeaderValue) (step : ℕ) (known : Option (List MemFile)) (leaves : List (List ℕ × L)) where
  -- they hold the files of the step
  pub step_held : (raw : List ℕ) → IsStepOf layout h step known (shown contents leaves) raw → HoldFiles contents known leaves (step_files layout h (volume_of_raw h raw) step)
  step_held raw is = HoldFiles-of contents known leaves (step_files layout h (volume_of_raw h raw) step) (record { same = is.same })

  -- so do leaves that are the same
  pub same_shown : (raw : List ℕ) → IsStepOf layout h step known (shown contents leaves) raw → (stood : List (List ℕ × L)) → stood ≡ leaves →
      shown contents stood ≡ known_files known (step_files layout h (volume_of_raw h raw) step)
  same_shown raw is stood same_leaves = ap (shown contents) same_leaves ∙ is.same

  -- they are as the writer lays out
  pub step_written : (raw : List ℕ) → IsStepOf layout h step known (shown contents leaves) raw → AreWritten layout h step (volume_of_raw h raw) (shown contents leaves)
  step_written raw is = known_written layout h step (volume_of_raw h raw) known (shown contents leaves) (is_volume h raw is.whole) is.same

  module _ (folder given : List ℕ) (stood : List (List ℕ × L)) (new : Option (List MemFile)) (stands : step_folder h step ≡ Some folder) (same_folder : given ≡ folder) (same_leaves : stood ≡ leaves) where
    -- where they stand, the files of the step were added
    pub files_added : (raw : List ℕ) → IsStepOf layout h step known (shown contents leaves) raw → new ≡ added known (leaf_files contents given stood) →
        new ≡ added known (files_of folder (step_files layout h (volume_of_raw h raw) step))
    files_added raw is all =
        all
        ∙ ap (λ (f : List ℕ). added known (leaf_files contents f stood)) same_folder
        ∙ ap (λ ls. added known (leaf_files contents folder ls)) same_leaves
        ∙ (step_held raw is).stand folder

    -- so the step was added
    pub step_added : (raw : List ℕ) → IsStepOf layout h step known (shown contents leaves) raw → new ≡ added known (leaf_files contents given stood) → StepAddedAs layout h step known new raw
    step_added raw is all =
        subst (λ (o : Option (List ℕ)). IfSome o (λ f. new ≡ added known (files_of f (step_files layout h (volume_of_raw h raw) step)))) (sym stands) (files_added raw is all)

    -- they stand wholly or not at all
    pub step_left : (new ≡ known) ⊎ (new ≡ added known (leaf_files contents given stood)) →
        (new ≡ known) ⊎ ((raw : List ℕ) → IsStepOf layout h step known (shown contents leaves) raw → StepAddedAs layout h step known new raw)
    step_left (inl none) = inl none
    step_left (inr all) = inr (λ raw is. step_added raw is all)
