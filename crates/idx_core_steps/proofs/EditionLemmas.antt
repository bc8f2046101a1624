-- The step that the files of a revision make.
use Rattle.std.proofs.Common.{◌≡◌, ℕ, true, List, [], ◌∷◌, length, map, Some, None, refl, ap, ◌∙◌}
use Rattle.std.specs.List.{filter_map}
use Rattle.idx_outside.specs.Files.{files_of}
use Rattle.idx_header.specs.Header.{HasTime, at_revision, volume_bytes}
use Rattle.idx_layout.specs.Step.{volume_of_raw}
use Rattle.idx_board.specs.Standing.{step_post}
use Rattle.idx_events.specs.Setting.{post_of_files, step_files}
use Rattle.idx_events.specs.Volumes.{sealed_files}
use Rattle.idx_core_model.specs.Layers.{setting_of}
use Rattle.idx_core_model.proofs.AnswerLemmas.{step_taken}
use Rattle.idx_core_model.proofs.FileLemmas.{volume_is}
use Rattle.idx_core_model.proofs.SettingLemmas.{files_of_layers, raw_taken}
use Rattle.idx_core_layers.specs.Division.{DivisionValue, layers_of}
use Rattle.idx_core_forms.specs.Step.{AreStepFiles}
use Rattle.idx_core_steps.specs.Steps.{SlotValue, slot_of}

-- the written files of slots
pub sealed-map : (slots : List SlotValue) → filter_map (λ slot. slot.sealed) slots ≡ sealed_files (map slot_of slots)
sealed-map [] = refl
sealed-map (slot ∷ slots) = elim slot.sealed as (λ o. filter_map (λ (s : SlotValue). s.sealed) (record slot { sealed = o } ∷ slots) ≡ sealed_files (slot_of (record slot { sealed = o }) ∷ map slot_of slots)) [
  | None ↦ sealed-map slots
  | Some file ↦ ap (λ l. file ∷ l) (sealed-map slots)
]

-- the raw bytes of a volume are as many as the samples of the box
pub raw-whole : (d : DivisionValue) (raw : List ℕ) → (layers_of d).valid_raw raw ≡ true → length raw ≡ volume_bytes d.header
unfolding setting_of
raw-whole d raw valid = raw_taken d.header raw valid

-- a revision that is taken is of a step of the dataset
pub step-timed : (d : DivisionValue) (time revision : ℕ) → (layers_of d).valid_step time revision ≡ true → HasTime (at_revision revision d.header) time
unfolding setting_of
step-timed d time revision valid = (step_taken d.header time revision valid).0

-- its files are those that one rank writes of the volume
pub step-written : (d : DivisionValue) (time revision : ℕ) (raw : List ℕ) (files : List (List ℕ × List ℕ)) → (layers_of d).valid_raw raw ≡ true → files ≡ step_files (layers_of d) time revision raw →
    AreStepFiles (at_revision revision d.header) time files
step-written d time revision raw files valid are =
    let whole : length raw ≡ volume_bytes d.header = raw-whole d raw valid in
    (volume_of_raw d.header raw, volume_is d.header raw whole, are ∙ files_of_layers d.header d.digits d.ranks time revision raw whole)

-- and the post of the files is that of events
pub step-posted : (d : DivisionValue) (time revision : ℕ) (files : List (List ℕ × List ℕ)) → step_post (files_of [] files) time (at_revision revision d.header) ≡ post_of_files (layers_of d) time revision files
unfolding setting_of
step-posted d time revision files = refl
