-- The post of a step that some files make.
use Rattle.std.proofs.Common.{◌≡◌, ℕ, Bool, List, [], length, ap, ◌∙◌, sym}
use Rattle.std.proofs.Props.{props}
use Rattle.std.proofs.Math.Logic.{∥∥₁_elim, ∥∥₁_map}
use Rattle.std.specs.Prelude.{Option, Some}
use Rattle.idx_geom.specs.Region.{points}
use Rattle.idx_geom.specs.Volume.{IsVolume}
use Rattle.idx_outside.specs.Files.{files_of, known_files, shown}
use Rattle.idx_outside.specs.Shape.{Shape}
use Rattle.idx_outside.specs.declared.mem_file.MemFile.{MemFile}
use Rattle.idx_header.specs.Header.{HasTime, HeaderValue, IsHeader}
use Rattle.idx_rowmajor.specs.declared.layout.Layout.TheVariants.{Hz}
use Rattle.idx_layout.specs.OfHeader.{placing_of}
use Rattle.idx_layout.specs.Shape.{shape_of}
use Rattle.idx_layout.specs.Step.{step_files}
use Rattle.idx_hall.specs.Posts.{Post, post_of}
use Rattle.idx_edition.specs.Loaded.{AreWritten, HoldsStored}
use Rattle.idx_edition.specs.Stored.{HasFiles}
use Rattle.idx_edition.proofs.OwnLemmas.{own_files}
use Rattle.idx_edition.proofs.StoredLemmas.{known_written}
use Rattle.idx_board.specs.Standing.{step_post}
use Rattle.idx_board.proofs.StepLemmas.{post_same}
use Rattle.idx_core_forms.specs.Step.{AreStepFiles}

-- files whose bytes are all told
abbrev pub told : List (List ℕ × List ℕ) → List (List ℕ × Option (List ℕ))
told files = shown (λ bytes. Some bytes) files

same_posts : (p q : Post) → IsProp (p ≡ q)
same_posts p q = hlevel props

-- the files of a step are such as the writer lays out
pub step_written : (h : HeaderValue) (step : ℕ) (files : List (List ℕ × List ℕ)) → ∥ AreStepFiles h step files ∥₁ →
    ∥ ((volume : List (List (List ℕ))) × AreWritten Hz h step volume (told files)) ∥₁
step_written h step files are = ∥∥₁_map are (λ a.
    (a.0, known_written Hz h step a.0 (Some []) (told files) a.1 (ap told a.2)))

-- the post of what holds what committed files store among which a step's stand is that of the step
pub step_posted : (h : HeaderValue) (step time : ℕ) (files : List (List ℕ × List ℕ)) (shape : Shape) (has : ℕ → ℕ → Bool)
    (stored : Option (ℕ → ℕ → List ℕ)) (leaves : List (List ℕ × Option (List ℕ)))
    → IsHeader h → HasTime h step → time ≡ step → shape ≡ shape_of h → ∥ AreStepFiles h step files ∥₁
    → ((volume : List (List (List ℕ))) (committed : List MemFile) → IsVolume (placing_of h).sizes (length (points h.box)) volume →
    HasFiles Hz h step volume committed → told files ≡ known_files (Some committed) (step_files Hz h volume step) →
    HoldsStored h step committed shape has stored leaves)
    → post_of (shape_of h) time has stored ≡ step_post (files_of [] files) step h
step_posted h step time files shape has stored leaves is timed same shaped are holds =
    ∥∥₁_elim are (same_posts (post_of (shape_of h) time has stored) (step_post (files_of [] files) step h)) (λ a.
    let committed : List MemFile = files_of [] (step_files Hz h a.0 step) in
    post_same h step time committed shape has stored leaves same shaped
    (holds a.0 committed a.1 (own_files Hz h step a.0 [] is timed) (ap told a.2))
    ∙ ap (λ fs. step_post (files_of [] fs) step h) (sym a.2))
