-- The files of a step that was written.
use Rattle.std.specs.Prelude.{◌≡◌, ℕ, List, length}
use Rattle.idx_geom.specs.Region.{points}
use Rattle.idx_geom.specs.Volume.{IsVolume}
use Rattle.idx_header.specs.Header.{HeaderValue}
use Rattle.idx_rowmajor.specs.declared.layout.Layout.TheVariants.{Hz}
use Rattle.idx_layout.specs.OfHeader.{placing_of}
use Rattle.idx_layout.specs.Step.{step_files}

-- These are the files of a step in hierarchical order, each with its path and its bytes: those of some volume.
abbrev pub AreStepFiles : HeaderValue → ℕ → List (List ℕ × List ℕ) → Type 0
AreStepFiles h step files = (volume : List (List (List ℕ))) ×
    IsVolume (placing_of h).sizes (length (points h.box)) volume × (files ≡ step_files Hz h volume step)
