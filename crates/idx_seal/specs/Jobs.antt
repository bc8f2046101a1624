-- The jobs of a row: what workers make of docks and drafts.
use Rattle.std.specs.Prelude.{◌≡◌, ℕ, ◌<◌, Bool, true, false, List, [], Option, Some, None}
use Rattle.std.specs.Option.{ForSome}
use Rattle.idx_outside.specs.Cause.{counted}
use Rattle.idx_outside.specs.Files.{known_with, retold}
use Rattle.idx_outside.specs.declared.mem_file.MemFile.{MemFile}
use Rattle.idx_rowmajor.specs.declared.layout.Layout.{Layout}
use Rattle.idx_dock.specs.Content.{dock_bytes_as}
use Rattle.idx_dock.specs.Dock.{DockValue, missing}
use Rattle.idx_seal.specs.declared.job.Job.{Job}
use Rattle.idx_seal.specs.declared.written.Written.{Written}
use Rattle.idx_seal.specs.declared.written.Written.TheVariants.{Open, Sealed, Failed}

module _ {D L : Type 0} (contents : D → Option (List ℕ)) where
  -- a complete dock is to be written to a draft without bytes, where these are known
  pub record IsOpen (job : Job D L) : Type 0 where
    pub dock : DockValue
    pub draft : D
    pub is : job.file ≡ Some (Open dock draft)
    pub complete : missing dock ≡ None
    pub empty : ForSome (contents draft) (λ bytes. bytes ≡ [])

  -- The same, where the bytes and the path are known exactly where the committed files are. The draft was made for the
  -- job's path, and has counted no fault.
  pub record IsOpened (path : D → Option (List ℕ)) (faults : D → ℕ) (known : Option (List MemFile)) (job : Job D L) : Type 0 where
    pub dock : DockValue
    pub draft : D
    pub is : job.file ≡ Some (Open dock draft)
    pub complete : missing dock ≡ None
    pub empty : contents draft ≡ known_with known []
    pub named : path draft ≡ known_with known job.path
    pub unfailed : faults draft ≡ 0

module _ {D L : Type 0} (contents path : D → Option (List ℕ)) (faults : D → ℕ)
    (leaf_contents leaf_path : L → Option (List ℕ)) (leaf_faults : L → ℕ) where
  -- A draft to which a dock was written in a layout was sealed, with the bytes of the dock and the draft's path and faults,
  -- or came back with one fault more.
  abbrev pub WritesTo : Layout → DockValue → D → Option (Written D L) → Type 0
  WritesTo layout dock draft None = ⊥
  WritesTo layout dock draft (Some (Open dock' back)) = ⊥
  WritesTo layout dock draft (Some (Sealed leaf)) =
      (leaf_contents leaf ≡ retold (contents draft) (dock_bytes_as layout dock)) × (leaf_path leaf ≡ path draft)
      × (leaf_faults leaf ≡ faults draft)
  WritesTo layout dock draft (Some (Failed back)) = (0 < faults back) × (faults back ≡ counted (faults draft))

  -- what a worker makes of a job
  pub record Writes (old new : Job D L) : Type 0 where
    pub same : new.path ≡ old.path
    pub file : (dock : DockValue) (draft : D) → old.file ≡ Some (Open dock draft) → WritesTo old.layout dock draft new.file

module _ {D L : Type 0} where
  -- the bytes that are to be written in a layout
  abbrev pub planned_bytes : Layout → Option (Written D L) → List ℕ
  planned_bytes layout (Some (Open dock draft)) = dock_bytes_as layout dock
  planned_bytes layout file = []

  -- the path of a file, and the bytes that are to be written
  abbrev pub planned : Job D L → List ℕ × List ℕ
  planned job = (job.path, planned_bytes job.layout job.file)

  -- whether a draft was sealed
  abbrev pub is_sealed : Option (Written D L) → Bool
  is_sealed (Some (Sealed leaf)) = true
  is_sealed file = false

  -- whether a draft came back
  abbrev pub is_failed : Option (Written D L) → Bool
  is_failed (Some (Failed draft)) = true
  is_failed file = false

  -- whether the draft of a job came back
  abbrev pub has_failed : Job D L → Bool
  has_failed job = is_failed job.file

  -- how many faults a draft has counted; none where there is no draft
  abbrev pub file_faults : (D → ℕ) → Option (Written D L) → ℕ
  file_faults faults (Some (Open dock draft)) = faults draft
  file_faults faults (Some (Failed draft)) = faults draft
  file_faults faults file = 0

  -- how many faults the draft of a job has counted
  abbrev pub faults_of : (D → ℕ) → Job D L → ℕ
  faults_of faults job = file_faults faults job.file

  -- what is known of a leaf
  abbrev pub leaf_shown : (L → Option (List ℕ)) → Option (Written D L) → Option (List ℕ)
  leaf_shown contents (Some (Sealed leaf)) = contents leaf
  leaf_shown contents file = None

  -- the path of a file that was sealed, with what is known of its leaf
  abbrev pub job_shown : (L → Option (List ℕ)) → Job D L → List ℕ × Option (List ℕ)
  job_shown contents job = (job.path, leaf_shown contents job.file)

module _ {L : Type 0} (path : L → Option (List ℕ)) (faults : L → ℕ) (known : Option (List MemFile)) where
  -- a leaf under its draft's path, which is known where the committed files are; its draft counted no fault
  abbrev pub IsFinished : List ℕ × L → Type 0
  IsFinished entry = (path entry.1 ≡ known_with known entry.0) × (faults entry.1 ≡ 0)

  -- so is the leaf of this path, where the draft was sealed
  abbrev pub ends_finished : {D : Type 0} → List ℕ → Option (Written D L) → Type 0
  ends_finished at (Some (Sealed leaf)) = IsFinished (at, leaf)
  ends_finished at file = Unit {0}

  -- so is that of a job
  abbrev pub Finishes : {D : Type 0} → Job D L → Type 0
  Finishes job = ends_finished job.path job.file
