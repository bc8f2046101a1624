-- What loading the newest revision of a step promises.
use Rattle.std.specs.Prelude.{◌≡◌, ◌⊎◌, ℕ, List, Option, Some, IfSome}
use Rattle.idx_outside.specs.declared.mem_file.MemFile.{MemFile}
use Rattle.idx_header.specs.Header.{HeaderValue}
use Rattle.idx_header.specs.Revisions.{IsRevisionOf}
use Rattle.idx_edition.specs.Loaded.{Counts, IsCause}
use Rattle.idx_edition.specs.Reads.{ReadsFiles}
use Rattle.idx_edition.specs.Stored.{StandsAs, first_bad}
use Rattle.idx_edition.specs.declared.load_fault.LoadFault.{LoadFault}

-- One is the other at some revision. Where the committed files are known the step stands, and that is its newest revision.
pub record IsNewest (h : HeaderValue) (step : ℕ) (known : Option (List MemFile)) (revised : HeaderValue) : Type 0 where
  pub revision : IsRevisionOf h revised
  pub stands : IfSome known (λ files. StandsAs h step files revised)

-- the step stands, and this is the first faulty row of its newest revision
abbrev pub HasBadTable : HeaderValue → ℕ → List MemFile → LoadFault → Type 0
HasBadTable h step files bad =
    (revised : HeaderValue) × (StandsAs h step files revised × (first_bad revised step files ≡ Some bad))

-- What each fault of loading the newest revision says of the committed files, and of what the bay and the reader counted.
abbrev pub IsNewestCause : HeaderValue → ℕ → Option (List MemFile) → Counts → LoadFault → Type 0
IsNewestCause h step known c fault = IsCause (λ bad. IfSome known (λ files. HasBadTable h step files bad)) c fault

-- no read was made, or no more than one for each file of the newest revision that is there
abbrev pub ReadsNewest : HeaderValue → ℕ → Option (List MemFile) → ℕ → ℕ → Type 0
ReadsNewest h step known before after =
    (after ≡ before)
    ⊎ ((revised : HeaderValue) × (IsNewest h step known revised × ReadsFiles revised step known before after))
