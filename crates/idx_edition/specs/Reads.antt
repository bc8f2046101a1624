-- How many reads opening a step takes, by a bound.
use Rattle.std.specs.Prelude.{◌≡◌, ◌≢◌, ◌⊎◌, ℕ, ◌≤◌, List, length, Option, Some, None, IfSome}
use Rattle.std.specs.List.{filter_map}
use Rattle.idx_outside.specs.Cause.{MadeReads}
use Rattle.idx_outside.specs.Files.{file_at}
use Rattle.idx_outside.specs.declared.mem_file.MemFile.{MemFile}
use Rattle.idx_header.specs.Header.{HeaderValue}
use Rattle.idx_header.specs.Names.{file_name}
use Rattle.idx_layout.specs.Placing.{file_numbers}
use Rattle.idx_layout.specs.OfHeader.{placing_of}
use Rattle.idx_edition.specs.Stored.{found_file}

-- how many files of these numbers are there; where the committed files are not known, any may be
abbrev pub count_there : HeaderValue → ℕ → Option (List MemFile) → List ℕ → ℕ
count_there h step None numbers = length numbers
count_there h step (Some files) numbers = length (filter_map (found_file h step files) numbers)

-- the most reads that opening a step takes: one for each file of it that is there
abbrev pub most_reads : HeaderValue → ℕ → Option (List MemFile) → ℕ
most_reads h step known = count_there h step known (file_numbers (placing_of h))

-- no more reads were made
pub record ReadsFiles (h : HeaderValue) (step : ℕ) (known : Option (List MemFile)) (before after : ℕ) : Type 0 where
  pub reads : ℕ
  pub few : reads ≤ most_reads h step known
  pub made : MadeReads before after reads

-- no read was made, or one, of a file of the step that is there
abbrev pub ReadsOne : HeaderValue → ℕ → Option (List MemFile) → ℕ → ℕ → ℕ → Type 0
ReadsOne h step known file before after =
    (after ≡ before) ⊎ (IfSome known (λ files. file_at (file_name h step file) files ≢ None) × MadeReads before after 1)
