-- What a bay holds, where it is known: the committed files, in the order in which they were committed.
use Rattle.std.specs.Prelude.{◌≡◌, ℕ, ◌+◌, List, [], ◌∷◌, ◌++◌, map, length, take, Option, Some, None, Bool, true, false, IsTrue, bytes_eq, All, if◌then◌else◌}
use Rattle.std.specs.Option.{ForSome, unwrap_or}
use Rattle.idx_outside.specs.declared.mem_file.MemFile.{MemFile}

-- A text was put. What was known is known, and what was not is not.
abbrev pub retold : Option (List ℕ) → List ℕ → Option (List ℕ)
retold None text = None
retold (Some old) text = Some text

-- the files with these behind them
abbrev pub added : Option (List MemFile) → List MemFile → Option (List MemFile)
added None more = None
added (Some files) more = Some (files ++ more)

-- these bytes, known where the files are
abbrev pub known_with : Option (List MemFile) → List ℕ → Option (List ℕ)
known_with None bytes = None
known_with (Some files) bytes = Some bytes

-- whether some file is of this folder
abbrev pub has_folder : List ℕ → List MemFile → Bool
has_folder folder [] = false
has_folder folder (f ∷ files) = if bytes_eq f.folder folder then true else has_folder folder files

-- some committed file is of this folder
abbrev pub HasStep : List ℕ → List MemFile → Type 0
HasStep folder files = IsTrue (has_folder folder files)

-- the bytes of the first file of this path
abbrev pub file_at : List ℕ → List MemFile → Option (List ℕ)
file_at path [] = None
file_at path (f ∷ files) = if bytes_eq f.path path then Some f.bytes else file_at path files

-- the same, where the files are known
abbrev pub stored_at : List ℕ → Option (List MemFile) → Option (List ℕ)
stored_at path None = None
stored_at path (Some files) = file_at path files

-- the path goes on behind the folder's name and a slash
abbrev pub LiesIn : List ℕ → List ℕ → Type 0
LiesIn folder path = take (length folder + 1) path ≡ folder ++ 47 ∷ []

-- all paths of files or of leaves lie in the folder
abbrev pub AllLieIn : {X : Type 0} → List ℕ → List (List ℕ × X) → Type 0
AllLieIn folder entries = All (λ entry. LiesIn folder entry.0) entries

-- the leaf is given with its path, where it tells it; `path` is the ghost member of leaves
abbrev pub IsNamed : {L : Type 0} → (L → Option (List ℕ)) → List ℕ × L → Type 0
IsNamed path entry = ForSome (path entry.1) (λ told. told ≡ entry.0)

-- the same of all leaves
abbrev pub AllNamed : {L : Type 0} → (L → Option (List ℕ)) → List (List ℕ × L) → Type 0
AllNamed path entries = All (IsNamed path) entries

-- A path that was admitted still is. `admits` is the ghost member of bays.
abbrev pub StillAdmits : {S : Type 0} → (S → List ℕ → Type 0) → S → S → Type 0
StillAdmits admits old new = (path : List ℕ) → admits old path → admits new path

-- a path and a leaf as a path with what is known of the leaf
abbrev pub entry_shown : {L : Type 0} → (L → Option (List ℕ)) → List ℕ × L → List ℕ × Option (List ℕ)
entry_shown contents entry = (entry.0, contents entry.1)

-- the paths of leaves, each with what is known of the leaf
abbrev pub shown : {L : Type 0} → (L → Option (List ℕ)) → List (List ℕ × L) → List (List ℕ × Option (List ℕ))
shown contents leaves = map (entry_shown contents) leaves

-- the paths of files, each with its bytes, known where the bay's files are
abbrev pub known_files : Option (List MemFile) → List (List ℕ × List ℕ) → List (List ℕ × Option (List ℕ))
known_files known files = map (entry_shown (known_with known)) files

-- the file of a path and its bytes
abbrev pub file_of : List ℕ → List ℕ × List ℕ → MemFile
file_of folder entry = record { folder = folder; path = entry.0; bytes = entry.1 }

-- the file of a path and a leaf
abbrev pub leaf_file : {L : Type 0} → (L → Option (List ℕ)) → List ℕ → List ℕ × L → MemFile
leaf_file contents folder entry = record { folder = folder; path = entry.0; bytes = unwrap_or (contents entry.1) [] }

-- the files of paths and bytes
abbrev pub files_of : List ℕ → List (List ℕ × List ℕ) → List MemFile
files_of folder files = map (file_of folder) files

-- the files of paths and leaves
abbrev pub leaf_files : {L : Type 0} → (L → Option (List ℕ)) → List ℕ → List (List ℕ × L) → List MemFile
leaf_files contents folder leaves = map (leaf_file contents folder) leaves

-- The leaves have the paths of these files, and their bytes where the bay's files are known: what a loop keeps.
pub record Mirrors {L : Type 0} (contents : L → Option (List ℕ)) (known : Option (List MemFile)) (leaves : List (List ℕ × L)) (files : List (List ℕ × List ℕ)) : Type 0 where
  pub same : shown contents leaves ≡ known_files known files

-- The same, with what follows from it: what a commit of the leaves asks and gives.
pub record HoldFiles {L : Type 0} (contents : L → Option (List ℕ)) (known : Option (List MemFile)) (leaves : List (List ℕ × L)) (files : List (List ℕ × List ℕ)) : Type 0 where
  pub same : shown contents leaves ≡ known_files known files
  pub lie : (folder : List ℕ) → AllLieIn folder files → AllLieIn folder leaves
  pub stand : (folder : List ℕ) → added known (leaf_files contents folder leaves) ≡ added known (files_of folder files)
