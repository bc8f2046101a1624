-- Files that are gone over in their order, in search of a folder or a path.
use Rattle.std.specs.Prelude.{◌≡◌, ℕ, ◌+◌, ◌<◌, List, length, drop, slice_index_or, Some, true, bytes_eq, if◌then◌else◌}
use Rattle.std.proofs.Common.{ap}
use Rattle.std.proofs.lemmas.List.{drop_more}
use Rattle.idx_outside.specs.declared.mem_file.MemFile.{MemFile}
use Rattle.idx_outside.specs.Files.{has_folder, file_at}

-- the first file of a list
pub has_folder-drop : (folder : List ℕ) (files : List MemFile) (i : ℕ) (d : MemFile) → i < length files → has_folder folder (drop i files) ≡ (if bytes_eq (slice_index_or files i d).folder folder then true else has_folder folder (drop (i + 1) files))
has_folder-drop folder files i d within = ap (has_folder folder) (drop_more files i d within)

pub file_at-drop : (path : List ℕ) (files : List MemFile) (i : ℕ) (d : MemFile) → i < length files → file_at path (drop i files) ≡ (if bytes_eq (slice_index_or files i d).path path then Some (slice_index_or files i d).bytes else file_at path (drop (i + 1) files))
file_at-drop path files i d within = ap (file_at path) (drop_more files i d within)

-- for `#[tactic(auto, using(..))]` on a function that goes over files
pub ruleset searching = (has_folder-drop, file_at-drop)
