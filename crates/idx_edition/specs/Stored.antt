-- What a step stores, by the header and the committed files: the first faulty row of its files, and the bytes of each block.
use Rattle.std.specs.Prelude.{◌≡◌, ℕ, Bool, false, ◌+◌, ◌-◌, ◌*◌, ◌==◌, nat_lt, if◌then◌else◌, List, length, take, drop, replicate, slice_get, slice_index, Option, Some, None}
use Rattle.std.specs.Option.{option_map, IfSome}
use Rattle.std.specs.List.{filter_map, list_any}
use Rattle.idx_outside.specs.Files.{file_at, HasStep as HasCommitted}
use Rattle.idx_outside.specs.declared.mem_file.MemFile.{MemFile}
use Rattle.idx_table.specs.Table.{first_fault, row_at}
use Rattle.idx_table.specs.declared.row.Row.{Row}
use Rattle.idx_table.specs.declared.table_fault.TableFault.{TableFault}
use Rattle.idx_header.specs.Header.{HeaderValue, HasTime}
use Rattle.idx_header.specs.Names.{file_name, step_folder}
use Rattle.idx_header.specs.Revisions.{header_that_stands}
use Rattle.idx_rowmajor.specs.declared.layout.Layout.{Layout}
use Rattle.idx_layout.specs.Placing.{Placing, block_bytes, file_numbers, file_of}
use Rattle.idx_layout.specs.Layout.{in_hz_order}
use Rattle.idx_layout.specs.Files.{file_bytes, row_count}
use Rattle.idx_layout.specs.OfHeader.{placing_of}
use Rattle.idx_layout.specs.Shape.{block_lengths}
use Rattle.idx_edition.specs.declared.load_fault.LoadFault.{LoadFault}
use Rattle.idx_edition.specs.declared.load_fault.LoadFault.TheVariants.{BadTable}

-- The step stands at the header's own revision: the header has it, and where the header has a time, some committed file is of its
-- folder.
abbrev pub Stands : HeaderValue → ℕ → List MemFile → Type 0
Stands h step files = HasTime h step × IfSome (step_folder h step) (λ folder. HasCommitted folder files)

-- The step stands, and this is the header at its newest revision.
abbrev pub StandsAs : HeaderValue → ℕ → List MemFile → HeaderValue → Type 0
StandsAs h step files revised = HasTime h step × (header_that_stands h step files ≡ Some revised)

-- The step does not stand: the header lacks it, or no revision of it stands.
abbrev pub IsAbsent : HeaderValue → ℕ → List MemFile → Type 0
IsAbsent h step files = HasTime h step → header_that_stands h step files ≡ None

-- the fault of a row, as the fault of a file of this number
abbrev pub bad_table : ℕ → TableFault → LoadFault
bad_table file fault = BadTable file fault.row fault.kind

-- the fault of the first faulty row of a file of these bytes, if there is one; a file that is not there has none
abbrev pub fault_of_bytes : Placing → ℕ → Option (List ℕ) → Option LoadFault
fault_of_bytes l file None = None
fault_of_bytes l file (Some bytes) =
    option_map (bad_table file) (first_fault bytes (row_count l) (block_lengths l) (length bytes))

-- the fault of the first faulty row of a file of the step, if there is one
abbrev pub fault_of_file : HeaderValue → ℕ → List MemFile → ℕ → Option LoadFault
fault_of_file h step files file = fault_of_bytes (placing_of h) file (file_at (file_name h step file) files)

-- The first faulty row of the step, if there is one, in the order of files and then of rows. The files are those that the
-- writer would write, as far as they are there.
abbrev pub first_bad : HeaderValue → ℕ → List MemFile → Option LoadFault
first_bad h step files = slice_get (filter_map (fault_of_file h step files) (file_numbers (placing_of h))) 0

-- the path and the bytes of a file of the step, if it is there
abbrev pub found_file : HeaderValue → ℕ → List MemFile → ℕ → Option (List ℕ × List ℕ)
found_file h step files file =
    option_map (λ bytes. (file_name h step file, bytes)) (file_at (file_name h step file) files)

-- the files of the step that are there, rising, of those that the writer would write
abbrev pub found_files : HeaderValue → ℕ → List MemFile → List (List ℕ × List ℕ)
found_files h step files = filter_map (found_file h step files) (file_numbers (placing_of h))

-- the row of a block of a field in the table of a file of these bytes, which is the block's file
abbrev pub row_in : Placing → List ℕ → ℕ → ℕ → Row
row_in l bytes field block = row_at bytes (field * l.per_file + (block - file_of l block))

-- such a file has the block: its row has a size other than 0. A file that is not there has none
abbrev pub has_in : Placing → Option (List ℕ) → ℕ → ℕ → Bool
has_in l None field block = false
has_in l (Some bytes) field block = nat_lt 0 (row_in l bytes field block).size

-- the block's bytes in such a file, in hierarchical order: those at the row's offset, which stand as the row's flags say, or
-- zeros where the file lacks the block
abbrev pub block_in : Placing → Option (List ℕ) → ℕ → ℕ → List ℕ
block_in l None field block = replicate (block_bytes l field) 0
block_in l (Some bytes) field block =
    if nat_lt 0 (row_in l bytes field block).size then
    in_hz_order l (slice_index l.sizes field) block (row_in l bytes field block).flags
    (take (block_bytes l field) (drop (row_in l bytes field block).offset bytes))
    else replicate (block_bytes l field) 0

-- the bytes of the block's file, where that is one that the writer would write, and there
abbrev pub file_of_block : HeaderValue → ℕ → List MemFile → ℕ → Option (List ℕ)
file_of_block h step files block =
    if list_any (λ file. file == file_of (placing_of h) block) (file_numbers (placing_of h)) then
    file_at (file_name h step (file_of (placing_of h) block)) files
    else None

-- the step has the block of a field
abbrev pub has_block : HeaderValue → ℕ → List MemFile → ℕ → ℕ → Bool
has_block h step files field block = has_in (placing_of h) (file_of_block h step files block) field block

-- the stored bytes of the block of a field; where the step lacks it, they are zeros
abbrev pub stored_block : HeaderValue → ℕ → List MemFile → ℕ → ℕ → List ℕ
stored_block h step files field block = block_in (placing_of h) (file_of_block h step files block) field block

-- the committed files have those of a step, which are the files of a volume in a layout
abbrev pub HasFiles : Layout → HeaderValue → ℕ → List (List (List ℕ)) → List MemFile → Type 0
HasFiles layout h step volume files = (i file : ℕ) → slice_get (file_numbers (placing_of h)) i ≡ Some file →
    file_at (file_name h step file) files ≡ Some (file_bytes layout (placing_of h) volume file)
