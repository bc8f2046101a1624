-- What an edition is, and what loading one promises.
use Rattle.std.specs.Prelude.{◌≡◌, ◌≢◌, ◌⊎◌, ℕ, Bool, ◌<◌, List, length, map, slice_get, slice_index, Option, Some, None, IfSome}
use Rattle.std.specs.Option.{option_map, ForSome}
use Rattle.idx_geom.specs.Region.{points}
use Rattle.idx_geom.specs.Volume.{IsVolume}
use Rattle.idx_outside.specs.Cause.{Rose}
use Rattle.idx_outside.specs.Files.{known_files, file_at}
use Rattle.idx_outside.specs.Shape.{Shape}
use Rattle.idx_outside.specs.declared.bay_call.BayCall.{BayCall}
use Rattle.idx_outside.specs.declared.bay_call.BayCall.TheVariants.{HasStep, Leaf}
use Rattle.idx_outside.specs.declared.mem_file.MemFile.{MemFile}
use Rattle.idx_table.specs.Table.{rows_of}
use Rattle.idx_table.specs.declared.row.Row.{Row}
use Rattle.idx_header.specs.Header.{HeaderValue}
use Rattle.idx_header.specs.Names.{file_name}
use Rattle.idx_rowmajor.specs.declared.layout.Layout.{Layout}
use Rattle.idx_layout.specs.Placing.{block_of_samples, file_numbers}
use Rattle.idx_layout.specs.Files.{file_bytes, row_count}
use Rattle.idx_layout.specs.OfHeader.{placing_of}
use Rattle.idx_edition.specs.Stored.{Stands, first_bad, found_files, has_block, stored_block}
use Rattle.idx_edition.specs.declared.load_fault.LoadFault.{LoadFault}
use Rattle.idx_edition.specs.declared.load_fault.LoadFault.TheVariants.{BadTable, StoreFault, NoMemory}

-- Of each block of each field of a shape, this.
abbrev pub OfBlocks : Shape → (ℕ → ℕ → Type 0) → Type 0
OfBlocks shape P = (field block : ℕ) → field < length shape.lengths → block < shape.blocks → P field block

-- An edition of the committed files: it has the blocks that they store, with their bytes, and no row of them is faulty.
-- `shape`, `has` and `stored` are what the edition tells, and `leaves` its files, each with what is known of its bytes.
pub record HoldsStored (h : HeaderValue) (step : ℕ) (files : List MemFile) (shape : Shape) (has : ℕ → ℕ → Bool)
    (stored : Option (ℕ → ℕ → List ℕ)) (leaves : List (List ℕ × Option (List ℕ))) : Type 0 where
  pub sound : first_bad h step files ≡ None
  pub has_blocks : OfBlocks shape (λ field block. has field block ≡ has_block h step files field block)
  pub content : ForSome stored (λ stored. OfBlocks shape (λ field block. stored field block ≡ stored_block h step files field block))
  pub known : stored ≢ None
  pub same_files : leaves ≡ known_files (Some files) (found_files h step files)

-- Leaves are the files of a step as the writer lays them out: they have the paths of its files, and the bytes of the files of
-- one volume in a layout, as far as these are known.
pub record AreWritten (layout : Layout) (h : HeaderValue) (step : ℕ) (volume : List (List (List ℕ))) (leaves : List (List ℕ × Option (List ℕ))) : Type 0 where
  pub whole : IsVolume (placing_of h).sizes (length (points h.box)) volume
  pub paths : map (λ leaf. leaf.0) leaves ≡ map (file_name h step) (file_numbers (placing_of h))
  pub bytes : (i file : ℕ) (path : List ℕ) (bytes : List ℕ) → slice_get (file_numbers (placing_of h)) i ≡ Some file →
      slice_get leaves i ≡ Some (path, Some bytes) → bytes ≡ file_bytes layout (placing_of h) volume file

-- These are the bytes of the block of a field of a volume; an absent block is zeros.
abbrev pub IsWrittenBlock : HeaderValue → List (List (List ℕ)) → ℕ → ℕ → List ℕ → Type 0
IsWrittenBlock h volume field block bytes =
    (samples : List (List ℕ)) → slice_get volume field ≡ Some samples →
    bytes ≡ block_of_samples (placing_of h) (slice_index (placing_of h).sizes field) samples block

-- What a bay and a reader counted, before and after: their faults, and which call of the bay counted the last one.
pub record Counts : Type 0 where
  pub bay_before : ℕ
  pub bay_after : ℕ
  pub failed_before : Option BayCall
  pub failed_after : Option BayCall
  pub reader_before : ℕ
  pub reader_after : ℕ

-- the same of a bay and a reader, by the ghost members of their traits
abbrev pub counts : {B R : Type 0} → (B → ℕ) → (B → Option BayCall) → (R → ℕ) → B → B → R → R → Counts
counts bay_faults failed reader_faults bay_old bay_new reader_old reader_new =
    record {
      bay_before = bay_faults bay_old;
      bay_after = bay_faults bay_new;
      failed_before = failed bay_old;
      failed_after = failed bay_new;
      reader_before = reader_faults reader_old;
      reader_after = reader_faults reader_new;
    }

-- the call asks for a step, or for a file of one
abbrev pub AsksStep : Option BayCall → Type 0
AsksStep call = (call ≡ Some HasStep) ⊎ (call ≡ Some Leaf)

-- no call of the bay counted a fault
pub record IsBayQuiet (c : Counts) : Type 0 where
  pub count : c.bay_after ≡ c.bay_before
  pub failed : c.failed_after ≡ c.failed_before

-- the bay counted a fault when it was asked for the step or for a file of it, and the reader none
pub record IsBayFault (c : Counts) : Type 0 where
  pub rose : Rose c.bay_before c.bay_after
  pub call : AsksStep c.failed_after
  pub reader : c.reader_after ≡ c.reader_before

-- the reader counted a fault, and the bay none
pub record IsReaderFault (c : Counts) : Type 0 where
  pub rose : Rose c.reader_before c.reader_after
  pub bay : IsBayQuiet c

-- What each fault of opening files says, where a faulty table means this, of what the bay and the reader counted.
abbrev pub IsCause : (LoadFault → Type 0) → Counts → LoadFault → Type 0
IsCause IsBad c (BadTable file row kind) =
    IsBad (BadTable file row kind) × IsBayQuiet c × (c.reader_after ≡ c.reader_before)
IsCause IsBad c (StoreFault faults) =
    (IsBayFault c × (faults ≡ c.bay_after)) ⊎ (IsReaderFault c × (faults ≡ c.reader_after))
IsCause IsBad c NoMemory = IsBayQuiet c × (c.reader_after ≡ c.reader_before)

-- The same of reading the table of a file, which asks nothing of the bay: by the reader's counts.
abbrev pub IsReadCause : (LoadFault → Type 0) → ℕ → ℕ → LoadFault → Type 0
IsReadCause IsBad before after (BadTable file row kind) = IsBad (BadTable file row kind) × (after ≡ before)
IsReadCause IsBad before after (StoreFault faults) = Rose before after × (faults ≡ after)
IsReadCause IsBad before after NoMemory = after ≡ before

-- The same of opening the files of a step, where this is known of the committed files: a faulty table is the first of the step.
abbrev pub IsOpenCause : HeaderValue → ℕ → Option (List MemFile) → Counts → LoadFault → Type 0
IsOpenCause h step known c fault = IsCause (λ bad. IfSome known (λ files. first_bad h step files ≡ Some bad)) c fault

-- The same of loading the step: it stands.
abbrev pub IsLoadCause : HeaderValue → ℕ → Option (List MemFile) → Counts → LoadFault → Type 0
IsLoadCause h step known c fault =
    IsCause (λ bad. IfSome known (λ files. Stands h step files × (first_bad h step files ≡ Some bad))) c fault

-- the rows, the path and the bytes of a file of the step
abbrev pub found_table : HeaderValue → ℕ → ℕ → List ℕ → List Row × (List ℕ × Option (List ℕ))
found_table h step file bytes = (rows_of bytes (row_count (placing_of h)), (file_name h step file, Some bytes))

abbrev pub table_at : HeaderValue → ℕ → List MemFile → ℕ → Option (List Row × (List ℕ × Option (List ℕ)))
table_at h step files file = option_map (found_table h step file) (file_at (file_name h step file) files)

-- the number of a file of the step, the rows, and the path and the bytes, if it is there
abbrev pub number_at : HeaderValue → ℕ → List MemFile → ℕ → Option ℕ
number_at h step files file = option_map (λ bytes. file) (file_at (file_name h step file) files)

abbrev pub rows_at : HeaderValue → ℕ → List MemFile → ℕ → Option (List Row)
rows_at h step files file = option_map (λ bytes. rows_of bytes (row_count (placing_of h))) (file_at (file_name h step file) files)

abbrev pub leaf_at : HeaderValue → ℕ → List MemFile → ℕ → Option (List ℕ × Option (List ℕ))
leaf_at h step files file = option_map (λ bytes. (file_name h step file, Some bytes)) (file_at (file_name h step file) files)
