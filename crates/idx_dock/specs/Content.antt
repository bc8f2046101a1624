-- What a dock writes: the bytes of its file, by addresses.
use Rattle.std.specs.Prelude.{ℕ, ◌+◌, ◌-◌, ◌*◌, ◌^◌, ◌==◌, ◌&&◌, nat_le, nat_lt, Bool, List, [], ◌++◌, length, find, take, drop, replicate}
use Rattle.std.specs.List.{flat_map, range_with_len, slice_index_or}
use Rattle.std.specs.Option.{option_map_or, unwrap_or}
use Rattle.idx_geom.specs.Volume.{sample_at}
use Rattle.idx_table.specs.Row.{row_bytes, row_length}
use Rattle.idx_header.specs.Header.{HeaderValue, sample_bytes_of}
use Rattle.idx_layout.specs.Placing.{present_blocks}
use Rattle.idx_layout.specs.Layout.{arranged}
use Rattle.idx_layout.specs.Files.{rows_of_file}
use Rattle.idx_layout.specs.OfHeader.{placing_of}
use Rattle.idx_rowmajor.specs.declared.layout.Layout.{Layout}
use Rattle.idx_rowmajor.specs.declared.layout.Layout.TheVariants.{Hz}
use Rattle.idx_pieces.specs.Runs.{run_length}
use Rattle.idx_pieces.specs.declared.run.Run.{Run}
use Rattle.idx_dock.specs.Dock.{DockValue}
use Rattle.idx_dock.specs.declared.awaited.Awaited.{Awaited}

-- the runs that were delivered
abbrev pub runs_in : List Awaited → List Run
runs_in awaited = flat_map (λ a. unwrap_or a.runs []) awaited

-- the run has a sample of the field at the address
abbrev pub has_sample : HeaderValue → ℕ → ℕ → Run → Bool
has_sample h field address run =
    (run.field == field) && (nat_le run.first address && nat_lt address (run.first + run_length h run))

-- the run's sample at an address
abbrev pub run_sample : HeaderValue → ℕ → Run → List ℕ
run_sample h address run =
    take (sample_bytes_of h run.field) (drop (sample_bytes_of h run.field * (address - run.first)) run.bytes)

-- the sample of a field at an address: that of the delivered run that has it, and zeros where none has
abbrev pub sample_among : HeaderValue → List Run → ℕ → ℕ → List ℕ
sample_among h runs field address =
    option_map_or (run_sample h address) (find (has_sample h field address) runs) (replicate (sample_bytes_of h field) 0)

-- a block of a field: the samples at its addresses
abbrev pub block_among : HeaderValue → List Run → ℕ → ℕ → List ℕ
block_among h runs field block =
    flat_map (sample_among h runs field) (range_with_len (block * 2 ^ h.block_bits) (2 ^ h.block_bits))

-- the same as it stands in a file, its samples in the order of a layout
abbrev pub stored_among : Layout → HeaderValue → List Run → ℕ → ℕ → List ℕ
stored_among layout h runs field block =
    arranged layout (placing_of h) (sample_bytes_of h field) block (block_among h runs field block)

-- the present blocks of a field of a file
abbrev pub field_among : Layout → HeaderValue → ℕ → List Run → ℕ → List ℕ
field_among layout h file runs field = flat_map (stored_among layout h runs field) (present_blocks (placing_of h) file)

-- those of all fields
abbrev pub fields_among : Layout → HeaderValue → ℕ → List Run → List ℕ
fields_among layout h file runs = flat_map (field_among layout h file runs) (range_with_len 0 (length h.fields))

-- the bytes of a file: forty zeros, the rows, and the present blocks, field after field
abbrev pub file_among : Layout → HeaderValue → ℕ → List Run → List ℕ
file_among layout h file runs =
    replicate row_length 0 ++ flat_map row_bytes (rows_of_file layout (placing_of h) file)
    ++ fields_among layout h file runs

-- the sample of a field at an address of a dock's file
abbrev pub dock_sample : DockValue → ℕ → ℕ → List ℕ
dock_sample d = sample_among d.header (runs_in d.awaited)

-- the bytes of a dock's file, with its blocks in a layout
abbrev pub dock_bytes_as : Layout → DockValue → List ℕ
dock_bytes_as layout d = file_among layout d.header d.file (runs_in d.awaited)

-- those in hierarchical order
abbrev pub dock_bytes : DockValue → List ℕ
dock_bytes d = dock_bytes_as Hz d

-- the samples of a volume, by their field and point
abbrev pub sample_of : HeaderValue → List (List (List ℕ)) → ℕ → List ℕ → List ℕ
sample_of h volume field p = sample_at h.box (slice_index_or volume field []) p
