-- The tables of the files of a step that are there, and which blocks the step has by them.
use Rattle.std.specs.Prelude.{◌≡◌, ℕ, ◌+◌, ◌-◌, ◌*◌, ◌/◌, ◌<◌, ◌≤◌, ◌==◌, Bool, false, nat_lt, if◌then◌else◌, List, [], ◌∷◌, length, map, take, drop, replicate, slice_get, slice_index, Option, Some, None, ⊤}
use Rattle.std.specs.Option.{option_map, ForSome}
use Rattle.idx_outside.specs.Shape.{Shape}
use Rattle.idx_header.specs.Header.{HeaderValue}
use Rattle.idx_rowmajor.specs.declared.layout.Layout.{Layout}
use Rattle.idx_layout.specs.Placing.{Placing, file_numbers}
use Rattle.idx_layout.specs.Layout.{in_hz_order}
use Rattle.idx_layout.specs.Files.{rows_of_file}
use Rattle.idx_layout.specs.OfHeader.{placing_of}
use Rattle.idx_layout.specs.Shape.{block_lengths, shape_of}
use Rattle.idx_table.specs.declared.row.Row.{Row}

-- the header of the dataset; and the numbers of the files, each with the rows of its table
pub record TablesValue : Type 0 where
  pub header : HeaderValue
  pub numbers : List ℕ
  pub tables : List (List Row)

-- the tables of files of a dataset
abbrev pub tables_of : HeaderValue → List ℕ → List (List Row) → TablesValue
tables_of h numbers tables = record { header = h; numbers = numbers; tables = tables }

-- those of the files of a step as the writer lays them out
abbrev pub written_tables : Layout → HeaderValue → TablesValue
written_tables layout h =
    tables_of h (file_numbers (placing_of h)) (map (rows_of_file layout (placing_of h)) (file_numbers (placing_of h)))

-- how many blocks there are, and how many bytes a block of each field has
abbrev pub shape_in : TablesValue → Shape
shape_in t = shape_of t.header

-- the number of the file of a block, where files have so many places
abbrev pub file_in : ℕ → ℕ → ℕ
file_in per_file block = per_file * (block / per_file)

-- what stands at a key: what is beside it in the second list
abbrev pub value_at : {X : Type 0} → ℕ → List ℕ → List X → Option X
value_at key [] values = None
value_at key (k ∷ keys) [] = None
value_at key (k ∷ keys) (x ∷ values) = if k == key then Some x else value_at key keys values

-- the row of a block of a field in the table of its file, if that is there
abbrev pub row_among : ℕ → ℕ → ℕ → Option (List Row) → Option Row
row_among per_file field block None = None
row_among per_file field block (Some rows) = slice_get rows (field * per_file + (block - file_in per_file block))

abbrev pub row_for : TablesValue → ℕ → ℕ → Option Row
row_for t field block =
    row_among t.header.blocks_per_file field block (value_at (file_in t.header.blocks_per_file block) t.numbers t.tables)

-- the block of a row is there: the row has a size other than 0
abbrev pub is_there : Option Row → Bool
is_there None = false
is_there (Some row) = nat_lt 0 row.size

abbrev pub has_in_tables : TablesValue → ℕ → ℕ → Bool
has_in_tables t field block = is_there (row_for t field block)

-- the order of a block of a field by the flags of its row
abbrev pub order_of : Placing → ℕ → ℕ → ℕ → List ℕ → List ℕ
order_of l field block = in_hz_order l (slice_index l.sizes field) block

-- the bytes of the block of a row in a file: those at the row's offset, in the order that its flags say, or zeros where it is
-- not there
abbrev pub bytes_by : (ℕ → List ℕ → List ℕ) → ℕ → Option Row → Option (List ℕ) → List ℕ
bytes_by order len None file = replicate len 0
bytes_by order len (Some row) None = replicate len 0
bytes_by order len (Some row) (Some bytes) =
    if nat_lt 0 row.size then order row.flags (take len (drop row.offset bytes)) else replicate len 0

abbrev pub bytes_in : TablesValue → List (List ℕ) → ℕ → ℕ → List ℕ
bytes_in t files field block =
    bytes_by (order_of (placing_of t.header) field block) (slice_index (block_lengths (placing_of t.header)) field) (row_for t field block)
    (value_at (file_in t.header.blocks_per_file block) t.numbers files)

-- the bytes of a leaf before those of others, if all are known
abbrev pub with_known : Option (List ℕ) → Option (List (List ℕ)) → Option (List (List ℕ))
with_known None rest = None
with_known (Some bytes) None = None
with_known (Some bytes) (Some rest) = Some (bytes ∷ rest)

-- the bytes of all leaves, if those of each are known
abbrev pub all_known : List (List ℕ × Option (List ℕ)) → Option (List (List ℕ))
all_known [] = Some []
all_known (leaf ∷ leaves) = with_known leaf.1 (all_known leaves)

-- the bytes of each block of a field, if those of each file are known
abbrev pub stored_in : TablesValue → List (List ℕ × Option (List ℕ)) → Option (ℕ → ℕ → List ℕ)
stored_in t leaves = option_map (bytes_in t) (all_known leaves)

-- the numbers rise, from one on
abbrev pub RiseFrom : ℕ → List ℕ → Type 0
RiseFrom a [] = ⊤
RiseFrom a (x ∷ xs) = (a ≤ x) × RiseFrom (x + 1) xs

-- a table has a row for each place of each field, and each block that is there has the length of its field's
pub record IsTable (lengths : List ℕ) (per_file : ℕ) (rows : List Row) : Type 0 where
  pub count : length rows ≡ length lengths * per_file
  pub sizes : (i : ℕ) (row : Row) → slice_get rows i ≡ Some row → 0 < row.size → row.size ≡ slice_index lengths (i / per_file)

-- each block that is there ends within so many bytes
pub record EndWithin (rows : List Row) (len : ℕ) : Type 0 where
  pub ends : (i : ℕ) (row : Row) → slice_get rows i ≡ Some row → 0 < row.size → row.offset + row.size ≤ len

-- the numbers rise, and each file has a table
pub record AreTables (t : TablesValue) : Type 0 where
  pub rising : RiseFrom 0 t.numbers
  pub same : length t.tables ≡ length t.numbers
  pub places : 1 ≤ t.header.blocks_per_file
  pub few_places : t.header.blocks_per_file ≤ 65536
  pub few_fields : length (block_lengths (placing_of t.header)) ≤ 64
  pub each : (i : ℕ) (rows : List Row) → slice_get t.tables i ≡ Some rows →
      IsTable (block_lengths (placing_of t.header)) t.header.blocks_per_file rows

-- the tables are those of these files, each with what is known of its bytes
pub record AreTablesOf (tables : List (List Row)) (leaves : List (List ℕ × Option (List ℕ))) : Type 0 where
  pub same : length leaves ≡ length tables
  pub within : (i : ℕ) (rows : List Row) (leaf : List ℕ × Option (List ℕ)) → slice_get tables i ≡ Some rows →
      slice_get leaves i ≡ Some leaf → ForSome leaf.1 (λ bytes. EndWithin rows (length bytes))

-- where the block of a field stands: in the file with this place among those that are there, from this offset on, under these
-- flags
pub record StandsAt (t : TablesValue) (field block file offset flags : ℕ) : Type 0 where
  pub number : slice_get t.numbers file ≡ Some (file_in t.header.blocks_per_file block)
  pub rows : List Row
  pub table : slice_get t.tables file ≡ Some rows
  pub row : Row
  pub at : slice_get rows (field * t.header.blocks_per_file + (block - file_in t.header.blocks_per_file block)) ≡ Some row
  pub some : 0 < row.size
  pub begins : offset ≡ row.offset
  pub flagged : flags ≡ row.flags
