-- The table of blocks at the head of a file: forty bytes, which are passed over, and then the rows of forty bytes each,
-- as many for each field, field after field. The faults of its rows are tried row by row.
use Rattle.std.specs.Prelude.{◌≡◌, ℕ, Bool, ◌<◌, ◌+◌, ◌*◌, ◌/◌, ◌==◌, ◌||◌, not, nat_lt, if◌then◌else◌, List, length, map, take, drop, slice_get, slice_index, Option, Some, None}
use Rattle.std.specs.Option.{option_map}
use Rattle.std.specs.List.{filter_map, range_with_len}
use Rattle.idx_table.specs.Row.{raw, row_major, row_length, row_of}
use Rattle.idx_table.specs.declared.row.Row.{Row}
use Rattle.idx_table.specs.declared.table_fault.TableFault.{TableFault}
use Rattle.idx_table.specs.declared.table_fault.TableKind.{TableKind}
use Rattle.idx_table.specs.declared.table_fault.TableKind.TheVariants.{CutShort, Compressed, WrongSize, OutsideFile}

-- how many bytes a table of so many rows has; row i ends where a table of i + 1 rows does
abbrev pub table_bytes : ℕ → ℕ
table_bytes rows = row_length + row_length * rows

-- row i of the table with which a file begins
abbrev pub row_at : List ℕ → ℕ → Row
row_at front i = row_of (take row_length (drop (table_bytes i) front))

-- all of so many rows
abbrev pub rows_of : List ℕ → ℕ → List Row
rows_of front rows = map (row_at front) (range_with_len 0 rows)

-- the field of row i, where there are so many rows of so many fields
abbrev pub field_of : ℕ → ℕ → ℕ → ℕ
field_of rows fields i = i / (rows / fields)

-- the block of a row begins inside a table of so many rows, or ends past the end of a file of so many bytes
abbrev pub is_outside : ℕ → ℕ → Row → Bool
is_outside rows len row = nat_lt row.offset (table_bytes rows) || nat_lt len (row.offset + row.size)

-- the samples of a block with these flags are raw, in one of the two orders
abbrev pub is_raw : ℕ → Bool
is_raw flags = flags == raw || flags == row_major

-- what is wrong with a row that stands in such a file whole, if anything: `size` are the bytes of a block of its field. A
-- row of size 0 says that the block is absent, whatever else it says
abbrev pub fault_in : ℕ → ℕ → ℕ → Row → Option TableKind
fault_in rows size len row =
    if row.size == 0 then None
    else if not (is_raw row.flags) then Some Compressed
    else if nat_lt row.size size || nat_lt size row.size then Some WrongSize
    else if is_outside rows len row then Some OutsideFile
    else None

-- what is wrong with row i, if anything: the row is cut short where some byte of it stands at or past the file's end.
-- `blocks` are the bytes of a block of each field
abbrev pub kind_of_row : List ℕ → ℕ → List ℕ → ℕ → ℕ → Option TableKind
kind_of_row front rows blocks len i =
    if nat_lt len (table_bytes (i + 1)) then Some CutShort
    else fault_in rows (slice_index blocks (field_of rows (length blocks) i)) len (row_at front i)

-- a fault of row i
abbrev pub fault_at : ℕ → TableKind → TableFault
fault_at i kind = record { row = i; kind = kind }

-- the fault of row i, if it has one
abbrev pub fault_of_row : List ℕ → ℕ → List ℕ → ℕ → ℕ → Option TableFault
fault_of_row front rows blocks len i =
    option_map (fault_at i) (kind_of_row front rows blocks len i)

-- the fault of the first faulty row, if there is one
abbrev pub first_fault : List ℕ → ℕ → List ℕ → ℕ → Option TableFault
first_fault front rows blocks len = slice_get (filter_map (fault_of_row front rows blocks len) (range_with_len 0 rows)) 0

-- this is the fault of the first faulty row: no row before it has one
pub record IsFirstFault (front : List ℕ) (rows : ℕ) (blocks : List ℕ) (len : ℕ) (fault : TableFault) : Type 0 where
  pub exists : fault.row < rows
  pub kind : kind_of_row front rows blocks len fault.row ≡ Some fault.kind
  pub before : (i : ℕ) → i < fault.row → kind_of_row front rows blocks len i ≡ None
