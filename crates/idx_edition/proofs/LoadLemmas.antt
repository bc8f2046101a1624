-- What the first bytes of a file say of it, and what a faulty table does.
use Rattle.std.proofs.Common.{◌≡◌, ℕ, ◌*◌, ◌≤◌, min, List, length, take, Some, None, refl, sym, ap, subst, ◌∙◌, arith}
use Rattle.std.specs.Prelude.{Option, IfSome, ◌≢◌}
use Rattle.std.proofs.lemmas.List.{length-map}
use Rattle.idx_fields.specs.Field.{sample_bytes}
use Rattle.idx_header.specs.Header.{HeaderValue}
use Rattle.idx_layout.specs.OfHeader.{placing_of}
use Rattle.std.specs.Option.{ForSome, option_map}
use Rattle.std.proofs.Math.Nat.{mul-le-mul}
use Rattle.std.proofs.lemmas.List.FromFn.{length-map-range_with_len}
use Rattle.idx_table.specs.Table.{table_bytes, rows_of, first_fault}
use Rattle.idx_table.specs.declared.table_fault.TableFault.{TableFault}
use Rattle.idx_table.specs.declared.table_fault.TableKind.{TableKind}
use Rattle.idx_table.specs.declared.table_fault.TableKind.TheVariants as kinds
use Rattle.idx_layout.specs.Placing.{Placing, block_bytes}
use Rattle.idx_layout.specs.Files.{row_count}
use Rattle.idx_layout.specs.Shape.{block_lengths}
use Rattle.idx_edition.specs.Stored.{bad_table, fault_of_bytes}
use Rattle.idx_edition.specs.Tables.{EndWithin, IsTable}
use Rattle.idx_edition.specs.Loaded.{IsReadCause}
use Rattle.idx_edition.specs.declared.load_fault.LoadFault.{LoadFault}
use Rattle.idx_edition.specs.declared.load_fault.LoadFault.TheVariants.{BadTable, NoMemory}
use Rattle.idx_edition.proofs.FrontLemmas.{first_fault-front, rows_of-front, rows-right}

-- the first bytes of a file, as far as its table goes, of which this is known
pub record IsFront (known : Option (List ℕ)) (front : List ℕ) (l : Placing) (rows len m : ℕ) (lengths : List ℕ) : Type 0 where
  pub all_rows : rows ≡ row_count l
  pub fields : 1 ≤ length l.sizes
  pub places : 1 ≤ l.per_file
  pub blocks : lengths ≡ block_lengths l
  pub count : m ≡ min (table_bytes (row_count l)) len
  pub whole : IfSome known (λ bytes. len ≡ length bytes)
  pub bytes : IfSome known (λ bytes. front ≡ take m bytes)

pub front_of : (h : HeaderValue) (known : Option (List ℕ)) (front read : List ℕ) (rows len m table : ℕ) (lengths : List ℕ) →
    rows ≡ length h.fields * h.blocks_per_file → 1 ≤ length h.fields → 1 ≤ h.blocks_per_file → lengths ≡ block_lengths (placing_of h) →
    table ≡ table_bytes (row_count (placing_of h)) → m ≡ min table len → IfSome known (λ bytes. len ≡ length bytes) →
    IfSome known (λ bytes. read ≡ take m bytes) → front ≡ read → IsFront known front (placing_of h) rows len m lengths
front_of h known front read rows len m table lengths product fields places blocks head count whole bytes is = record {
  all_rows = product ∙ ap (λ n. n * h.blocks_per_file) (sym (length-map h.fields sample_bytes));
  fields = subst (λ n. 1 ≤ n) (sym (length-map h.fields sample_bytes)) fields;
  places = places;
  blocks = blocks;
  count = count ∙ ap (λ n. min n len) head;
  whole = whole;
  bytes = subst (λ (f : List ℕ). IfSome known (λ bytes. f ≡ take m bytes)) (sym is) bytes;
}

some_rows : (a b : ℕ) → 1 ≤ a → 1 ≤ b → 1 ≤ a * b
some_rows a b x y =
    let product : 1 * 1 ≤ a * b = mul-le-mul x y in
    omega (arith, product)

module _ (front : List ℕ) (l : Placing) (rows len m : ℕ) (lengths : List ℕ) where
  same_count : rows ≡ row_count l → m ≡ min (table_bytes (row_count l)) len → m ≡ min (table_bytes rows) len
  same_count is at = at ∙ ap (λ n. min (table_bytes n) len) (sym is)

  pub front-rows : (known : Option (List ℕ)) → IsFront known front l rows len m lengths → first_fault front rows lengths len ≡ None →
      IfSome known (λ bytes. rows_of front rows ≡ rows_of bytes (row_count l))
  front-rows None is none = tt
  front-rows (Some bytes) is none =
      ap (λ f. rows_of f rows) is.bytes
      ∙ rows_of-front bytes rows lengths len m (same_count is.all_rows is.count) (omega (arith, is.all_rows, some_rows (length l.sizes) l.per_file is.fields is.places))
      (ap (λ f. first_fault f rows lengths len) (sym is.bytes) ∙ none)
      ∙ ap (rows_of bytes) is.all_rows

  -- the first fault of the whole file
  whole_fault : (bytes : List ℕ) → IsFront (Some bytes) front l rows len m lengths →
      first_fault bytes (row_count l) (block_lengths l) (length bytes) ≡ first_fault front rows lengths len
  whole_fault bytes is =
      ap (λ n. first_fault bytes (row_count l) (block_lengths l) n) (sym is.whole)
      ∙ ap (λ (s : List ℕ). first_fault bytes (row_count l) s len) (sym is.blocks)
      ∙ ap (λ n. first_fault bytes n lengths len) (sym is.all_rows)
      ∙ sym (first_fault-front bytes rows lengths len m (same_count is.all_rows is.count))
      ∙ ap (λ f. first_fault f rows lengths len) (sym is.bytes)

  pub front-sound : (known : Option (List ℕ)) (file : ℕ) → IsFront known front l rows len m lengths → first_fault front rows lengths len ≡ None →
      IfSome known (λ bytes. fault_of_bytes l file (Some bytes) ≡ None)
  front-sound None file is none = tt
  front-sound (Some bytes) file is none = ap (option_map (bad_table file)) (whole_fault bytes is ∙ none)

  pub front-bad : (known : Option (List ℕ)) (file : ℕ) (fault : TableFault) → IsFront known front l rows len m lengths → first_fault front rows lengths len ≡ Some fault →
      IfSome known (λ bytes. fault_of_bytes l file (Some bytes) ≡ Some (BadTable file fault.row fault.kind))
  front-bad None file fault is bad = tt
  front-bad (Some bytes) file fault is bad = ap (option_map (bad_table file)) (whole_fault bytes is ∙ bad)

  right : (known : Option (List ℕ)) → IsFront known front l rows len m lengths → first_fault front rows lengths len ≡ None →
      IsTable lengths l.per_file (rows_of front rows) × EndWithin (rows_of front rows) len
  right known is none =
      let count : length lengths ≡ length l.sizes = ap length is.blocks ∙ length-map-range_with_len (block_bytes l) 0 (length l.sizes) in
      subst (λ n. IsTable lengths l.per_file (rows_of front n) × EndWithin (rows_of front n) len) (sym is.all_rows)
      (rows-right front (length l.sizes) l.per_file lengths len is.fields count (ap (λ n. first_fault front n lengths len) (sym is.all_rows) ∙ none))

  pub front-table : (known : Option (List ℕ)) → IsFront known front l rows len m lengths → first_fault front rows lengths len ≡ None → IsTable lengths l.per_file (rows_of front rows)
  front-table known is none = (right known is none).0

  pub front-ends : (known : Option (List ℕ)) → IsFront known front l rows len m lengths → first_fault front rows lengths len ≡ None →
      ForSome known (λ bytes. EndWithin (rows_of front rows) (length bytes))
  front-ends None is none = λ bytes e. let wrong : ◌≡◌ {A = Option (List ℕ)} None (Some bytes) = e in absurd (cc)
  front-ends (Some bytes) is none = λ other e.
      let same : bytes ≡ other = cc in
      subst (λ n. EndWithin (rows_of front rows) n) (is.whole ∙ ap length same) (right (Some bytes) is none).1

-- a fault of a table is the file's, or want of memory
pub cause-table : (IsBad : LoadFault → Type 0) (file : ℕ) (fault : TableFault) (result : LoadFault) (b b' : ℕ) →
    (fault.kind ≡ kinds.NoMemory → result ≡ NoMemory) → (fault.kind ≢ kinds.NoMemory → result ≡ BadTable file fault.row fault.kind) →
    (fault.kind ≢ kinds.NoMemory → IsBad (BadTable file fault.row fault.kind)) → b' ≡ b → IsReadCause IsBad b b' result
cause-table IsBad file fault result b b' memory table bad same' = by_kind fault.kind refl
  where
    of_table : fault.kind ≢ kinds.NoMemory → IsReadCause IsBad b b' result
    of_table other = subst (IsReadCause IsBad b b') (sym (table other)) (bad other, same')

    by_kind : (kind : TableKind) → fault.kind ≡ kind → IsReadCause IsBad b b' result
    by_kind kinds.NoMemory is = subst (IsReadCause IsBad b b') (sym (memory is)) same'
    by_kind kinds.CutShort is = of_table (λ e. let wrong : kinds.CutShort ≡ kinds.NoMemory = sym is ∙ e in cc)
    by_kind kinds.Compressed is = of_table (λ e. let wrong : kinds.Compressed ≡ kinds.NoMemory = sym is ∙ e in cc)
    by_kind kinds.WrongSize is = of_table (λ e. let wrong : kinds.WrongSize ≡ kinds.NoMemory = sym is ∙ e in cc)
    by_kind kinds.OutsideFile is = of_table (λ e. let wrong : kinds.OutsideFile ≡ kinds.NoMemory = sym is ∙ e in cc)
