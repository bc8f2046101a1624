-- What stands at a key, and where a block stands by the tables.
use Rattle.std.proofs.Common.{◌≡◌, ℕ, zero, suc, ◌+◌, ◌-◌, ◌*◌, ◌/◌, ◌%◌, ◌<◌, ◌≤◌, Bool, true, false, cond, List, [], ◌∷◌, length, take, drop, Some, None, refl, sym, ap, ◌∙◌, arith}
use Rattle.std.specs.Prelude.{Option, Ok, Err, IfSome, nat_lt, slice_get, slice_index, replicate}
use Rattle.std.specs.Option.{ForSome, option_map}
use Rattle.std.proofs.Math.ListN.{get_or}
use Rattle.std.proofs.Math.Nat.{div-add-mod', mod-lt, mul_comm, mul-le-mul_right, suc-mul}
use Rattle.std.proofs.lemmas.Bool.{eq-eqb, ne_eqb, lt-ltb}
use Rattle.std.proofs.lemmas.Nat.{div-mul-add}
use Rattle.std.specs.List.Sorted.{IsBinarySearchResult}
use Rattle.std.specs.Ordering.{nat_cmp}
use Rattle.std.proofs.lemmas.List.Sorted.{searched}
use Rattle.std.proofs.lemmas.List.{length-map}
use Rattle.std.proofs.lemmas.Option.{slice_get-map, slice_get_read, slice_get_within, get_or_from_slice_get, slice_get-get_or}
use Rattle.idx_outside.specs.Files.{entry_shown, shown}
use Rattle.idx_table.specs.declared.row.Row.{Row}
use Rattle.idx_layout.specs.OfHeader.{placing_of}
use Rattle.idx_layout.specs.Shape.{block_lengths}
use Rattle.idx_edition.specs.Tables.{TablesValue, AreTables, AreTablesOf, RiseFrom, StandsAt, all_known, bytes_by, bytes_in, file_in, has_in_tables, is_there, order_of, row_among, row_for, stored_in, value_at, with_known}

-- numbers that rise from one on are no lower
above : (a : ℕ) (xs : List ℕ) (i : ℕ) → RiseFrom a xs → i < length xs → a ≤ get_or xs i 0
above a [] i rise h = absurd (omega arith)
above a (x ∷ xs) zero rise h = rise.0
above a (x ∷ xs) (suc i) rise h =
    let low : a ≤ x = rise.0 in
    let more : x + 1 ≤ get_or xs i 0 = above (x + 1) xs i rise.1 (omega arith) in
    omega (arith, more, low)

pub rises : (a : ℕ) (xs : List ℕ) (i j : ℕ) → RiseFrom a xs → i ≤ j → j < length xs → get_or xs i 0 ≤ get_or xs j 0
rises a [] i j rise h within = absurd (omega arith)
rises a (x ∷ xs) zero zero rise h within = omega arith
rises a (x ∷ xs) zero (suc j) rise h within =
    let more : x + 1 ≤ get_or xs j 0 = above (x + 1) xs j rise.1 (omega arith) in
    omega (arith, more)
rises a (x ∷ xs) (suc i) zero rise h within = absurd (omega arith)
rises a (x ∷ xs) (suc i) (suc j) rise h within = rises (x + 1) xs i j rise.1 (omega arith) (omega arith)

-- what stands at the key in this place
pub value_at-place : {X : Type 0} (a key : ℕ) (keys : List ℕ) (values : List X) (i : ℕ) → RiseFrom a keys → length values ≡ length keys →
    i < length keys → get_or keys i 0 ≡ key → value_at key keys values ≡ slice_get values i
value_at-place a key [] values i rise same h at = absurd (omega arith)
value_at-place a key (k ∷ keys) [] i rise same h at = absurd (omega arith)
value_at-place a key (k ∷ keys) (x ∷ values) zero rise same h at =
    ap (λ (b : Bool). cond b (Some x) (value_at key keys values)) (eq-eqb k key at)
value_at-place a key (k ∷ keys) (x ∷ values) (suc i) rise same h at =
    let low : k + 1 ≤ get_or keys i 0 = above (k + 1) keys i rise.1 (omega arith) in
    ap (λ (b : Bool). cond b (Some x) (value_at key keys values)) (ne_eqb k key (λ e. omega (arith, e, low, at)))
    ∙ value_at-place (k + 1) key keys values i rise.1 (omega arith) (omega arith) at

-- at a key that is none of them stands nothing
pub value_at-none : {X : Type 0} (key : ℕ) (keys : List ℕ) (values : List X) → ((i : ℕ) → i < length keys → get_or keys i 0 ≡ key → ⊥) →
    value_at key keys values ≡ None
value_at-none key [] values none = refl
value_at-none key (k ∷ keys) [] none = refl
value_at-none key (k ∷ keys) (x ∷ values) none =
    ap (λ (b : Bool). cond b (Some x) (value_at key keys values)) (ne_eqb k key (none 0 (omega arith)))
    ∙ value_at-none key keys values (λ i h e. none (suc i) (omega arith) e)

-- a block whose file is not among them is not there
pub no_file : (t : TablesValue) (field block number i : ℕ) → number ≡ file_in t.header.blocks_per_file block →
    ((k : ℕ) → k < i → get_or t.numbers k 0 < number) → ((k : ℕ) → i ≤ k → k < length t.numbers → number < get_or t.numbers k 0) →
    has_in_tables t field block ≡ false
no_file t field block number i is below behind =
    ap (λ o. is_there (row_among t.header.blocks_per_file field block o))
    (value_at-none (file_in t.header.blocks_per_file block) t.numbers t.tables (λ k h e. omega (arith, cases k h e)))
  where
    differ : (k : ℕ) → k < length t.numbers → get_or t.numbers k 0 ≡ file_in t.header.blocks_per_file block → (i ≤ k → ⊥) × (k < i → ⊥)
    differ k h e = (λ past. omega (arith, behind k past h, e, is), λ less. omega (arith, below k less, e, is))

    cases : (k : ℕ) → k < length t.numbers → get_or t.numbers k 0 ≡ file_in t.header.blocks_per_file block → 1 ≤ 0
    cases k h e = let d = differ k h e in let over : k < i = omega (arith, d.0) in absurd (d.1 over)

-- what a search among them says
pub not_found : (t : TablesValue) (field block number i : ℕ) → AreTables t → number ≡ file_in t.header.blocks_per_file block →
    IsBinarySearchResult (λ y. nat_cmp y number) t.numbers (Err i) → has_in_tables t field block ≡ false
not_found t field block number i are is search =
    let at = searched t.numbers number (Err i) search (λ j k h within. rises 0 t.numbers j k are.rising h within) in
    no_file t field block number i is at.1 at.2

pub found_at : (t : TablesValue) (number i : ℕ) → AreTables t → IsBinarySearchResult (λ y. nat_cmp y number) t.numbers (Ok i) →
    (i < length t.numbers) × (get_or t.numbers i 0 ≡ number)
found_at t number i are search = searched t.numbers number (Ok i) search (λ j k h within. rises 0 t.numbers j k are.rising h within)

-- a block stands from its file's first block on, and before the next file's
pub place_in_file : (per_file block : ℕ) → 1 ≤ per_file → block - file_in per_file block < per_file
place_in_file per_file block some =
    let rest = mod-lt block some in
    let whole : per_file * (block / per_file) + block % per_file ≡ block = ap (λ n. n + block % per_file) (mul_comm per_file (block / per_file)) ∙ div-add-mod' block per_file in
    omega (arith, whole, rest)

-- the place of a block among the places of all fields
pub place_within : (field fields place places : ℕ) → field < fields → place < places → field * places + place < fields * places
place_within field fields place places less within =
    let rows : suc field * places ≤ fields * places = mul-le-mul_right places (omega arith) in
    omega (arith, rows, suc-mul field places)

pub field_of_place : (field place places : ℕ) → place < places → (field * places + place) / places ≡ field
field_of_place field place places within = div-mul-add field places place within

-- the table of a file that is there has a row for the block
pub row_exists : (t : TablesValue) (field block file : ℕ) (rows : List Row) → AreTables t → file < length t.numbers → rows ≡ get_or t.tables file rows →
    field < length (block_lengths (placing_of t.header)) → block - file_in t.header.blocks_per_file block < t.header.blocks_per_file →
    (slice_get t.tables file ≡ Some rows) × (field * t.header.blocks_per_file + (block - file_in t.header.blocks_per_file block) < length rows)
row_exists t field block file rows are within at exists place =
    let table : slice_get t.tables file ≡ Some rows = slice_get_read t.tables (length t.numbers) file rows (sym are.same) within at in
    (table, omega (arith, (are.each file rows table).count, place_within field (length (block_lengths (placing_of t.header))) (block - file_in t.header.blocks_per_file block) t.header.blocks_per_file exists place))

-- the row of a block of a file that is there
pub row_for-place : (t : TablesValue) (field block file : ℕ) (rows : List Row) → AreTables t → file < length t.numbers →
    get_or t.numbers file 0 ≡ file_in t.header.blocks_per_file block → slice_get t.tables file ≡ Some rows →
    row_for t field block ≡ slice_get rows (field * t.header.blocks_per_file + (block - file_in t.header.blocks_per_file block))
row_for-place t field block file rows are within at table =
    ap (row_among t.header.blocks_per_file field block) (value_at-place 0 (file_in t.header.blocks_per_file block) t.numbers t.tables file are.rising are.same within at ∙ table)

pub row_for-stands : (t : TablesValue) (field block file offset flags : ℕ) → AreTables t → (s : StandsAt t field block file offset flags) → row_for t field block ≡ Some s.row
row_for-stands t field block file offset flags are s =
    row_for-place t field block file s.rows are (slice_get_within t.numbers file (file_in t.header.blocks_per_file block) s.number) (get_or_from_slice_get t.numbers file (file_in t.header.blocks_per_file block) 0 s.number) s.table
    ∙ s.at

pub stands-has : (t : TablesValue) (field block file offset flags : ℕ) → AreTables t → StandsAt t field block file offset flags → has_in_tables t field block ≡ true
stands-has t field block file offset flags are s =
    ap is_there (row_for-stands t field block file offset flags are s) ∙ lt-ltb 0 s.row.size s.some

-- where the row of a block says that it is there, the block stands
pub row-stands : (t : TablesValue) (field block file number offset flags : ℕ) (rows : List Row) (row : Row) → AreTables t → (file < length t.numbers) × (get_or t.numbers file 0 ≡ number) →
    number ≡ file_in t.header.blocks_per_file block → slice_get t.tables file ≡ Some rows →
    slice_get rows (field * t.header.blocks_per_file + (block - file_in t.header.blocks_per_file block)) ≡ Some row → (row.size ≡ 0 → ⊥) → offset ≡ row.offset → flags ≡ row.flags → StandsAt t field block file offset flags
row-stands t field block file number offset flags rows row are found is table at some begins flagged = record {
  number = slice_get-get_or t.numbers file 0 found.0 ∙ ap (λ n. Some n) (found.1 ∙ is);
  rows = rows;
  table = table;
  row = row;
  at = at;
  some = omega (arith, some);
  begins = begins;
  flagged = flagged;
}

-- where its row says that it is not there, it is not
pub row-absent : (t : TablesValue) (field block file number : ℕ) (rows : List Row) (row : Row) → AreTables t → (file < length t.numbers) × (get_or t.numbers file 0 ≡ number) →
    number ≡ file_in t.header.blocks_per_file block → slice_get t.tables file ≡ Some rows →
    slice_get rows (field * t.header.blocks_per_file + (block - file_in t.header.blocks_per_file block)) ≡ Some row → row.size ≡ 0 → has_in_tables t field block ≡ false
row-absent t field block file number rows row are found is table at none =
    ap is_there (row_for-place t field block file rows are found.0 (found.1 ∙ is) table ∙ at) ∙ ap (nat_lt 0) none

-- ---- reading a block
-- a leaf with what is known of it
pub shown_at : {L : Type 0} (contents : L → Option (List ℕ)) (leaves : List (List ℕ × L)) (i : ℕ) (leaf : List ℕ × L) → i < length leaves → leaf ≡ get_or leaves i leaf →
    slice_get (shown contents leaves) i ≡ Some (entry_shown contents leaf)
shown_at contents leaves i leaf within at =
    slice_get-map (entry_shown contents) leaves i ∙ ap (option_map (entry_shown contents)) (slice_get_read leaves (length leaves) i leaf refl within at)

-- a file that is there has a leaf
pub leaf_exists : {L : Type 0} (contents : L → Option (List ℕ)) (leaves : List (List ℕ × L)) (t : TablesValue) (field block file offset flags : ℕ) →
    AreTablesOf t.tables (shown contents leaves) → StandsAt t field block file offset flags → file < length leaves
leaf_exists contents leaves t field block file offset flags fit s =
    omega (arith, slice_get_within t.tables file s.rows s.table, fit.same, length-map leaves (entry_shown contents))

-- the block of a row has the length of its field's blocks
stands-size : (t : TablesValue) (field block file offset flags : ℕ) → AreTables t → (s : StandsAt t field block file offset flags) → block - file_in t.header.blocks_per_file block < t.header.blocks_per_file → s.row.size ≡ slice_index (block_lengths (placing_of t.header)) field
stands-size t field block file offset flags are s place =
    (are.each file s.rows s.table).sizes (field * t.header.blocks_per_file + (block - file_in t.header.blocks_per_file block)) s.row s.at s.some
    ∙ ap (slice_index (block_lengths (placing_of t.header))) (field_of_place field (block - file_in t.header.blocks_per_file block) t.header.blocks_per_file place)

-- where its file's bytes are known the block ends inside them
pub block_within : (t : TablesValue) (leaves : List (List ℕ × Option (List ℕ))) (field block file offset flags len : ℕ) (leaf : List ℕ × Option (List ℕ)) →
    AreTables t → AreTablesOf t.tables leaves → StandsAt t field block file offset flags → slice_get leaves file ≡ Some leaf →
    len ≡ slice_index (block_lengths (placing_of t.header)) field → ForSome leaf.1 (λ bytes. offset + len ≤ length bytes)
block_within t leaves field block file offset flags len leaf are fit s at room = λ bytes known.
    let ends = (fit.within file s.rows leaf s.table at bytes known).ends (field * t.header.blocks_per_file + (block - file_in t.header.blocks_per_file block)) s.row s.at s.some in
    omega (arith, ends, stands-size t field block file offset flags are s (place_in_file t.header.blocks_per_file block are.places), s.begins, room)

with_known-some : (o : Option (List ℕ)) (rest : Option (List (List ℕ))) (all : List (List ℕ)) → with_known o rest ≡ Some all →
    (bytes : List ℕ) × (more : List (List ℕ)) × (o ≡ Some bytes) × (rest ≡ Some more) × (all ≡ bytes ∷ more)
with_known-some None rest all e = let wrong : ◌≡◌ {A = Option (List (List ℕ))} None (Some all) = e in absurd (cc)
with_known-some (Some bytes) None all e = let wrong : ◌≡◌ {A = Option (List (List ℕ))} None (Some all) = e in absurd (cc)
with_known-some (Some bytes) (Some more) all e =
    let same : bytes ∷ more ≡ all = cc in (bytes, more, refl, refl, sym same)

-- where all leaves are known each is
pub known_each : (leaves : List (List ℕ × Option (List ℕ))) (all : List (List ℕ)) → all_known leaves ≡ Some all →
    (length all ≡ length leaves) × ((i : ℕ) (leaf : List ℕ × Option (List ℕ)) → slice_get leaves i ≡ Some leaf → leaf.1 ≡ slice_get all i)
known_each [] all e =
    let none : [] ≡ all = cc in
    (ap length (sym none), λ i leaf at. let wrong : None ≡ Some leaf = at in absurd (cc))
known_each (leaf ∷ leaves) all e =
    let cut = with_known-some leaf.1 (all_known leaves) all e in
    let rest = known_each leaves cut.1 cut.3 in
    (ap length cut.4 ∙ ap suc rest.0, at_place cut.0 cut.1 cut.2 cut.4 rest.1)
  where
    at_place : (bytes : List ℕ) (more : List (List ℕ)) → leaf.1 ≡ Some bytes → all ≡ bytes ∷ more →
        ((i : ℕ) (other : List ℕ × Option (List ℕ)) → slice_get leaves i ≡ Some other → other.1 ≡ slice_get more i) →
        (i : ℕ) (other : List ℕ × Option (List ℕ)) → slice_get (leaf ∷ leaves) i ≡ Some other → other.1 ≡ slice_get all i
    at_place bytes more first is rest zero other at =
        let same : leaf ≡ other = cc in
        ap (λ (l : List ℕ × Option (List ℕ)). l.1) (sym same) ∙ first ∙ ap (λ (fs : List (List ℕ)). slice_get fs 0) (sym is)
    at_place bytes more first is rest (suc i) other at =
        rest i other at ∙ ap (λ (fs : List (List ℕ)). slice_get fs (suc i)) (sym is)

-- what was read and put into order is what the edition stores
pub read_stored : (t : TablesValue) (leaves : List (List ℕ × Option (List ℕ))) (field block file offset flags len : ℕ) (leaf : List ℕ × Option (List ℕ)) (read into : List ℕ) →
    AreTables t → AreTablesOf t.tables leaves → StandsAt t field block file offset flags → slice_get leaves file ≡ Some leaf → len ≡ slice_index (block_lengths (placing_of t.header)) field →
    IfSome leaf.1 (λ bytes. read ≡ take len (drop offset bytes)) → into ≡ order_of (placing_of t.header) field block flags read → IfSome (stored_in t leaves) (λ stored. into ≡ stored field block)
read_stored t leaves field block file offset flags len leaf read into are fit s at room is_read ordered = by_known (all_known leaves) refl
  where
    number : ℕ
    number = file_in t.header.blocks_per_file block

    size : ℕ
    size = slice_index (block_lengths (placing_of t.header)) field

    order : ℕ → List ℕ → List ℕ
    order = order_of (placing_of t.header) field block

    of_bytes : (files : List (List ℕ)) (o : Option (List ℕ)) → value_at number t.numbers files ≡ o → IfSome o (λ bytes. read ≡ take len (drop offset bytes)) →
        (o ≡ None → ⊥) → into ≡ bytes_in t files field block
    of_bytes files None is read some = absurd (some refl)
    of_bytes files (Some bytes) is read some =
        ordered
        ∙ ap (order flags) (read ∙ ap (λ n. take n (drop offset bytes)) room ∙ ap (λ n. take size (drop n bytes)) s.begins)
        ∙ ap (λ f. order f (take size (drop s.row.offset bytes))) s.flagged
        ∙ ap (λ (b : Bool). cond b (order s.row.flags (take size (drop s.row.offset bytes))) (replicate size 0)) (sym (lt-ltb 0 s.row.size s.some))
        ∙ ap (λ o. bytes_by order size o (Some bytes)) (sym (row_for-stands t field block file offset flags are s))
        ∙ ap (bytes_by order size (row_for t field block)) (sym is)

    by_known : (o : Option (List (List ℕ))) → all_known leaves ≡ o → IfSome (option_map (bytes_in t) o) (λ stored. into ≡ stored field block)
    by_known None is = tt
    by_known (Some files) is =
        let known = known_each leaves files is in
        let within : file < length t.numbers = slice_get_within t.numbers file number s.number in
        let there : slice_get files file ≡ Some (get_or files file []) = slice_get-get_or files file [] (omega (arith, known.0, fit.same, are.same, within)) in
        let at_file : value_at number t.numbers files ≡ leaf.1 =
        value_at-place 0 number t.numbers files file are.rising (omega (arith, known.0, fit.same, are.same)) within (get_or_from_slice_get t.numbers file number 0 s.number)
        ∙ sym (known.1 file leaf at) in
        of_bytes files leaf.1 at_file is_read (λ none.
        let wrong : ◌≡◌ {A = Option (List ℕ)} None (Some (get_or files file [])) = sym none ∙ known.1 file leaf at ∙ there in cc)
