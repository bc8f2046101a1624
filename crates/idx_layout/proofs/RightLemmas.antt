-- No row of a file as the writer lays it out is faulty.
use Rattle.std.proofs.Common.{◌≡◌, ℕ, zero, suc, ◌+◌, ◌-◌, ◌*◌, ◌/◌, ◌%◌, ◌^◌, ◌<◌, ◌≤◌, Bool, true, false, List, [], ◌∷◌, ◌++◌, Some, None, length, length-append, map, refl, sym, ap, ◌∙◌, subst, arith, zero-add, add_assoc, get_or, take, cond, lit<}
use Rattle.std.specs.Prelude.{slice_get, slice_index, All, sum_by, filter, nat_lt}
use Rattle.std.specs.List.{range_with_len, flat_map}
use Rattle.idx_geom.specs.Volume.{IsVolume}
use Rattle.idx_table.specs.declared.row.Row.{Row}
use Rattle.idx_table.specs.Table.{table_bytes, fault_in, field_of, first_fault, row_at}
use Rattle.std.proofs.lemmas.Bool.Decides.{nat_tests}
use Rattle.idx_rowmajor.specs.declared.layout.Layout.{Layout}
use Rattle.idx_rowmajor.specs.declared.layout.Layout.TheVariants.{Hz, Rows}
use Rattle.idx_layout.specs.Layout.{flags_of}
use Rattle.idx_layout.specs.Placing.{Placing, block_bytes, present_blocks, is_present}
use Rattle.idx_layout.specs.Files.{FitsRows, file_bytes, row_of_block, rows_of_file, offset_of, length_of_file, row_count}
use Rattle.idx_layout.proofs.OffsetLemmas.{offset_of-sums, present_before, length_of_file-sums}
use Rattle.idx_layout.proofs.FileLemmas.{present_split, length-flat_map_same, length-rows_of_file, rows_of-file_bytes}
use Rattle.idx_layout.proofs.ListLemmas.{range-split}
use Rattle.std.proofs.lemmas.List.Sums.{sum_by-append, sum_by-cons}
use Rattle.std.proofs.Math.Nat.{add-mul, mul_comm, mod-lt, div-add-mod', div-lt_iff_lt-mul, mul-div_cancel_left}
use Rattle.std.proofs.lemmas.List.{length-take-le}
use Rattle.std.proofs.lemmas.List.Concat.{get_or-flat_map}
use Rattle.std.proofs.lemmas.List.Elements.{All-from_get_or}
use Rattle.std.proofs.lemmas.List.FromFn.{length-range_with_len, length-map-range_with_len, get_or-range_with_len, get_or-map-range_with_len}
use Rattle.idx_table.specs.Row.{IsRow}
use Rattle.idx_table.proofs.FaultLemmas.{first_fault-none, kind_of_row-whole}

-- a field that there is has samples
has_samples : (sizes : List ℕ) (volume : List (List (List ℕ))) (n field : ℕ) → IsVolume sizes n volume → field < length sizes → (samples : List (List ℕ)) × (slice_get volume field ≡ Some samples)
has_samples [] volume n field h within = absurd (omega arith)
has_samples (size ∷ sizes) [] n field h within = absurd h
has_samples (size ∷ sizes) (v ∷ volume) n zero h within = (v, refl)
has_samples (size ∷ sizes) (v ∷ volume) n (suc field) h within = has_samples sizes volume n field h.2 (omega arith)

-- a row that says where such a block stands is right
right_row : (layout : Layout) (rows size len offset : ℕ) → table_bytes rows ≤ offset → offset + size ≤ len → fault_in rows size len (record { offset = offset; size = size; flags = flags_of layout }) ≡ None
right_row Hz rows size len offset from to = grind (arith, nat_tests)
right_row Rows rows size len offset from to = grind (arith, nat_tests)

-- its flags are a word
small_flags : (layout : Layout) → flags_of layout < 2 ^ 32
small_flags Hz = lit< tt
small_flags Rows = lit< tt

-- what the fields before one and it have
sums_within : (g : ℕ → ℕ) (field n : ℕ) → field < n → (rest : ℕ) × (sum_by g (range_with_len 0 n) ≡ sum_by g (range_with_len 0 field) + g field + rest)
sums_within g field n h =
    let m : ℕ = n - field - 1 in
    let cut : n ≡ field + suc m = omega arith in
    let behind : ℕ = sum_by g (range_with_len (field + 1) m) in (
      behind,
      ap (λ k. sum_by g (range_with_len 0 k)) cut ∙ ap (sum_by g) (range-split 0 field (suc m))
          ∙ ap (λ a. sum_by g (range_with_len 0 field ++ range_with_len a (suc m))) (zero-add field)
          ∙ sum_by-append g (range_with_len 0 field) (range_with_len field (suc m))
          ∙ ap (λ k. sum_by g (range_with_len 0 field) + k) (sum_by-cons g field (range_with_len (field + 1) m))
          ∙ sym (add_assoc (sum_by g (range_with_len 0 field)) (g field) behind),
    )

product_within : (s g r n before behind all : ℕ) → n ≡ before + suc behind → all ≡ s + g + r → s * n + g * before + g ≤ all * n
product_within s g r n before behind all count sum =
    let whole : all * n ≡ s * n + g * n + r * n = ap (λ k. k * n) sum ∙ add-mul (s + g) r n ∙ ap (λ k. k + r * n) (add-mul s g n) in
    let some : g * before + g ≤ g * n = subst (λ k. g * before + g ≤ g * k) (sym count) (grind arith) in
    omega (arith, whole, some)

-- a block ends within its file
pub ends_within : (l : Placing) (file field block : ℕ) → field < length l.sizes → file ≤ block →
    block < file + l.per_file → is_present l block ≡ true →
    offset_of l file field block + block_bytes l field ≤ length_of_file l file
ends_within l file field block within from to present =
    let blocks : List ℕ = present_blocks l file in
    let earlier : List ℕ = filter (is_present l) (range_with_len file (block - file)) in
    let cut = present_split l file block from to present in
    let count : length blocks ≡ length earlier + suc (length cut.0) = ap length cut.1 ∙ length-append earlier (block ∷ cut.0) in
    let before : length (filter (λ b. nat_lt b block) blocks) ≡ length earlier = ap length (present_before l file block from (omega arith)) in
    let sums = sums_within (block_bytes l) field (length l.sizes) within in
    let fits = product_within (sum_by (block_bytes l) (range_with_len 0 field)) (block_bytes l field) sums.0
    (length blocks) (length earlier) (length cut.0) (sum_by (block_bytes l) (range_with_len 0 (length l.sizes)))
    count sums.1 in
    let offset = offset_of-sums l file field block within ∙ ap (λ k. table_bytes (row_count l) + (sum_by (block_bytes l) (range_with_len 0 field) * length blocks + block_bytes l field * k)) before in
    omega (arith, fits, offset, length_of_file-sums l file)

-- a row of a file, by its number
pub row_at_place : (layout : Layout) (l : Placing) (file i : ℕ) (d : Row) → 1 ≤ l.per_file → i < row_count l → get_or (rows_of_file layout l file) i d ≡ row_of_block layout l file (i / l.per_file) (file + i % l.per_file)
row_at_place layout l file i d some h =
    let p : ℕ = l.per_file in
    let k : ℕ = i / p in
    let j : ℕ = i % p in
    let xs : List ℕ = range_with_len 0 (length l.sizes) in
    let f : ℕ → List Row = λ field. map (row_of_block layout l file field) (range_with_len file p) in
    let field : k < length l.sizes = (div-lt_iff_lt-mul {k = p} {x = i} {y = length l.sizes} some).1 h in
    let place : j < p = mod-lt i some in
    let one : (field : ℕ) → length (f field) ≡ p = λ field. length-map-range_with_len (row_of_block layout l file field) file p in
    let before : length (flat_map f (take k xs)) ≡ p * k =
    length-flat_map_same f p (take k xs) one ∙ ap (λ n. p * n) (length-take-le k xs (omega (arith, field, length-range_with_len 0 (length l.sizes)))) in
    let at : i ≡ length (flat_map f (take k xs)) + j =
    sym (div-add-mod' i p) ∙ ap (λ n. n + j) (mul_comm k p ∙ sym before) in
    let number : get_or xs k 0 ≡ k = get_or-range_with_len 0 (length l.sizes) k 0 field ∙ zero-add k in
    ap (λ n. get_or (flat_map f xs) n d) at
    ∙ get_or-flat_map f xs k j 0 d (omega (arith, field, length-range_with_len 0 (length l.sizes))) (omega (arith, place, one (get_or xs k 0)))
    ∙ ap (λ field. get_or (f field) j d) number
    ∙ get_or-map-range_with_len (row_of_block layout l file k) file p j (file + j) d place refl

-- the row of a block is right, and has a row's values
right_block : (layout : Layout) (l : Placing) (file field block : ℕ) → FitsRows l file → field < length l.sizes → file ≤ block → block < file + l.per_file →
    (fault_in (row_count l) (block_bytes l field) (length_of_file l file) (row_of_block layout l file field block) ≡ None) × IsRow (row_of_block layout l file field block)
right_block layout l file field block fits within from to = by_test (is_present l block) refl
  where
    there : Row
    there = record { offset = offset_of l file field block; size = block_bytes l field; flags = flags_of layout }

    row : Bool → Row
    row b = cond b there (record { offset = 0; size = 0; flags = 0 })

    by_test : (b : Bool) → is_present l block ≡ b →
        (fault_in (row_count l) (block_bytes l field) (length_of_file l file) (row_of_block layout l file field block) ≡
        None) × IsRow (row_of_block layout l file field block)
    by_test true is =
        let ends = ends_within l file field block within from to is in
        let begins = offset_of-sums l file field block within in
        let e : row_of_block layout l file field block ≡ there = ap row is in (
          ap (fault_in (row_count l) (block_bytes l field) (length_of_file l file)) e
              ∙ right_row layout (row_count l) (block_bytes l field) (length_of_file l file) (offset_of l file field block) (omega (arith, begins)) ends,
          subst IsRow (sym e) (record { offset = omega (arith, ends, fits.bytes); size = fits.sizes field within; flags = small_flags layout }),
        )
    by_test false is =
        let e : row_of_block layout l file field block ≡ record { offset = 0; size = 0; flags = 0 } = ap row is in (
          ap (fault_in (row_count l) (block_bytes l field) (length_of_file l file)) e,
          subst IsRow (sym e) (record { offset = lit< tt; size = lit< tt; flags = lit< tt }),
        )

right_place : (layout : Layout) (l : Placing) (file i : ℕ) → FitsRows l file → i < row_count l →
    (fault_in (row_count l) (block_bytes l (i / l.per_file)) (length_of_file l file)
    (row_of_block layout l file (i / l.per_file) (file + i % l.per_file)) ≡ None) × IsRow
    (row_of_block layout l file (i / l.per_file) (file + i % l.per_file))
right_place layout l file i fits h =
    let place = mod-lt i fits.places in
    right_block layout l file (i / l.per_file) (file + i % l.per_file) fits
    ((div-lt_iff_lt-mul {k = l.per_file} {x = i} {y = length l.sizes} fits.places).1 h) (omega arith) (omega (arith, place))

pub rows_fit : (layout : Layout) (l : Placing) (file : ℕ) → FitsRows l file → All IsRow (rows_of_file layout l file)
rows_fit layout l file fits =
    let none : Row = record { offset = 0; size = 0; flags = 0 } in
    All-from_get_or IsRow (rows_of_file layout l file) none (λ i h.
    let within : i < row_count l = omega (arith, h, length-rows_of_file layout l file) in
    subst IsRow (sym (row_at_place layout l file i none fits.places within)) (right_place layout l file i fits within).1)

-- no row is faulty
pub no_fault : (layout : Layout) (l : Placing) (volume : List (List (List ℕ))) (file : ℕ) → FitsRows l file →
    first_fault (file_bytes layout l volume file) (row_count l) (map (block_bytes l) (range_with_len 0 (length l.sizes)))
    (length_of_file l file) ≡ None
no_fault layout l volume file fits =
    let front : List ℕ = file_bytes layout l volume file in
    let rows : ℕ = row_count l in
    let blocks : List ℕ = map (block_bytes l) (range_with_len 0 (length l.sizes)) in
    let len : ℕ = length_of_file l file in
    first_fault-none front rows blocks len (λ i h.
    let p : ℕ = l.per_file in
    let whole : table_bytes (i + 1) ≤ len = omega (arith, length_of_file-sums l file) in
    let field : i / p < length l.sizes = (div-lt_iff_lt-mul {k = p} {x = i} {y = length l.sizes} fits.places).1 h in
    let count : length blocks ≡ length l.sizes = length-map-range_with_len (block_bytes l) 0 (length l.sizes) in
    let of_field : field_of rows (length blocks) i ≡ i / p =
    ap (λ n. i / (rows / n)) count ∙ ap (λ n. i / n) (mul-div_cancel_left p {n = length l.sizes} fits.fields) in
    let size : slice_index blocks (field_of rows (length blocks) i) ≡ block_bytes l (i / p) =
    ap (slice_index blocks) of_field ∙ get_or-map-range_with_len (block_bytes l) 0 (length l.sizes) (i / p) (i / p) 0 field (zero-add (i / p)) in
    let row : row_at front i ≡ row_of_block layout l file (i / p) (file + i % p) =
    sym (get_or-map-range_with_len (row_at front) 0 rows i i (row_at front i) h (zero-add i))
    ∙ ap (λ rows. get_or rows i (row_at front i)) (rows_of-file_bytes layout l volume file (rows_fit layout l file fits))
    ∙ row_at_place layout l file i (row_at front i) fits.places h in
    kind_of_row-whole front rows blocks len i whole
    ∙ ap (λ n. fault_in rows n len (row_at front i)) size
    ∙ ap (fault_in rows (block_bytes l (i / p)) len) row
    ∙ (right_place layout l file i fits h).0)
