-- The rows of a file, one after another, and where their blocks begin.
use Rattle.std.proofs.Common.{◌≡◌, ℕ, suc, ◌+◌, ◌-◌, ◌*◌, ◌/◌, ◌%◌, ◌^◌, ◌<◌, ◌≤◌, Bool, true, false, cond, [], ◌∷◌, length, drop, refl, sym, ap, subst, ◌∙◌, arith, nat_lt}
use Rattle.std.specs.Prelude.{filter, sum_by}
use Rattle.std.specs.List.{range_with_len}
use Rattle.std.proofs.Math.ListN.{drop_of_length-le}
use Rattle.std.proofs.Math.Nat.{mod-eq_of_lt, mod-lt, mul-add-mod_self_right, zero-div, div-lt_iff_lt-mul, div-mul-le_self, mul-le-mul_right}
use Rattle.std.proofs.Math.Seq.{drop-cons}
use Rattle.std.proofs.lemmas.Bool.{ltb-true, ltb-false}
use Rattle.std.proofs.lemmas.Nat.{div-add-mod', div-mul-add}
use Rattle.std.proofs.lemmas.List.{length-map}
use Rattle.idx_fields.specs.Field.{sample_bytes}
use Rattle.idx_header.specs.Header.{HeaderValue, IsHeader}
use Rattle.idx_table.specs.Table.{table_bytes}
use Rattle.idx_table.specs.declared.row.Row.{Row}
use Rattle.idx_rowmajor.specs.declared.layout.Layout.{Layout}
use Rattle.idx_layout.specs.Placing.{Placing, block_bytes, is_present, present_blocks}
use Rattle.idx_layout.specs.Files.{offset_of, row_count, row_of_block, rows_of_file}
use Rattle.idx_layout.specs.OfHeader.{placing_of}
use Rattle.idx_layout.proofs.FileLemmas.{length-rows_of_file}
use Rattle.idx_layout.proofs.HeaderLemmas.{sum-more}
use Rattle.idx_layout.proofs.ListLemmas.{count_more}
use Rattle.idx_layout.proofs.OffsetLemmas.{offset_of-sums, present_before}
use Rattle.idx_layout.proofs.PresentLemmas.{absent-past}
use Rattle.idx_layout.proofs.RightLemmas.{row_at_place}

-- a block behind the last one is absent
pub absent_behind : (h : HeaderValue) (block : ℕ) → IsHeader h → 2 ^ (length h.mask - h.block_bits) ≤ block →
    is_present (placing_of h) block ≡ false
absent_behind h block is past = absent-past h.mask h.box h.block_bits block is.bits_within past

-- no row is left behind the last one
pub rows_end : (layout : Layout) (l : Placing) (file given : ℕ) → row_count l ≤ given → drop given (rows_of_file layout l file) ≡ []
rows_end layout l file given past = drop_of_length-le (rows_of_file layout l file) (omega (arith, past, length-rows_of_file layout l file))

-- the first of the rows that are left
pub rows_step : (layout : Layout) (l : Placing) (file given : ℕ) → 1 ≤ l.per_file → given < row_count l →
    drop given (rows_of_file layout l file)
    ≡ row_of_block layout l file (given / l.per_file) (file + given % l.per_file) ∷ drop (given + 1) (rows_of_file layout l file)
rows_step layout l file given some within =
    let row : Row = row_of_block layout l file (given / l.per_file) (file + given % l.per_file) in
    let next : suc given ≡ given + 1 = omega arith in
    drop-cons (rows_of_file layout l file) given row (omega (arith, within, length-rows_of_file layout l file))
    ∙ ap (λ (first : Row). first ∷ drop (suc given) (rows_of_file layout l file)) (row_at_place layout l file given row some within)
    ∙ ap (λ (n : ℕ). row ∷ drop n (rows_of_file layout l file)) next

-- the field of a row; behind the last row there is none
pub field_within : (l : Placing) (given : ℕ) → 1 ≤ l.per_file → given < row_count l → given / l.per_file < length l.sizes
field_within l given some within = (div-lt_iff_lt-mul {k = l.per_file} {x = given} {y = length l.sizes} some).1 within

pub past_end : (l : Placing) (given : ℕ) → length l.sizes ≤ given / l.per_file → row_count l ≤ given
past_end l given past = omega (arith, div-mul-le_self given l.per_file, mul-le-mul_right l.per_file past)

-- a block begins behind the table, the blocks of the fields before, and the present blocks of its field before it
begins : (l : Placing) (file field block : ℕ) → field < length l.sizes → file ≤ block → block ≤ file + l.per_file →
    offset_of l file field block
    ≡ table_bytes (row_count l) + (sum_by (block_bytes l) (range_with_len 0 field) * length (present_blocks l file)
    + block_bytes l field * length (filter (is_present l) (range_with_len file (block - file))))
begins l file field block within from to =
    let before : ℕ = sum_by (block_bytes l) (range_with_len 0 field) * length (present_blocks l file) in
    offset_of-sums l file field block within
    ∙ ap (λ blocks. table_bytes (row_count l) + (before + block_bytes l field * length blocks)) (present_before l file block from to)

-- where the block behind a present one begins, and behind an absent one
pub behind_present : (l : Placing) (file field block : ℕ) → field < length l.sizes → file ≤ block → block < file + l.per_file →
    is_present l block ≡ true → offset_of l file field block + block_bytes l field ≡ offset_of l file field (block + 1)
behind_present l file field block within from to here =
    let counted : ℕ → ℕ = λ n. length (filter (is_present l) (range_with_len file n)) in
    let same : is_present l (file + (block - file)) ≡ true = ap (is_present l) (omega arith) ∙ here in
    let more : counted (block - file + 1) ≡ counted (block - file) + 1 =
    count_more (is_present l) file (block - file) ∙ ap (λ (b : Bool). counted (block - file) + cond b 1 0) same in
    let next : counted (block + 1 - file) ≡ counted (block - file) + 1 = ap counted (omega arith) ∙ more in
    let product : block_bytes l field * counted (block + 1 - file) ≡ block_bytes l field * counted (block - file) + block_bytes l field =
    ap (λ n. block_bytes l field * n) next ∙ grind arith in
    omega (arith, product, begins l file field block within from (omega arith), begins l file field (block + 1) within (omega arith) (omega arith))

pub behind_absent : (l : Placing) (file field block : ℕ) → field < length l.sizes → file ≤ block → block < file + l.per_file →
    is_present l block ≡ false → offset_of l file field block ≡ offset_of l file field (block + 1)
behind_absent l file field block within from to absent =
    let counted : ℕ → ℕ = λ n. length (filter (is_present l) (range_with_len file n)) in
    let same : is_present l (file + (block - file)) ≡ false = ap (is_present l) (omega arith) ∙ absent in
    let more : counted (block - file + 1) ≡ counted (block - file) + 0 =
    count_more (is_present l) file (block - file) ∙ ap (λ (b : Bool). counted (block - file) + cond b 1 0) same in
    let next : counted (block - file) ≡ counted (block + 1 - file) = sym (ap counted (omega arith) ∙ more ∙ omega arith) in
    begins l file field block within from (omega arith)
    ∙ ap (λ (n : ℕ). table_bytes (row_count l) + (sum_by (block_bytes l) (range_with_len 0 field) * length (present_blocks l file)
    + block_bytes l field * n)) next
    ∙ sym (begins l file field (block + 1) within (omega arith) (omega arith))

-- no block of a file stands before its first one
none_before : (l : Placing) (file : ℕ) → length (filter (is_present l) (range_with_len file (file - file))) ≡ 0
none_before l file =
    let empty : file - file ≡ 0 = omega arith in ap (λ (n : ℕ). length (filter (is_present l) (range_with_len file n))) empty

-- the first block of a file begins behind the table
pub first_place : (l : Placing) (file : ℕ) → 1 ≤ l.per_file → 0 < row_count l →
    table_bytes (row_count l) ≡ offset_of l file (0 / l.per_file) (file + 0 % l.per_file)
first_place l file some within =
    let field : 0 / l.per_file ≡ 0 = zero-div l.per_file in
    let place : file + 0 % l.per_file ≡ file = omega (arith, mod-eq_of_lt {n = 0} {m = l.per_file} some) in
    let exists : 0 < length l.sizes = subst (λ n. n < length l.sizes) field (field_within l 0 some within) in
    let none = ap (λ n. block_bytes l 0 * n) (none_before l file) in
    sym (ap (λ (f : ℕ). offset_of l file f (file + 0 % l.per_file)) field ∙ ap (offset_of l file 0) place
    ∙ begins l file 0 file exists (omega arith) (omega arith) ∙ omega (arith, none))

-- the first block of a field begins where the field before ends
next_field : (l : Placing) (file field : ℕ) → field + 1 < length l.sizes →
    offset_of l file field (file + l.per_file) ≡ offset_of l file (field + 1) file
next_field l file field within =
    let sum : ℕ → ℕ = λ n. sum_by (block_bytes l) (range_with_len 0 n) in
    let count : ℕ = length (present_blocks l file) in
    let all : length (filter (is_present l) (range_with_len file (file + l.per_file - file))) ≡ count =
    ap (λ (n : ℕ). length (filter (is_present l) (range_with_len file n))) (omega arith) in
    begins l file field (file + l.per_file) (omega arith) (omega arith) (omega arith)
    ∙ ap (λ n. table_bytes (row_count l) + (sum field * count + block_bytes l field * n)) all
    ∙ ap (λ n. table_bytes (row_count l) + n) (regroup (sum field) (block_bytes l field) count (sum (field + 1)) (block_bytes l (field + 1)) (sum-more (block_bytes l) field))
    ∙ ap (λ n. table_bytes (row_count l) + (sum (field + 1) * count + block_bytes l (field + 1) * n)) (sym (none_before l file))
    ∙ sym (begins l file (field + 1) file within (omega arith) (omega arith))
  where
    regroup : (s b n more c : ℕ) → more ≡ s + b → s * n + b * n ≡ more * n + c * 0
    regroup s b n more c e = subst (λ m. s * n + b * n ≡ m * n + c * 0) (sym e) (grind arith)

-- where the block of the next row begins: behind that of the row before
pub next_place : (l : Placing) (file given : ℕ) → 1 ≤ l.per_file → given + 1 < row_count l →
    offset_of l file (given / l.per_file) (file + given % l.per_file + 1)
    ≡ offset_of l file ((given + 1) / l.per_file) (file + (given + 1) % l.per_file)
next_place l file given some within = by_test (nat_lt (place + 1) l.per_file) refl
  where
    field : ℕ
    field = given / l.per_file

    place : ℕ
    place = given % l.per_file

    at : (n m : ℕ) → (given + 1) / l.per_file ≡ n → (given + 1) % l.per_file ≡ m →
        offset_of l file ((given + 1) / l.per_file) (file + (given + 1) % l.per_file) ≡ offset_of l file n (file + m)
    at n m quotient rest =
        ap (λ (k : ℕ). offset_of l file k (file + (given + 1) % l.per_file)) quotient
        ∙ ap (λ (k : ℕ). offset_of l file n (file + k)) rest

    number : (n m : ℕ) → given + 1 ≡ n * l.per_file + m → m < l.per_file →
        ((given + 1) / l.per_file ≡ n) × ((given + 1) % l.per_file ≡ m)
    number n m e less = (
      ap (λ k. k / l.per_file) e ∙ div-mul-add n l.per_file m less,
      ap (λ k. k % l.per_file) e ∙ mul-add-mod_self_right n l.per_file m ∙ mod-eq_of_lt less,
    )

    by_test : (b : Bool) → nat_lt (place + 1) l.per_file ≡ b →
        offset_of l file field (file + place + 1)
        ≡ offset_of l file ((given + 1) / l.per_file) (file + (given + 1) % l.per_file)
    by_test true e =
        let less : place + 1 < l.per_file = ltb-true (place + 1) l.per_file e in
        let numbers = number field (place + 1) (omega (arith, div-add-mod' given l.per_file)) less in
        ap (offset_of l file field) (omega arith) ∙ sym (at field (place + 1) numbers.0 numbers.1)
    by_test false e =
        let most : l.per_file ≤ place + 1 = ltb-false (place + 1) l.per_file e in
        let last : place + 1 ≡ l.per_file = omega (arith, most, mod-lt given some) in
        let numbers = number (field + 1) 0 (omega (arith, div-add-mod' given l.per_file, last)) some in
        let exists : field + 1 < length l.sizes =
        subst (λ n. n < length l.sizes) numbers.0 (field_within l (given + 1) some within) in
        ap (offset_of l file field) (omega (arith, last)) ∙ next_field l file field exists
        ∙ ap (offset_of l file (field + 1)) (omega arith) ∙ sym (at (field + 1) 0 numbers.0 numbers.1)

-- The same by a header, whose files have so many places: which rows there are
pub row_exists : (h : HeaderValue) (given per_file fields : ℕ) → per_file ≡ h.blocks_per_file → 1 ≤ per_file → fields ≡ length h.fields →
    given / per_file < fields → given < row_count (placing_of h)
row_exists h given per_file fields same some count within =
    let all : length (placing_of h).sizes ≡ length h.fields = length-map h.fields sample_bytes in
    (div-lt_iff_lt-mul {k = h.blocks_per_file} {x = given} {y = length (placing_of h).sizes} (subst (λ n. 1 ≤ n) same some)).0
    (subst (λ n. given / n < length (placing_of h).sizes) same (omega (arith, within, count, all)))

pub rows_over : (h : HeaderValue) (given per_file fields : ℕ) → per_file ≡ h.blocks_per_file → fields ≡ length h.fields →
    fields ≤ given / per_file → row_count (placing_of h) ≤ given
rows_over h given per_file fields same count past =
    let all : length (placing_of h).sizes ≡ length h.fields = length-map h.fields sample_bytes in
    past_end (placing_of h) given (subst (λ n. length (placing_of h).sizes ≤ given / n) same (omega (arith, past, count, all)))

-- the next row
pub row_next : (layout : Layout) (h : HeaderValue) (file given per_file : ℕ) (row : Row) → per_file ≡ h.blocks_per_file → 1 ≤ per_file →
    row ≡ row_of_block layout (placing_of h) file (given / per_file) (file + given % per_file) → given < row_count (placing_of h) →
    drop given (rows_of_file layout (placing_of h) file) ≡ row ∷ drop (given + 1) (rows_of_file layout (placing_of h) file)
row_next layout h file given per_file row same some is within =
    let l : Placing = placing_of h in
    rows_step layout l file given (subst (λ n. 1 ≤ n) same some) within
    ∙ ap (λ (first : Row). first ∷ drop (given + 1) (rows_of_file layout l file))
    (sym (is ∙ ap (λ (n : ℕ). row_of_block layout l file (given / n) (file + given % n)) same))

-- and where the block of the one behind it begins
pub place_next : (h : HeaderValue) (file given per_file behind : ℕ) → per_file ≡ h.blocks_per_file → 1 ≤ per_file →
    behind ≡ offset_of (placing_of h) file (given / per_file) (file + given % per_file + 1) → given + 1 < row_count (placing_of h) →
    behind ≡ offset_of (placing_of h) file ((given + 1) / h.blocks_per_file) (file + (given + 1) % h.blocks_per_file)
place_next h file given per_file behind same some is within =
    is ∙ ap (λ (n : ℕ). offset_of (placing_of h) file (given / n) (file + given % n + 1)) same
    ∙ next_place (placing_of h) file given (subst (λ n. 1 ≤ n) same some) within
