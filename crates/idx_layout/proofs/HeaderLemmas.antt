-- What is true of the layout of each header.
use Rattle.std.proofs.Common.{◌≡◌, ℕ, zero, suc, ◌+◌, ◌-◌, ◌*◌, ◌^◌, ◌<◌, ◌≤◌, List, [], ◌∷◌, length, map, sym, ap, ◌∙◌, subst, arith, lit≤, zero-add, Bool, true, false, cond, Some, None, length-append, nat_lt}
use Rattle.std.specs.Prelude.{sum_by, filter, min, Option, ◌&&◌, ◌==◌}
use Rattle.std.specs.List.{list_any, range_with_len}
use Rattle.std.proofs.lemmas.List.{length-map, get_or-map}
use Rattle.std.proofs.lemmas.List.Elements.{All-get_or, filter-append}
use Rattle.std.proofs.lemmas.List.Sums.{sum_by-append, sum_by-cons}
use Rattle.std.proofs.Math.Nat.{mul-le-mul}
use Rattle.idx_fields.specs.Field.{sample_bytes, field_at}
use Rattle.idx_header.specs.Header.{HeaderValue, IsHeader}
use Rattle.idx_header.specs.Header.{block_bytes as header_block_bytes}
use Rattle.idx_table.specs.Table.{table_bytes}
use Rattle.idx_layout.specs.Placing.{Placing, block_bytes, block_count, file_numbers, file_of, has_point_in, is_present, present_blocks}
use Rattle.idx_layout.specs.Files.{FitsRows, length_of_file, offset_of, row_count}
use Rattle.idx_layout.specs.declared.block_place.Place.{Place}
use Rattle.idx_layout.specs.OfHeader.{placing_of, place_of}
use Rattle.idx_layout.proofs.OffsetLemmas.{length_of_file-sums, offset_of-sums, present_before}
use Rattle.idx_layout.proofs.ListLemmas.{count-le, count-end, filter-end, range_with_len-more, range-split}
use Rattle.idx_layout.proofs.PresentLemmas.{absent-past}
use Rattle.idx_header.proofs.BoundLemmas.{few_blocks}

-- a block of a field has as many bytes by the layout as by the header
pub same_bytes : (h : HeaderValue) (field : ℕ) → field < length h.fields → block_bytes (placing_of h) field ≡ header_block_bytes h field
same_bytes h field within = ap (λ n. n * 2 ^ h.block_bits) (get_or-map sample_bytes h.fields field (field_at [] 0) 0 within)

pub few_bytes : (h : HeaderValue) (field : ℕ) → IsHeader h → field < length h.fields → block_bytes (placing_of h) field ≤ 2 ^ 24
few_bytes h field is within =
    subst (λ n. n ≤ 2 ^ 24) (sym (same_bytes h field within))
    (All-get_or (λ f. sample_bytes f * 2 ^ h.block_bits ≤ 2 ^ 24) h.fields field (field_at [] 0) within is.small_blocks)

-- the sum over one number more
pub sum-more : (g : ℕ → ℕ) (n : ℕ) → sum_by g (range_with_len 0 (n + 1)) ≡ sum_by g (range_with_len 0 n) + g n
sum-more g n =
    ap (sum_by g) (range_with_len-more 0 n)
    ∙ sum_by-append g (range_with_len 0 n) ((0 + n) ∷ [])
    ∙ ap (λ k. sum_by g (range_with_len 0 n) + k) (last (g (0 + n)) (sum_by-cons g (0 + n) []) ∙ ap g (zero-add n))
  where
    last : (x : ℕ) → sum_by g ((0 + n) ∷ []) ≡ x + 0 → sum_by g ((0 + n) ∷ []) ≡ x
    last x e = omega (arith, e)

-- all fields together
pub few_of_fields : (h : HeaderValue) (n : ℕ) → IsHeader h → n ≤ length h.fields → sum_by (block_bytes (placing_of h)) (range_with_len 0 n) ≤ 2 ^ 24 * n
few_of_fields h zero is within = lit≤ tt
few_of_fields h (suc n) is within =
    let before = few_of_fields h n is (omega arith) in
    let one = few_bytes h n is (omega arith) in
    let next : suc n ≡ n + 1 = omega arith in
    subst (λ k. sum_by (block_bytes (placing_of h)) (range_with_len 0 k) ≤ 2 ^ 24 * k) (sym next)
    (omega (arith, before, one, sum-more (block_bytes (placing_of h)) n))

-- a file has no more present blocks than places
pub few_present : (l : Placing) (file : ℕ) → length (present_blocks l file) ≤ l.per_file
few_present l file = count-le (is_present l) file l.per_file

-- what is true of each header makes its files fit their rows
pub fits_rows : (h : HeaderValue) (file : ℕ) → IsHeader h → FitsRows (placing_of h) file
fits_rows h file is =
    let count : length (map sample_bytes h.fields) ≡ length h.fields = length-map h.fields sample_bytes in
    let all : ℕ = sum_by (block_bytes (placing_of h)) (range_with_len 0 (length (map sample_bytes h.fields))) in
    let sum : all ≤ 2 ^ 30 =
    subst (λ n. sum_by (block_bytes (placing_of h)) (range_with_len 0 n) ≤ 2 ^ 30) (sym count)
    (omega (arith, few_of_fields h (length h.fields) is (omega arith), is.fields.few)) in
    let blocks : length (present_blocks (placing_of h) file) ≤ 65536 = omega (arith, few_present (placing_of h) file, is.blocks_few) in
    let product : all * length (present_blocks (placing_of h) file) ≤ 2 ^ 30 * 65536 = mul-le-mul sum blocks in
    let table : table_bytes (row_count (placing_of h)) ≤ 2 ^ 24 = small_table h is in
    record {
      places = is.blocks_some;
      fields = omega (arith, count, is.fields.some);
      sizes = λ field within. omega (arith, few_bytes h field is (omega (arith, count, within)));
      bytes = omega (arith, length_of_file-sums (placing_of h) file, product, table);
    }
  where
    same_table : (h : HeaderValue) → table_bytes (row_count (placing_of h)) ≡ table_bytes (length h.fields * h.blocks_per_file)
    same_table h = ap (λ n. table_bytes (n * h.blocks_per_file)) (length-map h.fields sample_bytes)

    small_table : (h : HeaderValue) → IsHeader h → table_bytes (row_count (placing_of h)) ≤ 2 ^ 24
    small_table h is = subst (λ n. n ≤ 2 ^ 24) (sym (same_table h)) is.small_table

-- the blocks past the last one are absent
pub absent_past_end : (h : HeaderValue) (block : ℕ) → IsHeader h → 2 ^ 24 ≤ block → is_present (placing_of h) block ≡ false
absent_past_end h block is past =
    let few = few_blocks (length h.mask) h.block_bits is.bits_most in
    absent-past h.mask h.box h.block_bits block is.bits_within (omega (arith, few, past))

-- the present blocks of a file, where its end is past the greatest number that there is
pub present_to : (h : HeaderValue) (file end : ℕ) → IsHeader h → end ≡ min (file + h.blocks_per_file) (2 ^ 64 - 1) →
    length (filter (is_present (placing_of h)) (range_with_len file (end - file))) ≡ length
    (present_blocks (placing_of h) file)
present_to h file end is limit =
    count-end (is_present (placing_of h)) file (end - file) h.blocks_per_file (omega arith)
    (λ k from to. absent_past_end h k is (omega arith))

-- the length of a file, by its table, the bytes of a block of each field, and how many blocks are present
pub length_by_counts : (h : HeaderValue) (file table fields bytes present : ℕ) → table ≡ table_bytes (row_count (placing_of h)) → fields ≡ length h.fields →
    bytes ≡ sum_by (block_bytes (placing_of h)) (range_with_len 0 fields) → present ≡ length (present_blocks (placing_of h) file) → table + bytes * present ≡ length_of_file (placing_of h) file
length_by_counts h file table fields bytes present head count sum found =
    let all : bytes ≡ sum_by (block_bytes (placing_of h)) (range_with_len 0 (length (map sample_bytes h.fields))) =
    sum ∙ ap (λ n. sum_by (block_bytes (placing_of h)) (range_with_len 0 n)) (count ∙ sym (length-map h.fields sample_bytes)) in
    ap (λ n. n + bytes * present) head
    ∙ ap (λ n. table_bytes (row_count (placing_of h)) + n * present) all
    ∙ ap (λ n. table_bytes (row_count (placing_of h)) + sum_by (block_bytes (placing_of h)) (range_with_len 0 (length (map sample_bytes h.fields))) * n) found
    ∙ sym (length_of_file-sums (placing_of h) file)

-- how many blocks of a file are present, by those before a block and the others
pub present_sum : (l : Placing) (file block earlier later : ℕ) → file ≤ block → block ≤ file + l.per_file → earlier ≡ length (filter (is_present l) (range_with_len file (block - file))) →
    later ≡ length (filter (is_present l) (range_with_len block (file + l.per_file - block))) → earlier + later ≡ length (present_blocks l file)
present_sum l file block earlier later from to before behind =
    let p : ℕ → Bool = is_present l in
    let m : ℕ = block - file in
    let n : ℕ = file + l.per_file - block in
    let cut : l.per_file ≡ m + n = omega arith in
    let here : file + m ≡ block = omega arith in
    let whole : length (present_blocks l file) ≡ length (filter p (range_with_len file m)) + length (filter p (range_with_len block n)) =
    ap (λ k. length (filter p (range_with_len file k))) cut
    ∙ ap (λ xs. length (filter p xs)) (range-split file m n)
    ∙ ap length (filter-append p (range_with_len file m) (range_with_len (file + m) n))
    ∙ length-append (filter p (range_with_len file m)) (filter p (range_with_len (file + m) n))
    ∙ ap (λ k. length (filter p (range_with_len file m)) + length (filter p (range_with_len k n))) here in
    omega (arith, whole, before, behind)

-- where a present block stands, by counts
pub record IsCounted (h : HeaderValue) (number block before behind : ℕ) (at : Place) : Type 0 where
  pub field : number < length h.fields
  pub present : is_present (placing_of h) block ≡ true
  pub file : at.file ≡ file_of (placing_of h) block
  pub from : at.file ≤ block
  pub to : block < at.file + h.blocks_per_file
  pub earlier : before ≡ length (filter (is_present (placing_of h)) (range_with_len at.file (block - at.file)))
  pub later : behind ≡ length (filter (is_present (placing_of h)) (range_with_len block (at.file + h.blocks_per_file - block)))
  pub offset : at.offset ≡ table_bytes (row_count (placing_of h)) + (sum_by (block_bytes (placing_of h)) (range_with_len 0 number) * (before + behind) + block_bytes (placing_of h) number * before)
  pub len : at.len ≡ header_block_bytes h number

pub placed : (h : HeaderValue) (field block earlier later : ℕ) (at : Place) → IsCounted h field block earlier later at → Some at ≡ place_of (placing_of h) field block
placed h field block earlier later at is =
    let l : Placing = placing_of h in
    let sum : earlier + later ≡ length (present_blocks l at.file) = present_sum l at.file block earlier later is.from (omega (arith, is.to)) is.earlier is.later in
    let before : earlier ≡ length (filter (λ other. nat_lt other block) (present_blocks l at.file)) =
    is.earlier ∙ sym (ap length (present_before l at.file block is.from (omega (arith, is.to)))) in
    let count : length (map sample_bytes h.fields) ≡ length h.fields = length-map h.fields sample_bytes in
    let offset : at.offset ≡ offset_of l at.file field block =
    is.offset
    ∙ ap (λ n. table_bytes (row_count l) + (sum_by (block_bytes l) (range_with_len 0 field) * n + block_bytes l field * earlier)) sum
    ∙ ap (λ n. table_bytes (row_count l) + (sum_by (block_bytes l) (range_with_len 0 field) * length (present_blocks l at.file) + block_bytes l field * n)) before
    ∙ sym (offset_of-sums l at.file field block (omega (arith, count, is.field))) in
    let whole : Some at ≡ Some (record { file = file_of l block; offset = offset_of l (file_of l block) field block; len = block_bytes l field }) =
    three at.file (file_of l block) at.offset (offset_of l (file_of l block) field block) at.len (block_bytes l field)
    is.file (offset ∙ ap (λ n. offset_of l n field block) is.file) (is.len ∙ sym (same_bytes h field is.field)) in
    whole ∙ ap (λ (b : Bool). cond b (Some (record { file = file_of l block; offset = offset_of l (file_of l block) field block; len = block_bytes l field })) None) (sym is.present)
  where
    three : (a b c d e f : ℕ) → a ≡ b → c ≡ d → e ≡ f → ◌≡◌ {A = Option Place} (Some (record { file = a; offset = c; len = e })) (Some (record { file = b; offset = d; len = f }))
    three a b c d e f x y z = cc

-- the present blocks of a file, by a mask, a box and numbers that are a header's
pub blocks_of_same : (h : HeaderValue) (mask : List ℕ) (region : List (ℕ × ℕ)) (bits file end : ℕ) → IsHeader h →
    mask ≡ h.mask → region ≡ h.box → bits ≡ h.block_bits → end ≡ min (file + h.blocks_per_file) (2 ^ 64 - 1) →
    filter (has_point_in mask region bits) (range_with_len file (end - file)) ≡ present_blocks (placing_of h) file
blocks_of_same h mask region bits file end is a b c limit =
    ap (λ (x : List ℕ). filter (has_point_in x region bits) (range_with_len file (end - file))) a
    ∙ ap (λ (x : List (ℕ × ℕ)). filter (has_point_in h.mask x bits) (range_with_len file (end - file))) b
    ∙ ap (λ (x : ℕ). filter (has_point_in h.mask h.box x) (range_with_len file (end - file))) c
    ∙ filter-end (is_present (placing_of h)) file (end - file) h.blocks_per_file (omega arith) (λ k from to. absent_past_end h k is (omega arith))

-- there are no more files than blocks
pub few_files : (h : HeaderValue) → IsHeader h → length (file_numbers (placing_of h)) ≤ 2 ^ 24
few_files h is =
    let blocks : 2 ^ (length h.mask - h.block_bits) ≤ 2 ^ 24 = few_blocks (length h.mask) h.block_bits is.bits_most in
    omega (
      arith,
      blocks,
      count-le (λ file. list_any
          (λ block. is_present (placing_of h) block && (file_of (placing_of h) block == file))
          (range_with_len 0 (block_count (placing_of h)))) 0 (block_count (placing_of h)),
    )

pub few_in_file : (h : HeaderValue) (file : ℕ) → IsHeader h → length (present_blocks (placing_of h) file) ≤ 65536
few_in_file h file is = omega (arith, few_present (placing_of h) file, is.blocks_few)
