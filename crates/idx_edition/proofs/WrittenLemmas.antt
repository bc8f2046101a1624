-- The files of a step as the writer lays them out.
use Rattle.std.proofs.Common.{◌≡◌, ℕ, zero, suc, ◌+◌, ◌-◌, ◌*◌, ◌/◌, ◌%◌, ◌<◌, ◌≤◌, Bool, true, false, cond, List, [], ◌∷◌, length, map, take, drop, Some, None, refl, sym, ap, subst, ◌∙◌, arith, zero-add}
use Rattle.std.specs.Prelude.{All, filter, nat_lt, replicate, slice_get, slice_index, ◌||◌, ◌==◌}
use Rattle.std.specs.List.{AllByRecursion, list_any, range_with_len}
use Rattle.std.proofs.Math.Nat.{div-add-mod', mod-lt, mod-eq_of_lt, mul_comm, mul-add-mod_self_right}
use Rattle.std.proofs.lemmas.Bool.{eqb-true, lt-ltb}
use Rattle.std.proofs.lemmas.List.{length-map}
use Rattle.std.proofs.lemmas.List.FromFn.{get_or-map-range_with_len, length-map-range_with_len}
use Rattle.std.proofs.lemmas.Option.{slice_get-get_or}
use Rattle.idx_geom.specs.Region.{points}
use Rattle.idx_geom.specs.Volume.{IsVolume}
use Rattle.idx_fields.specs.Field.{sample_bytes}
use Rattle.idx_table.specs.declared.row.Row.{Row}
use Rattle.idx_header.specs.Header.{HeaderValue, IsHeader, block_count}
use Rattle.idx_rowmajor.specs.declared.layout.Layout.{Layout}
use Rattle.idx_rowmajor.proofs.HeaderLemmas.{IsBlock-header}
use Rattle.idx_layout.specs.Placing.{Placing, block_bytes, block_of_samples, file_numbers, file_of, is_present}
use Rattle.idx_layout.specs.Layout.{flags_of}
use Rattle.idx_layout.specs.Files.{FitsRows, file_bytes, length_of_file, offset_of, row_count, row_of_block, rows_of_file}
use Rattle.idx_layout.specs.OfHeader.{placing_of}
use Rattle.idx_layout.proofs.ArrangedLemmas.{in_hz_order-arranged}
use Rattle.idx_layout.proofs.FileLemmas.{block_at_offset, length-block_of_samples, length-rows_of_file, rows_of-file_bytes}
use Rattle.idx_layout.proofs.HeaderLemmas.{fits_rows}
use Rattle.idx_layout.proofs.RightLemmas.{no_fault, row_at_place, rows_fit}
use Rattle.idx_layout.specs.Shape.{block_lengths}
use Rattle.idx_edition.specs.Tables.{EndWithin, IsTable, bytes_by, bytes_in, has_in_tables, is_there, order_of, row_among, value_at, written_tables}
use Rattle.idx_edition.proofs.AbsentLemmas.{absent_zeros, file_listed, some_block}
use Rattle.idx_edition.proofs.FrontLemmas.{rows-right}
use Rattle.idx_edition.proofs.LookupLemmas.{field_of_place, place_in_file, place_within}

-- the table of a file is right
pub written_right : (layout : Layout) (h : HeaderValue) (file : ℕ) → IsHeader h →
    IsTable (block_lengths (placing_of h)) h.blocks_per_file (rows_of_file layout (placing_of h) file) × EndWithin (rows_of_file layout (placing_of h) file) (length_of_file (placing_of h) file)
written_right layout h file is =
    let l : Placing = placing_of h in
    let fits : FitsRows l file = fits_rows h file is in
    let bytes : List ℕ = file_bytes layout l [] file in
    subst (λ (rows : List Row). IsTable (block_lengths l) h.blocks_per_file rows × EndWithin rows (length_of_file l file)) (rows_of-file_bytes layout l [] file (rows_fit layout l file fits))
    (rows-right bytes (length l.sizes) l.per_file (block_lengths l) (length_of_file l file) fits.fields (length-map-range_with_len (block_bytes l) 0 (length l.sizes)) (no_fault layout l [] file fits))

-- numbers of a range lie below its end
below_end : (test : ℕ → Bool) (a n end : ℕ) → a + n ≡ end → AllByRecursion (λ k. k < end) (filter test (range_with_len a n))
below_end test a zero end at = tt
below_end test a (suc n) end at = by_test (test a) (below_end test (a + 1) n end (omega (arith, at)))
  where
    rest : List ℕ
    rest = filter test (range_with_len (a + 1) n)

    by_test : (b : Bool) → AllByRecursion (λ k. k < end) rest → AllByRecursion (λ k. k < end) (cond b (a ∷ rest) rest)
    by_test true more = (omega (arith, at), more)
    by_test false more = more

-- the number of each file is that of a block
pub files_exist : (h : HeaderValue) → AllByRecursion (λ file. file < block_count h) (file_numbers (placing_of h))
files_exist h = below_end _ 0 (block_count h) (block_count h) (omega arith)

-- ---- what stands at a number
pub mapped_at : {X : Type 0} (f : ℕ → X) (n : ℕ) (numbers : List ℕ) → value_at n numbers (map f numbers) ≡ cond (list_any (λ k. k == n) numbers) (Some (f n)) None
mapped_at f n [] = refl
mapped_at {X = X} f n (k ∷ numbers) = by_test (mapped_at f n numbers) (k == n) refl
  where
    by_test : value_at n numbers (map f numbers) ≡ cond (list_any (λ k. k == n) numbers) (Some (f n)) None → (b : Bool) → (k == n) ≡ b →
        cond b (Some (f k)) (value_at n numbers (map f numbers)) ≡ cond (b || list_any (λ k. k == n) numbers) (Some (f n)) None
    by_test rest true e = ap (λ m. Some (f m)) (eqb-true k n e)
    by_test rest false e = rest

-- ---- a block and its row
-- the samples of a volume's field
pub volume_each : (sizes : List ℕ) (n : ℕ) (volume : List (List (List ℕ))) (field : ℕ) (samples : List (List ℕ)) → IsVolume sizes n volume → slice_get volume field ≡ Some samples →
    (length samples ≡ n) × All (λ sample. length sample ≡ slice_index sizes field) samples
volume_each [] n [] field samples fills at = let wrong : None ≡ Some samples = at in absurd (cc)
volume_each [] n (v ∷ volume) field samples fills at = absurd fills
volume_each (size ∷ sizes) n [] field samples fills at = absurd fills
volume_each (size ∷ sizes) n (v ∷ volume) zero samples fills at =
    let same : v ≡ samples = cc in
    (ap length (sym same) ∙ fills.0, subst (λ (s : List (List ℕ)). All (λ sample. length sample ≡ size) s) same fills.1)
volume_each (size ∷ sizes) n (v ∷ volume) (suc field) samples fills at = volume_each sizes n volume field samples fills.2 at

-- the row of a block, by whether it is present
abbrev row_by : ℕ → ℕ → ℕ → Bool → Row
row_by flags offset size present = cond present (record { offset = offset; size = size; flags = flags }) (record { offset = 0; size = 0; flags = 0 })

module _ (layout : Layout) (h : HeaderValue) (field block : ℕ) (is : IsHeader h) (within : field < length h.fields) where
  fields_of : ℕ
  fields_of = length (map sample_bytes h.fields)

  in_fields : field < length (placing_of h).sizes
  in_fields = subst (λ n. field < n) (sym (length-map h.fields sample_bytes)) within

  place_of_block : block - file_of (placing_of h) block < h.blocks_per_file
  place_of_block = place_in_file h.blocks_per_file block is.blocks_some

  from_file : file_of (placing_of h) block ≤ block
  from_file =
      let rest = mod-lt block is.blocks_some in
      let whole : h.blocks_per_file * (block / h.blocks_per_file) + block % h.blocks_per_file ≡ block = ap (λ n. n + block % h.blocks_per_file) (mul_comm h.blocks_per_file (block / h.blocks_per_file)) ∙ div-add-mod' block h.blocks_per_file in
      omega (arith, whole)

  row_at_block : slice_get (rows_of_file layout (placing_of h) (file_of (placing_of h) block)) (field * h.blocks_per_file + (block - file_of (placing_of h) block)) ≡ Some (row_of_block layout (placing_of h) (file_of (placing_of h) block) field block)
  row_at_block =
      let l : Placing = placing_of h in
      let p : ℕ = h.blocks_per_file in
      let file : ℕ = file_of l block in
      let i : ℕ = field * p + (block - file) in
      let d : Row = row_of_block layout l file field block in
      let inside : i < row_count l = place_within field (length l.sizes) (block - file) p in_fields place_of_block in
      let quotient : i / p ≡ field = field_of_place field (block - file) p place_of_block in
      let remainder : i % p ≡ block - file = mul-add-mod_self_right field p (block - file) ∙ mod-eq_of_lt place_of_block in
      let back : file + i % p ≡ block = omega (arith, remainder, from_file) in
      slice_get-get_or (rows_of_file layout l file) i d (subst (λ n. i < n) (sym (length-rows_of_file layout l file)) inside)
      ∙ ap (λ r. Some r) (row_at_place layout l file i d is.blocks_some inside ∙ ap (λ f. row_of_block layout l file f (file + i % p)) quotient ∙ ap (row_of_block layout l file field) back)

  -- the step has exactly the present blocks
  pub has_present : block < block_count h → has_in_tables (written_tables layout h) field block ≡ is_present (placing_of h) block
  has_present exists =
      ap (λ o. is_there (row_among h.blocks_per_file field block o)) (mapped_at (rows_of_file layout l) file (file_numbers l))
      ∙ by_tests (list_any (λ k. k == file) (file_numbers l)) (is_present l block) refl refl
    where
      l : Placing
      l = placing_of h

      file : ℕ
      file = file_of (placing_of h) block

      of_row : (b : Bool) → is_present l block ≡ b → nat_lt 0 (row_of_block layout l file field block).size ≡ is_present l block
      of_row true e =
          ap (λ (b : Bool). nat_lt 0 (row_by (flags_of layout) (offset_of l file field block) (block_bytes l field) b).size) e
          ∙ lt-ltb 0 (block_bytes l field) (some_block h field is within) ∙ sym e
      of_row false e =
          ap (λ (b : Bool). nat_lt 0 (row_by (flags_of layout) (offset_of l file field block) (block_bytes l field) b).size) e
          ∙ sym e

      by_tests : (a b : Bool) → list_any (λ k. k == file) (file_numbers l) ≡ a → is_present l block ≡ b →
          is_there (row_among h.blocks_per_file field block (cond a (Some (rows_of_file layout l file)) None)) ≡ is_present l block
      by_tests true b listed e = ap is_there row_at_block ∙ of_row b e
      by_tests false true listed e =
          let wrong : false ≡ true = sym listed ∙ file_listed l block exists from_file e in absurd (cc)
      by_tests false false listed e = sym e

  -- and stores each block's bytes
  pub block_written : (volume : List (List (List ℕ))) (samples : List (List ℕ)) → IsVolume (placing_of h).sizes (length (points h.box)) volume → slice_get volume field ≡ Some samples →
      block < block_count h →
      bytes_in (written_tables layout h) (map (file_bytes layout (placing_of h) volume) (file_numbers (placing_of h))) field block
      ≡ block_of_samples (placing_of h) (slice_index (placing_of h).sizes field) samples block
  block_written volume samples fills at exists =
      ap (λ o. bytes_by (order_of l field block) len (row_among h.blocks_per_file field block o) (value_at file (file_numbers l) (map (file_bytes layout l volume) (file_numbers l)))) (mapped_at (rows_of_file layout l) file (file_numbers l))
      ∙ ap (bytes_by (order_of l field block) len (row_among h.blocks_per_file field block (cond (list_any (λ k. k == file) (file_numbers l)) (Some (rows_of_file layout l file)) None))) (mapped_at (file_bytes layout l volume) file (file_numbers l))
      ∙ by_tests (list_any (λ k. k == file) (file_numbers l)) (is_present l block) refl refl
    where
      l : Placing
      l = placing_of h

      file : ℕ
      file = file_of (placing_of h) block

      len : ℕ
      len = slice_index (block_lengths (placing_of h)) field

      whole : List ℕ
      whole = file_bytes layout (placing_of h) volume (file_of (placing_of h) block)

      len_is : len ≡ block_bytes l field
      len_is = get_or-map-range_with_len (block_bytes l) 0 (length l.sizes) field field 0 in_fields (zero-add field)

      result : List ℕ
      result = block_of_samples (placing_of h) (slice_index (placing_of h).sizes field) samples block

      each : (length samples ≡ length (points h.box)) × All (λ sample. length sample ≡ slice_index (placing_of h).sizes field) samples
      each = volume_each (placing_of h).sizes (length (points h.box)) volume field samples fills at

      zeros : is_present l block ≡ false → replicate len 0 ≡ result
      zeros absent = ap (λ n. replicate n 0) len_is ∙ sym (absent_zeros l (slice_index l.sizes field) samples block absent)

      taken : Row → List ℕ
      taken row = cond (nat_lt 0 row.size) (order_of l field block row.flags (take len (drop row.offset whole))) (replicate len 0)

      of_row : (b : Bool) → is_present l block ≡ b → taken (row_of_block layout l file field block) ≡ result
      of_row true e =
          ap (λ (b : Bool). taken (row_by (flags_of layout) (offset_of l file field block) (block_bytes l field) b)) e
          ∙ ap (λ (b : Bool). cond b (order_of l field block (flags_of layout) (take len (drop (offset_of l file field block) whole))) (replicate len 0)) (lt-ltb 0 (block_bytes l field) (some_block h field is within))
          ∙ ap (λ n. order_of l field block (flags_of layout) (take n (drop (offset_of l file field block) whole))) len_is
          ∙ ap (order_of l field block (flags_of layout)) (block_at_offset layout l volume file field block samples fills at from_file (omega (arith, place_of_block, from_file)) e)
          ∙ in_hz_order-arranged layout l (slice_index l.sizes field) block result (IsBlock-header h block is exists)
          (length-block_of_samples l (slice_index l.sizes field) samples block each.0 each.1)
      of_row false e =
          ap (λ (b : Bool). taken (row_by (flags_of layout) (offset_of l file field block) (block_bytes l field) b)) e
          ∙ zeros e

      by_tests : (a b : Bool) → list_any (λ k. k == file) (file_numbers l) ≡ a → is_present l block ≡ b →
          bytes_by (order_of l field block) len (row_among h.blocks_per_file field block (cond a (Some (rows_of_file layout l file)) None)) (cond a (Some whole) None) ≡ result
      by_tests true b listed e = ap (λ r. bytes_by (order_of l field block) len r (Some whole)) row_at_block ∙ of_row b e
      by_tests false true listed e =
          let wrong : false ≡ true = sym listed ∙ file_listed l block exists from_file e in absurd (cc)
      by_tests false false listed e = zeros e
