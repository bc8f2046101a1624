-- What an edition of the committed files has.
use Rattle.std.proofs.Common.{◌≡◌, ℕ, ◌+◌, ◌-◌, ◌*◌, ◌<◌, ◌≤◌, Bool, true, false, cond, List, [], ◌∷◌, length, map, Some, None, refl, sym, ap, subst, ◌∙◌, arith, zero-add}
use Rattle.std.specs.Prelude.{Option, IfSome, ◌||◌, ◌==◌, replicate, slice_get, slice_index}
use Rattle.std.specs.Option.{option_map}
use Rattle.std.specs.List.{cons_option, filter_map, list_any}
use Rattle.std.proofs.lemmas.Bool.{eqb-true}
use Rattle.std.proofs.lemmas.List.FromFn.{get_or-map-range_with_len, length-map-range_with_len}
use Rattle.std.proofs.lemmas.Option.{slice_get-get_or}
use Rattle.idx_outside.specs.Files.{entry_shown, file_at, known_files, known_with}
use Rattle.idx_outside.specs.declared.mem_file.MemFile.{MemFile}
use Rattle.idx_table.specs.Table.{row_at, rows_of}
use Rattle.idx_table.specs.declared.row.Row.{Row}
use Rattle.idx_header.specs.Header.{HeaderValue, IsHeader}
use Rattle.idx_header.specs.Names.{file_name}
use Rattle.idx_layout.specs.Placing.{Placing, block_bytes, file_numbers, file_of}
use Rattle.idx_layout.specs.Files.{row_count}
use Rattle.idx_layout.specs.OfHeader.{placing_of}
use Rattle.idx_layout.specs.Shape.{block_lengths}
use Rattle.idx_edition.specs.Stored.{block_in, fault_of_file, file_of_block, first_bad, found_file, has_block, has_in, row_in, stored_block}
use Rattle.idx_edition.specs.Tables.{TablesValue, all_known, bytes_by, bytes_in, has_in_tables, is_there, order_of, row_among, row_for, shape_in, stored_in, tables_of, value_at, with_known}
use Rattle.idx_edition.specs.Loaded.{HoldsStored, leaf_at, number_at, rows_at}
use Rattle.idx_edition.proofs.LookupLemmas.{place_in_file, place_within}
use Rattle.idx_edition.proofs.SoFarLemmas.{HoldSoFar, completed}

-- ---- what stands at a number
-- the number is one of these
abbrev among : List ℕ → ℕ → Bool
among numbers n = list_any (λ k. k == n) numbers

looked_up : {X Y : Type 0} (g : ℕ → Option Y) (p : Y → X) (n : ℕ) (numbers : List ℕ) →
    value_at n (filter_map (λ k. option_map (λ y. k) (g k)) numbers) (filter_map (λ k. option_map p (g k)) numbers) ≡ option_map p (cond (among numbers n) (g n) None)
looked_up g p n [] = refl
looked_up {X = X} {Y = Y} g p n (k ∷ numbers) = by_answer (looked_up g p n numbers) (g k) refl (k == n) refl
  where
    keys : List ℕ
    keys = filter_map (λ k. option_map (λ y. k) (g k)) numbers

    values : List X
    values = filter_map (λ k. option_map p (g k)) numbers

    by_among : (b : Bool) → g n ≡ None → option_map p (cond b (g n) None) ≡ option_map p (g n)
    by_among true none = refl
    by_among false none = ap (option_map p) (sym none)

    by_answer : value_at n keys values ≡ option_map p (cond (among numbers n) (g n) None) → (o : Option Y) → g k ≡ o → (b : Bool) → (k == n) ≡ b →
        value_at n (cons_option (option_map (λ y. k) (g k)) keys) (cons_option (option_map p (g k)) values) ≡ option_map p (cond ((k == n) || among numbers n) (g n) None)
    by_answer rest (Some y) is true e =
        let here : k ≡ n = eqb-true k n e in
        ap (λ o. value_at n (cons_option (option_map (λ y. k) o) keys) (cons_option (option_map p o) values)) is
        ∙ ap (λ (b : Bool). cond b (Some (p y)) (value_at n keys values)) e
        ∙ ap (option_map p) (sym is ∙ ap g here)
        ∙ ap (λ (b : Bool). option_map p (cond (b || among numbers n) (g n) None)) (sym e)
    by_answer rest (Some y) is false e =
        ap (λ o. value_at n (cons_option (option_map (λ y. k) o) keys) (cons_option (option_map p o) values)) is
        ∙ ap (λ (b : Bool). cond b (Some (p y)) (value_at n keys values)) e
        ∙ rest
        ∙ ap (λ (b : Bool). option_map p (cond (b || among numbers n) (g n) None)) (sym e)
    by_answer rest None is true e =
        let here : k ≡ n = eqb-true k n e in
        ap (λ o. value_at n (cons_option (option_map (λ y. k) o) keys) (cons_option (option_map p o) values)) is
        ∙ rest
        ∙ by_among (among numbers n) (ap g (sym here) ∙ is)
        ∙ ap (λ (b : Bool). option_map p (cond (b || among numbers n) (g n) None)) (sym e)
    by_answer rest None is false e =
        ap (λ o. value_at n (cons_option (option_map (λ y. k) o) keys) (cons_option (option_map p o) values)) is
        ∙ rest
        ∙ ap (λ (b : Bool). option_map p (cond (b || among numbers n) (g n) None)) (sym e)

-- ---- a block in its file
module _ (l : Placing) (field block : ℕ) where
  abbrev pub place : ℕ
  place = field * l.per_file + (block - file_of l block)

  row_there : (bytes : List ℕ) → place < row_count l → slice_get (rows_of bytes (row_count l)) place ≡ Some (row_in l bytes field block)
  row_there bytes within =
      let n : ℕ = row_count l in
      let i : ℕ = field * l.per_file + (block - file_of l block) in
      slice_get-get_or (rows_of bytes n) i (row_at bytes i) (subst (λ m. i < m) (sym (length-map-range_with_len (row_at bytes) 0 n)) within)
      ∙ ap (λ r. Some r) (get_or-map-range_with_len (row_at bytes) 0 n i i (row_at bytes i) within (zero-add i))

  pub has_same : (o : Option (List ℕ)) → place < row_count l →
      is_there (row_among l.per_file field block (option_map (λ bytes. rows_of bytes (row_count l)) o)) ≡ has_in l o field block
  has_same None within = refl
  has_same (Some bytes) within = ap is_there (row_there bytes within)

  pub bytes_same : (o : Option (List ℕ)) (len : ℕ) → len ≡ block_bytes l field → place < row_count l →
      bytes_by (order_of l field block) len (row_among l.per_file field block (option_map (λ bytes. rows_of bytes (row_count l)) o)) (option_map (λ bytes. bytes) o) ≡ block_in l o field block
  bytes_same None len is within = ap (λ n. replicate n 0) is
  bytes_same (Some bytes) len is within =
      ap (λ r. bytes_by (order_of l field block) len r (Some bytes)) (row_there bytes within)
      ∙ ap (λ n. bytes_by (order_of l field block) n (Some (row_in l bytes field block)) (Some bytes)) is

-- the bytes of the files that are there, all known
all_found : (path : ℕ → List ℕ) (g : ℕ → Option (List ℕ)) (numbers : List ℕ) →
    all_known (filter_map (λ k. option_map (λ bytes. (path k, Some bytes)) (g k)) numbers) ≡ Some (filter_map (λ k. option_map (λ bytes. bytes) (g k)) numbers)
all_found path g [] = refl
all_found path g (k ∷ numbers) = by_answer (all_found path g numbers) (g k)
  where
    leaves : List (List ℕ × Option (List ℕ))
    leaves = filter_map (λ k. option_map (λ bytes. (path k, Some bytes)) (g k)) numbers

    files : List (List ℕ)
    files = filter_map (λ k. option_map (λ bytes. bytes) (g k)) numbers

    by_answer : all_known leaves ≡ Some files → (o : Option (List ℕ)) → all_known (cons_option (option_map (λ bytes. (path k, Some bytes)) o) leaves) ≡ Some (cons_option (option_map (λ bytes. bytes) o) files)
    by_answer rest None = rest
    by_answer rest (Some bytes) = ap (with_known (Some bytes)) rest

-- the files of the step with their bytes
same_files : (h : HeaderValue) (step : ℕ) (files : List MemFile) (numbers : List ℕ) →
    filter_map (leaf_at h step files) numbers ≡ known_files (Some files) (filter_map (found_file h step files) numbers)
same_files h step files [] = refl
same_files h step files (k ∷ numbers) = by_answer (same_files h step files numbers) (file_at (file_name h step k) files)
  where
    path : List ℕ
    path = file_name h step k

    by_answer : filter_map (leaf_at h step files) numbers ≡ known_files (Some files) (filter_map (found_file h step files) numbers) → (o : Option (List ℕ)) →
        cons_option (option_map (λ bytes. (path, Some bytes)) o) (filter_map (leaf_at h step files) numbers)
        ≡ map (entry_shown (known_with (Some files))) (cons_option (option_map (λ bytes. (path, bytes)) o) (filter_map (found_file h step files) numbers))
    by_answer rest None = rest
    by_answer rest (Some bytes) = ap (λ more. (path, Some bytes) ∷ more) rest

-- ---- the whole edition
module _ (h : HeaderValue) (step : ℕ) (files : List MemFile) where
  -- what the writer would write of the files
  numbers_there : List ℕ
  numbers_there = filter_map (number_at h step files) (file_numbers (placing_of h))

  tables_there : List (List Row)
  tables_there = filter_map (rows_at h step files) (file_numbers (placing_of h))

  leaves_there : List (List ℕ × Option (List ℕ))
  leaves_there = filter_map (leaf_at h step files) (file_numbers (placing_of h))

  bytes_there : List (List ℕ)
  bytes_there = filter_map (λ file. option_map (λ bytes. bytes) (file_at (file_name h step file) files)) (file_numbers (placing_of h))

  -- the row of a block in its file
  row_of_file : (field block : ℕ) →
      row_for (tables_of h numbers_there tables_there) field block
      ≡ row_among h.blocks_per_file field block (option_map (λ bytes. rows_of bytes (row_count (placing_of h))) (file_of_block h step files block))
  unfolding numbers_there tables_there
  row_of_file field block =
      ap (row_among h.blocks_per_file field block)
      (looked_up (λ file. file_at (file_name h step file) files) (λ bytes. rows_of bytes (row_count (placing_of h))) (file_of (placing_of h) block) (file_numbers (placing_of h)))

  row_within : (field block : ℕ) → field < length (block_lengths (placing_of h)) → 1 ≤ h.blocks_per_file →
      field * h.blocks_per_file + (block - file_of (placing_of h) block) < row_count (placing_of h)
  row_within field block within some =
      let l : Placing = placing_of h in
      place_within field (length l.sizes) (block - file_of l block) h.blocks_per_file
      (omega (arith, within, length-map-range_with_len (block_bytes l) 0 (length l.sizes))) (place_in_file h.blocks_per_file block some)

  has_all : (field block : ℕ) → field < length (block_lengths (placing_of h)) → 1 ≤ h.blocks_per_file →
      has_in_tables (tables_of h numbers_there tables_there) field block ≡ has_block h step files field block
  has_all field block within some =
      ap is_there (row_of_file field block)
      ∙ has_same (placing_of h) field block (file_of_block h step files block) (row_within field block within some)

  bytes_all : (field block : ℕ) → field < length (block_lengths (placing_of h)) → 1 ≤ h.blocks_per_file →
      bytes_in (tables_of h numbers_there tables_there) bytes_there field block ≡ stored_block h step files field block
  unfolding numbers_there bytes_there
  bytes_all field block within some =
      let l : Placing = placing_of h in
      let len : ℕ = slice_index (block_lengths l) field in
      let count : field < length l.sizes = omega (arith, within, length-map-range_with_len (block_bytes l) 0 (length l.sizes)) in
      ap (λ r. bytes_by (order_of l field block) len r (value_at (file_of l block) numbers_there bytes_there)) (row_of_file field block)
      ∙ ap (bytes_by (order_of l field block) len (row_among h.blocks_per_file field block (option_map (λ bytes. rows_of bytes (row_count l)) (file_of_block h step files block))))
      (looked_up (λ file. file_at (file_name h step file) files) (λ bytes. bytes) (file_of l block) (file_numbers l))
      ∙ bytes_same l field block (file_of_block h step files block) len
      (get_or-map-range_with_len (block_bytes l) 0 (length l.sizes) field field 0 count (zero-add field)) (row_within field block within some)

  known_all : all_known leaves_there ≡ Some bytes_there
  unfolding leaves_there bytes_there
  known_all = all_found (file_name h step) (λ file. file_at (file_name h step file) files) (file_numbers (placing_of h))

  held : 1 ≤ h.blocks_per_file → first_bad h step files ≡ None →
      HoldsStored h step files (shape_in (tables_of h numbers_there tables_there)) (has_in_tables (tables_of h numbers_there tables_there))
      (stored_in (tables_of h numbers_there tables_there) leaves_there) leaves_there
  unfolding leaves_there
  held some sound =
      let t : TablesValue = tables_of h numbers_there tables_there in
      let stored : stored_in t leaves_there ≡ Some (bytes_in t bytes_there) = ap (option_map (bytes_in t)) known_all in
      record {
        sound = sound;
        has_blocks = λ field block within exists. has_all field block within some;
        content = λ content is field block within exists.
            let same : bytes_in t bytes_there ≡ content = some_same (bytes_in t bytes_there) content (sym stored ∙ is) in
            ap (λ (f : ℕ → ℕ → List ℕ). f field block) (sym same) ∙ bytes_all field block within some;
        known = λ none. let wrong : ◌≡◌ {A = Option (ℕ → ℕ → List ℕ)} None (Some (bytes_in t bytes_there)) = sym none ∙ stored in cc;
        same_files = same_files h step files (file_numbers (placing_of h));
      }
    where
      some_same : (f g : ℕ → ℕ → List ℕ) → ◌≡◌ {A = Option (ℕ → ℕ → List ℕ)} (Some f) (Some g) → f ≡ g
      some_same f g e = cc

pub holds_stored : (h : HeaderValue) (step : ℕ) → IsHeader h → (known : Option (List MemFile)) (left numbers : List ℕ) (tables : List (List Row)) (leaves : List (List ℕ × Option (List ℕ))) →
    left ≡ [] → IfSome known (λ files. HoldSoFar h step files left numbers tables leaves) →
    IfSome known (λ files. HoldsStored h step files (shape_in (tables_of h numbers tables)) (has_in_tables (tables_of h numbers tables)) (stored_in (tables_of h numbers tables) leaves) leaves)
unfolding numbers_there tables_there leaves_there
holds_stored h step is None left numbers tables leaves none so_far = tt
holds_stored h step is (Some files) left numbers tables leaves none so_far =
    let all : List ℕ = file_numbers (placing_of h) in
    let sound : first_bad h step files ≡ None = sym so_far.sound ∙ ap (λ xs. slice_get (filter_map (fault_of_file h step files) xs) 0) none in
    subst (λ ns. HoldsStored h step files (shape_in (tables_of h ns tables)) (has_in_tables (tables_of h ns tables)) (stored_in (tables_of h ns tables) leaves) leaves)
    (sym (completed (number_at h step files) all left numbers none so_far.number))
    (subst (λ ts. HoldsStored h step files (shape_in (tables_of h (numbers_there h step files) ts)) (has_in_tables (tables_of h (numbers_there h step files) ts)) (stored_in (tables_of h (numbers_there h step files) ts) leaves) leaves)
    (sym (completed (rows_at h step files) all left tables none so_far.table))
    (subst (λ ls. HoldsStored h step files (shape_in (tables_of h (numbers_there h step files) (tables_there h step files))) (has_in_tables (tables_of h (numbers_there h step files) (tables_there h step files)))
    (stored_in (tables_of h (numbers_there h step files) (tables_there h step files)) ls) ls)
    (sym (completed (leaf_at h step files) all left leaves none so_far.leaf))
    (held h step files is.blocks_some sound)))
