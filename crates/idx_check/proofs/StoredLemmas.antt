-- What a step stores of its files, where they have the writer's table.
use Rattle.std.proofs.Common.{◌≡◌, ℕ, zero, suc, ◌+◌, ◌-◌, ◌*◌, ◌%◌, ◌^◌, ◌<◌, ◌≤◌, Bool, true, false, cond, List, [], ◌∷◌, length, take, drop, get_or, Some, None, refl, sym, ap, subst, ◌∙◌, arith, zero-add, eqb-true}
use Rattle.std.specs.Prelude.{Option, nat_lt, replicate, slice_get, slice_index, ◌==◌}
use Rattle.std.specs.Option.{option_map}
use Rattle.std.specs.List.{cons_option, filter_map, list_any}
use Rattle.std.proofs.Math.Nat.{mod-eq_of_lt, mul-add-mod_self_right}
use Rattle.std.proofs.lemmas.Bool.{lt-ltb, ltb-true}
use Rattle.std.proofs.lemmas.List.{get_or-drop, get_or-take, length-drop, length-map, length-replicate, length-take-le}
use Rattle.std.proofs.lemmas.List.FromFn.{get_or-map-range_with_len, length-map-range_with_len}
use Rattle.std.proofs.lemmas.Option.{slice_get-get_or}
use Rattle.idx_geom.specs.Region.{points}
use Rattle.idx_geom.specs.Volume.{IsVolume}
use Rattle.idx_fields.specs.Field.{sample_bytes}
use Rattle.idx_outside.specs.Files.{file_at}
use Rattle.idx_outside.specs.declared.mem_file.MemFile.{MemFile}
use Rattle.idx_table.specs.Row.{absent}
use Rattle.idx_table.specs.Table.{first_fault, row_at, rows_of}
use Rattle.idx_table.specs.declared.row.Row.{Row}
use Rattle.idx_table.specs.declared.table_fault.TableFault.{TableFault}
use Rattle.idx_header.specs.Header.{HeaderValue, IsHeader}
use Rattle.idx_header.specs.Names.{file_name}
use Rattle.idx_rowmajor.specs.RowPlace.{IsBlock}
use Rattle.idx_rowmajor.specs.declared.layout.Layout.TheVariants.{Hz}
use Rattle.idx_rowmajor.proofs.HeaderLemmas.{IsBlock-header}
use Rattle.idx_layout.specs.Content.{volume_in}
use Rattle.idx_layout.specs.Files.{FitsRows, file_bytes, length_of_file, offset_of, row_count, row_of_block, rows_of_file}
use Rattle.idx_layout.specs.OfHeader.{placing_of}
use Rattle.idx_layout.specs.Placing.{Placing, block_bytes, file_numbers, file_of, is_present}
use Rattle.idx_layout.specs.Shape.{block_lengths}
use Rattle.idx_layout.proofs.ArrangedLemmas.{length-in_hz_order}
use Rattle.idx_layout.proofs.FileLemmas.{length-file_bytes, rows_of-file_bytes}
use Rattle.idx_layout.proofs.HeaderLemmas.{fits_rows}
use Rattle.idx_layout.proofs.ListLemmas.{passing}
use Rattle.idx_layout.proofs.PresentLemmas.{absent-past}
use Rattle.idx_layout.proofs.RightLemmas.{ends_within, row_at_place, rows_fit}
use Rattle.idx_edition.specs.Stored.{bad_table, block_in, fault_of_bytes, fault_of_file, file_of_block, first_bad, row_in, stored_block}
use Rattle.idx_edition.specs.Tables.{EndWithin, IsTable, order_of}
use Rattle.idx_edition.proofs.AbsentLemmas.{some_block}
use Rattle.idx_edition.proofs.FrontLemmas.{rows-right}
use Rattle.idx_edition.proofs.LookupLemmas.{field_of_place, place_in_file, place_within}
use Rattle.idx_check.specs.Verdict.{is_written}
use Rattle.idx_check.specs.Wanted.{block_there, bytes_from, wanted_bytes}
use Rattle.idx_check.proofs.DifferenceLemmas.{same_texts}
use Rattle.idx_check.proofs.ContentLemmas.{HasLengths, HaveSame, same_file}
use Rattle.idx_check.proofs.NumbersLemmas.{file_of_place}
use Rattle.idx_check.proofs.WantedLemmas.{bytes_from-byte, length-bytes_from}

-- so many bytes from a place on, where all of them are there
pub bytes_from-whole : (bytes : List ℕ) (at count : ℕ) → at + count ≤ length bytes → take count (drop at bytes) ≡ bytes_from bytes at count
bytes_from-whole bytes at count ends =
    let size : length (take count (drop at bytes)) ≡ count = length-take-le count (drop at bytes) (omega (arith, ends, length-drop at bytes)) in
    same_texts (take count (drop at bytes)) (bytes_from bytes at count) (size ∙ sym (length-bytes_from bytes at count)) (λ i less.
    let within : i < count = omega (arith, less, size) in
    get_or-take count (drop at bytes) i 0 within ∙ get_or-drop at bytes i 0 ∙ sym (bytes_from-byte bytes at count i within))

-- ---- a block of a file that has the writer's table
-- its row
row_there : (l : Placing) (volume : List (List (List ℕ))) (bytes : List ℕ) (file field block : ℕ) → FitsRows l file → bytes ≡ file_bytes Hz l volume file → field < length l.sizes →
    file ≤ block → block < file + l.per_file → file_of l block ≡ file → row_in l bytes field block ≡ row_of_block Hz l file field block
row_there l volume bytes file field block fits same exists from to own =
    let p : ℕ = l.per_file in
    let place : ℕ = block - file in
    let n : ℕ = field * p + place in
    let few : place < p = omega (arith, from, to) in
    let inside : n < row_count l = place_within field (length l.sizes) place p exists few in
    let rest : n % p ≡ place = mul-add-mod_self_right field p place ∙ mod-eq_of_lt few in
    let here : file + n % p ≡ block = omega (arith, rest, from) in
    let d : Row = row_at bytes n in
    let rows : rows_of bytes (row_count l) ≡ rows_of_file Hz l file =
    ap (λ b. rows_of b (row_count l)) same ∙ rows_of-file_bytes Hz l volume file (rows_fit Hz l file fits) in
    ap (λ f. row_at bytes (field * p + (block - f))) own
    ∙ sym (get_or-map-range_with_len (row_at bytes) 0 (row_count l) n n d inside (zero-add n))
    ∙ ap (λ rs. get_or rs n d) rows
    ∙ row_at_place Hz l file n d fits.places inside
    ∙ ap (λ f. row_of_block Hz l file f (file + n % p)) (field_of_place field place p few)
    ∙ ap (row_of_block Hz l file field) here

-- and its bytes
block_at_row : (l : Placing) (bytes : List ℕ) (file field block : ℕ) → row_in l bytes field block ≡ row_of_block Hz l file field block → is_present l block ≡ true → 0 < block_bytes l field →
    block_in l (Some bytes) field block ≡ take (block_bytes l field) (drop (offset_of l file field block) bytes)
block_at_row l bytes file field block row present some =
    let size : ℕ = block_bytes l field in
    let there : Row = record { offset = offset_of l file field block; size = size; flags = 0 } in
    let taken : Row → List ℕ = λ r. cond (nat_lt 0 r.size) (order_of l field block r.flags (take size (drop r.offset bytes))) (replicate size 0) in
    ap taken (row ∙ ap (λ (b : Bool). cond b there absent) present)
    ∙ ap (λ (b : Bool). cond b (take size (drop (offset_of l file field block) bytes)) (replicate size 0)) (lt-ltb 0 size some)

-- ---- a file of the step
-- a file that the writer writes is there, and has these bytes, which are those of the file of some volume
pub record IsWriters (h : HeaderValue) (step : ℕ) (files : List MemFile) (file : ℕ) (volume : List (List (List ℕ))) (bytes : List ℕ) : Type 0 where
  pub begins : (i : ℕ) × (file ≡ h.blocks_per_file * i)
  pub written : is_written (placing_of h) file ≡ true
  pub there : file_at (file_name h step file) files ≡ Some bytes
  pub fills : IsVolume (placing_of h).sizes (length (points h.box)) volume
  pub same : bytes ≡ file_bytes Hz (placing_of h) volume file

module _ (h : HeaderValue) (step : ℕ) (files : List MemFile) (is : IsHeader h) where
  found_there : (file block : ℕ) (bytes : List ℕ) → file_of (placing_of h) block ≡ file → is_written (placing_of h) file ≡ true → file_at (file_name h step file) files ≡ Some bytes →
      file_of_block h step files block ≡ Some bytes
  found_there file block bytes own written there =
      ap (λ f. cond (list_any (λ n. n == f) (file_numbers (placing_of h))) (file_at (file_name h step f) files) None) own
      ∙ ap (λ (b : Bool). cond b (file_at (file_name h step file) files) None) written
      ∙ there

  -- the step stores the blocks as they stand in the file
  same_stored : (file : ℕ) (volume : List (List (List ℕ))) (bytes : List ℕ) → IsWriters h step files file volume bytes →
      HaveSame (placing_of h) file (stored_block h step files) (block_there (placing_of h) file bytes)
  same_stored file volume bytes w = record {
    blocks = λ field block exists from to present.
        let l : Placing = placing_of h in
        let begins : file ≡ l.per_file * w.begins.0 = w.begins.1 in
        let own : file_of l block ≡ file = file_of_place l is.blocks_some w.begins.0 block (omega (arith, begins, from)) (omega (arith, begins, to)) ∙ sym begins in
        let row = row_there l volume bytes file field block (fits_rows h file is) w.same exists from to own in
        let some : 0 < block_bytes l field = some_block h field is (omega (arith, exists, length-map h.fields sample_bytes)) in
        let size : length bytes ≡ length_of_file l file = ap length w.same ∙ length-file_bytes Hz l volume file w.fills in
        ap (λ o. block_in l o field block) (found_there file block bytes own w.written w.there)
        ∙ block_at_row l bytes file field block row present some
        ∙ bytes_from-whole bytes (offset_of l file field block) (block_bytes l field) (omega (arith, size, ends_within l file field block exists from to present));
  }

  -- so the file of what the step stores is what the file should be
  pub written_again : (file : ℕ) (volume : List (List (List ℕ))) (bytes : List ℕ) → IsWriters h step files file volume bytes →
      file_bytes Hz (placing_of h) (volume_in (placing_of h) (stored_block h step files)) file ≡ wanted_bytes (placing_of h) file bytes
  written_again file volume bytes w =
      same_file Hz (placing_of h) file (stored_block h step files) (block_there (placing_of h) file bytes) (same_stored file volume bytes w)

-- ---- a step without a faulty row
-- where nothing is first no item has an answer
pub nothing_first : {X Y : Type 0} (f : X → Option Y) (xs : List X) → slice_get (filter_map f xs) 0 ≡ None → (i : ℕ) (x : X) → slice_get xs i ≡ Some x → f x ≡ None
nothing_first f [] none i x at = let wrong : None ≡ Some x = at in absurd (cc)
nothing_first {X = X} {Y = Y} f (y ∷ ys) none i x at = by_answer (nothing_first f ys) (f y) refl i at
  where
    by_answer : (slice_get (filter_map f ys) 0 ≡ None → (i : ℕ) (x : X) → slice_get ys i ≡ Some x → f x ≡ None) → (o : Option Y) → f y ≡ o → (i : ℕ) → slice_get (y ∷ ys) i ≡ Some x → f x ≡ None
    by_answer more (Some z) is i at =
        let wrong : Some z ≡ None = sym (ap (λ o. slice_get (cons_option o (filter_map f ys)) 0) is) ∙ none in absurd (cc)
    by_answer more None is zero at =
        let same : y ≡ x = cc in ap f (sym same) ∙ is
    by_answer more None is (suc i) at =
        more (sym (ap (λ o. slice_get (cons_option o (filter_map f ys)) 0) is) ∙ none) i x at

-- what is not at an end or past it is before it
some_below : (n k : ℕ) → (n ≤ k → ⊥) → k < n
some_below n k past = omega (arith, past)

no_fault_in : (file : ℕ) (o : Option TableFault) → option_map (bad_table file) o ≡ None → o ≡ None
no_fault_in file None e = refl
no_fault_in file (Some fault) e = let wrong : Some (bad_table file fault) ≡ None = e in absurd (cc)

module _ (h : HeaderValue) (step : ℕ) (files : List MemFile) (is : IsHeader h) (sound : first_bad h step files ≡ None) where
  -- a present block of a file that is there has its length
  length_in : (bytes : List ℕ) (field block : ℕ) → field < length (placing_of h).sizes → is_present (placing_of h) block ≡ true → first_fault bytes (row_count (placing_of h)) (block_lengths (placing_of h)) (length bytes) ≡ None →
      length (block_in (placing_of h) (Some bytes) field block) ≡ block_bytes (placing_of h) field
  length_in bytes field block exists present none = by_size (nat_lt 0 row.size) refl
    where
      l : Placing
      l = placing_of h

      place : ℕ
      place = block - file_of (placing_of h) block

      few : place < h.blocks_per_file
      few = place_in_file h.blocks_per_file block is.blocks_some

      n : ℕ
      n = field * h.blocks_per_file + (block - file_of (placing_of h) block)

      row : Row
      row = row_in (placing_of h) bytes field block

      size : ℕ
      size = block_bytes (placing_of h) field

      inside : n < row_count (placing_of h)
      inside = place_within field (length l.sizes) place h.blocks_per_file exists few

      at : slice_get (rows_of bytes (row_count (placing_of h))) n ≡ Some row
      at =
          slice_get-get_or (rows_of bytes (row_count l)) n row (subst (λ m. n < m) (sym (length-map-range_with_len (row_at bytes) 0 (row_count l))) inside)
          ∙ ap (λ r. Some r) (get_or-map-range_with_len (row_at bytes) 0 (row_count l) n n row inside (zero-add n))

      right : IsTable (block_lengths l) h.blocks_per_file (rows_of bytes (row_count l)) × EndWithin (rows_of bytes (row_count l)) (length bytes)
      right = rows-right bytes (length l.sizes) h.blocks_per_file (block_lengths l) (length bytes) (fits_rows h 0 is).fields (length-map-range_with_len (block_bytes l) 0 (length l.sizes)) none

      taken : List ℕ
      taken = take size (drop row.offset bytes)

      is_block : IsBlock h.mask (length h.box) h.block_bits block
      is_block = IsBlock-header h block is (some_below (2 ^ (length h.mask - h.block_bits)) block (λ past.
          let wrong : true ≡ false = sym present ∙ absent-past h.mask h.box h.block_bits block is.bits_within past in cc))

      by_size : (b : Bool) → nat_lt 0 row.size ≡ b → length (cond (nat_lt 0 row.size) (order_of l field block row.flags taken) (replicate size 0)) ≡ size
      by_size false e =
          ap (λ (b : Bool). length (cond b (order_of l field block row.flags taken) (replicate size 0))) e ∙ length-replicate size 0
      by_size true e =
          let some : 0 < row.size = ltb-true 0 row.size e in
          let whole : row.size ≡ size =
          right.0.sizes n row at some
          ∙ ap (slice_index (block_lengths l)) (field_of_place field place h.blocks_per_file few)
          ∙ get_or-map-range_with_len (block_bytes l) 0 (length l.sizes) field field 0 exists (zero-add field) in
          let ends : row.offset + row.size ≤ length bytes = right.1.ends n row at some in
          ap (λ (b : Bool). length (cond b (order_of l field block row.flags taken) (replicate size 0))) e
          ∙ length-in_hz_order l (slice_index l.sizes field) block row.flags taken is_block
          (length-take-le size (drop row.offset bytes) (omega (arith, whole, ends, length-drop row.offset bytes)))

  -- what it stores are blocks of their lengths
  pub stored_lengths : HasLengths (placing_of h) (stored_block h step files)
  stored_lengths = record { lengths = λ field block exists present. of_block field block exists present (list_any (λ f. f == file_of (placing_of h) block) (file_numbers (placing_of h))) refl (file_at (file_name h step (file_of (placing_of h) block)) files) refl }
    where
      of_block : (field block : ℕ) → field < length (placing_of h).sizes → is_present (placing_of h) block ≡ true → (b : Bool) → list_any (λ f. f == file_of (placing_of h) block) (file_numbers (placing_of h)) ≡ b →
          (o : Option (List ℕ)) → file_at (file_name h step (file_of (placing_of h) block)) files ≡ o →
          length (stored_block h step files field block) ≡ block_bytes (placing_of h) field
      of_block field block exists present false listed o found =
          ap (λ (b : Bool). length (block_in (placing_of h) (cond b (file_at (file_name h step (file_of (placing_of h) block)) files) None) field block)) listed
          ∙ length-replicate (block_bytes (placing_of h) field) 0
      of_block field block exists present true listed None found =
          ap (λ (b : Bool). length (block_in (placing_of h) (cond b (file_at (file_name h step (file_of (placing_of h) block)) files) None) field block)) listed
          ∙ ap (λ o. length (block_in (placing_of h) o field block)) found
          ∙ length-replicate (block_bytes (placing_of h) field) 0
      of_block field block exists present true listed (Some bytes) found =
          let l : Placing = placing_of h in
          let file : ℕ = file_of l block in
          let at = passing (λ f. f == file) (file_numbers l) listed in
          let same : at.1 ≡ file = eqb-true at.1 file at.3 in
          let none : fault_of_file h step files file ≡ None = ap (fault_of_file h step files) (sym same) ∙ nothing_first (fault_of_file h step files) (file_numbers l) sound at.0 at.1 at.2 in
          let right : first_fault bytes (row_count l) (block_lengths l) (length bytes) ≡ None =
          no_fault_in file (first_fault bytes (row_count l) (block_lengths l) (length bytes)) (sym (ap (fault_of_bytes l file) found) ∙ none) in
          ap (λ (b : Bool). length (block_in l (cond b (file_at (file_name h step file) files) None) field block)) listed
          ∙ ap (λ o. length (block_in l o field block)) found
          ∙ length_in bytes field block exists present right
