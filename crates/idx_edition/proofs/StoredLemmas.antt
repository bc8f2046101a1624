-- An edition of the files of a step that was written has what committed files store that have them.
use Rattle.std.proofs.Common.{◌≡◌, ℕ, zero, suc, ◌-◌, ◌<◌, Bool, true, false, cond, List, [], ◌∷◌, length, map, Some, None, refl, sym, ap, subst, ◌∙◌}
use Rattle.std.specs.Prelude.{Option, ◌==◌, slice_get}
use Rattle.std.specs.Option.{option_map}
use Rattle.std.specs.List.{cons_option, filter_map, list_any}
use Rattle.std.proofs.Math.ListN.{get_or}
use Rattle.std.proofs.lemmas.List.{length-map}
use Rattle.std.proofs.lemmas.Option.{slice_get-get_or}
use Rattle.idx_geom.specs.Region.{points}
use Rattle.idx_geom.specs.Volume.{IsVolume}
use Rattle.idx_fields.specs.Field.{sample_bytes}
use Rattle.idx_outside.specs.Files.{known_files, known_with}
use Rattle.idx_outside.specs.declared.mem_file.MemFile.{MemFile}
use Rattle.idx_table.specs.Table.{rows_of}
use Rattle.idx_header.specs.Header.{HeaderValue, IsHeader}
use Rattle.idx_header.specs.Names.{file_name}
use Rattle.idx_rowmajor.specs.declared.layout.Layout.{Layout}
use Rattle.idx_layout.specs.Placing.{Placing, block_count, file_numbers, file_of, is_present}
use Rattle.idx_layout.specs.Files.{file_bytes, row_count, rows_of_file}
use Rattle.idx_layout.specs.OfHeader.{placing_of}
use Rattle.idx_layout.specs.Step.{step_file, step_files}
use Rattle.idx_layout.proofs.FileLemmas.{rows_of-file_bytes}
use Rattle.idx_layout.proofs.HeaderLemmas.{fits_rows}
use Rattle.idx_layout.proofs.RightLemmas.{rows_fit}
use Rattle.idx_edition.specs.Stored.{HasFiles, file_of_block, found_file, found_files, has_block}
use Rattle.idx_edition.specs.Tables.{all_known, bytes_in, has_in_tables, is_there, row_among, shape_in, stored_in, with_known, written_tables}
use Rattle.idx_edition.specs.Loaded.{AreWritten, HoldsStored}
use Rattle.idx_edition.proofs.BackLemmas.{block_stored, file_found, no_bad, volume_count}
use Rattle.idx_edition.proofs.HeldLemmas.{has_same}
use Rattle.idx_edition.proofs.LeavesLemmas.{field_exists, leaves_have, leaves_stored}
use Rattle.idx_edition.proofs.LookupLemmas.{place_in_file, place_within}
use Rattle.idx_edition.proofs.WrittenLemmas.{has_present, mapped_at}

-- what is there of each item
each_of : {X Y : Type 0} (f : X → Option Y) (g : X → Y) (xs : List X) → ((i : ℕ) (x : X) → slice_get xs i ≡ Some x → f x ≡ Some (g x)) → filter_map f xs ≡ map g xs
each_of f g [] some = refl
each_of f g (x ∷ xs) some =
    ap (λ o. cons_option o (filter_map f xs)) (some 0 x refl) ∙ ap (λ ys. g x ∷ ys) (each_of f g xs (λ i y at. some (suc i) y at))

-- the files that are there are those of the step
found_written : (layout : Layout) (h : HeaderValue) (step : ℕ) (volume : List (List (List ℕ))) (files : List MemFile) → HasFiles layout h step volume files → found_files h step files ≡ step_files layout h volume step
found_written layout h step volume files has =
    each_of (found_file h step files) (step_file layout h volume step) (file_numbers (placing_of h)) (λ i file at. ap (option_map (λ bytes. ((step_file layout h volume step file).0, bytes))) (has i file at))

-- they have exactly the present blocks
has_written : (layout : Layout) (h : HeaderValue) (step : ℕ) (volume : List (List (List ℕ))) (files : List MemFile) (field block : ℕ) → IsHeader h → HasFiles layout h step volume files → field < length h.fields →
    block < block_count (placing_of h) → has_block h step files field block ≡ is_present (placing_of h) block
has_written layout h step volume files field block is has within exists =
    sym (has_same l field block (file_of_block h step files block) (place_within field (length l.sizes) (block - file) h.blocks_per_file in_fields (place_in_file h.blocks_per_file block is.blocks_some)))
    ∙ ap (λ o. is_there (row_among h.blocks_per_file field block (option_map (λ bytes. rows_of bytes (row_count l)) o))) (file_found layout h step volume files block has)
    ∙ by_test (list_any (λ k. k == file) (file_numbers l))
    ∙ ap (λ o. is_there (row_among h.blocks_per_file field block o)) (sym (mapped_at (rows_of_file layout l) file (file_numbers l)))
    ∙ has_present layout h field block is within exists
  where
    l : Placing
    l = placing_of h

    file : ℕ
    file = file_of (placing_of h) block

    whole : List ℕ
    whole = file_bytes layout (placing_of h) volume (file_of (placing_of h) block)

    in_fields : field < length (placing_of h).sizes
    in_fields = subst (λ n. field < n) (sym (length-map h.fields sample_bytes)) within

    by_test : (b : Bool) →
        is_there (row_among h.blocks_per_file field block (option_map (λ bytes. rows_of bytes (row_count l)) (cond b (Some whole) None)))
        ≡ is_there (row_among h.blocks_per_file field block (cond b (Some (rows_of_file layout l file)) None))
    by_test true = ap (λ rows. is_there (row_among h.blocks_per_file field block (Some rows))) (rows_of-file_bytes layout l volume file (rows_fit layout l file (fits_rows h file is)))
    by_test false = refl

-- leaves that are the files of a step, known or not, are such as the writer lays out
module _ (layout : Layout) (h : HeaderValue) (step : ℕ) (volume : List (List (List ℕ))) (known : Option (List MemFile)) where
  paths_of : (numbers : List ℕ) → map (λ leaf. leaf.0) (known_files known (map (step_file layout h volume step) numbers)) ≡ map (file_name h step) numbers
  paths_of [] = refl
  paths_of (file ∷ numbers) = ap (λ paths. file_name h step file ∷ paths) (paths_of numbers)

  bytes_of : (o : Option (List MemFile)) (bytes whole : List ℕ) → known_with o whole ≡ Some bytes → bytes ≡ whole
  bytes_of None bytes whole e = let wrong : None ≡ Some bytes = e in absurd (cc)
  bytes_of (Some files) bytes whole e = let both : Some whole ≡ Some bytes = e in cc

  file_known : (numbers : List ℕ) (i file : ℕ) (path bytes : List ℕ) → slice_get numbers i ≡ Some file →
      slice_get (known_files known (map (step_file layout h volume step) numbers)) i ≡ Some (path, Some bytes) → bytes ≡ file_bytes layout (placing_of h) volume file
  file_known [] i file path bytes number at = let wrong : None ≡ Some file = number in absurd (cc)
  file_known (k ∷ numbers) zero file path bytes number at =
      let same : k ≡ file = cc in
      let both : ◌≡◌ {A = Option (List ℕ × Option (List ℕ))} (Some (file_name h step k, known_with known (file_bytes layout (placing_of h) volume k))) (Some (path, Some bytes)) = at in
      let pairs : ◌≡◌ {A = List ℕ × Option (List ℕ)} (file_name h step k, known_with known (file_bytes layout (placing_of h) volume k)) (path, Some bytes) = cc in
      bytes_of known bytes (file_bytes layout (placing_of h) volume k) (ap (λ pair. pair.1) pairs) ∙ ap (file_bytes layout (placing_of h) volume) same
  file_known (k ∷ numbers) (suc i) file path bytes number at = file_known numbers i file path bytes number at

  pub known_written : (leaves : List (List ℕ × Option (List ℕ))) → IsVolume (placing_of h).sizes (length (points h.box)) volume → leaves ≡ known_files known (step_files layout h volume step) →
      AreWritten layout h step volume leaves
  known_written leaves fills same = record {
    whole = fills;
    paths = ap (map (λ leaf. leaf.0)) same ∙ paths_of (file_numbers (placing_of h));
    bytes = λ i file path bytes number at. file_known (file_numbers (placing_of h)) i file path bytes number (ap (λ ls. slice_get ls i) (sym same) ∙ at);
  }

-- the bytes of files that are known
told : (files : List MemFile) (entries : List (List ℕ × List ℕ)) → all_known (known_files (Some files) entries) ≡ Some (map (λ entry. entry.1) entries)
told files [] = refl
told files (entry ∷ entries) = ap (with_known (Some entry.1)) (told files entries)

pub written_held : (layout : Layout) (h : HeaderValue) (step : ℕ) (volume : List (List (List ℕ))) (files : List MemFile) (leaves : List (List ℕ × Option (List ℕ))) → IsHeader h →
    IsVolume (placing_of h).sizes (length (points h.box)) volume → HasFiles layout h step volume files →
    leaves ≡ known_files (Some files) (step_files layout h volume step) →
    HoldsStored h step files (shape_in (written_tables layout h)) (has_in_tables (written_tables layout h)) (stored_in (written_tables layout h) leaves) leaves
written_held layout h step volume files leaves is fills has same = record {
  sound = no_bad layout h step volume files is fills has;
  has_blocks = λ field block within exists.
      leaves_have layout h is field block within exists ∙ sym (has_written layout h step volume files field block is has (field_exists h field within) exists);
  content = λ content is-content field block within exists.
      let in_fields : field < length h.fields = field_exists h field within in
      let in_sizes : field < length volume = subst (λ n. field < n) (sym (volume_count (placing_of h).sizes (length (points h.box)) volume fills ∙ length-map h.fields sample_bytes)) in_fields in
      let samples : List (List ℕ) = get_or volume field [] in
      let at : slice_get volume field ≡ Some samples = slice_get-get_or volume field [] in_sizes in
      leaves_stored layout h step is volume leaves (known_written layout h step volume (Some files) leaves fills same) content is-content field block within exists samples at
      ∙ sym (block_stored layout h step volume files field block samples is fills has in_fields at exists);
  known = λ none.
      let all : List (List ℕ) = map (λ entry. entry.1) (step_files layout h volume step) in
      let wrong : ◌≡◌ {A = Option (ℕ → ℕ → List ℕ)} None (Some (bytes_in (written_tables layout h) all)) =
      sym none ∙ ap (λ ls. option_map (bytes_in (written_tables layout h)) (all_known ls)) same ∙ ap (option_map (bytes_in (written_tables layout h))) (told files (step_files layout h volume step)) in cc;
  same_files = same ∙ ap (known_files (Some files)) (sym (found_written layout h step volume files has));
}
