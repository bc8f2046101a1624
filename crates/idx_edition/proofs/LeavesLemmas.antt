-- Leaves that are the files of a step as the writer lays them out.
use Rattle.std.proofs.Common.{◌≡◌, ℕ, zero, suc, ◌<◌, ◌≤◌, List, [], ◌∷◌, length, map, Some, None, refl, sym, ap, subst, ◌∙◌, arith}
use Rattle.std.proofs.Props.{props}
use Rattle.std.specs.Prelude.{Option, slice_get}
use Rattle.std.specs.Option.{ForSome, option_map}
use Rattle.std.proofs.Math.ListN.{get_or}
use Rattle.std.proofs.lemmas.List.{length-map}
use Rattle.std.proofs.lemmas.List.FromFn.{length-map-range_with_len}
use Rattle.std.proofs.lemmas.Option.{slice_get-map, slice_get_past, slice_get_within, slice_get-get_or}
use Rattle.idx_fields.specs.Field.{sample_bytes}
use Rattle.idx_table.specs.declared.row.Row.{Row}
use Rattle.idx_header.specs.Header.{HeaderValue, IsHeader}
use Rattle.idx_header.specs.Names.{file_name}
use Rattle.idx_rowmajor.specs.declared.layout.Layout.{Layout}
use Rattle.idx_layout.specs.Placing.{Placing, block_bytes, file_numbers, is_present}
use Rattle.idx_layout.specs.Files.{file_bytes, rows_of_file}
use Rattle.idx_layout.specs.OfHeader.{placing_of}
use Rattle.idx_layout.proofs.FileLemmas.{length-file_bytes}
use Rattle.idx_layout.specs.Shape.{block_lengths, shape_of}
use Rattle.idx_edition.specs.Tables.{AreTablesOf, EndWithin, all_known, bytes_in, has_in_tables, stored_in, written_tables}
use Rattle.idx_edition.specs.Loaded.{AreWritten, IsWrittenBlock, OfBlocks}
use Rattle.idx_edition.proofs.LookupLemmas.{known_each}
use Rattle.idx_edition.proofs.WrittenLemmas.{block_written, has_present, written_right}

-- lists that have the same at each place
pub same_lists : {X : Type 0} (xs ys : List X) → ((i : ℕ) → slice_get xs i ≡ slice_get ys i) → xs ≡ ys
same_lists [] [] same = refl
same_lists [] (y ∷ ys) same = let wrong : None ≡ Some y = same 0 in absurd (cc)
same_lists (x ∷ xs) [] same = let wrong : Some x ≡ None = same 0 in absurd (cc)
same_lists (x ∷ xs) (y ∷ ys) same =
    let first : Some x ≡ Some y = same 0 in
    let one : x ≡ y = cc in
    ap (λ z. z ∷ xs) one ∙ ap (λ zs. y ∷ zs) (same_lists xs ys (λ i. same (suc i)))

pub field_exists : (h : HeaderValue) (field : ℕ) → field < length (block_lengths (placing_of h)) → field < length h.fields
field_exists h field within =
    omega (arith, within, length-map-range_with_len (block_bytes (placing_of h)) 0 (length (placing_of h).sizes), length-map h.fields sample_bytes)

-- that tables are those of files has one proof at most
pub tables_fact : (tables : List (List Row)) (leaves : List (List ℕ × Option (List ℕ))) → IsProp (AreTablesOf tables leaves)
tables_fact tables leaves = hlevel props

module _ (layout : Layout) (h : HeaderValue) (step : ℕ) (is : IsHeader h) (volume : List (List (List ℕ))) (leaves : List (List ℕ × Option (List ℕ))) (w : AreWritten layout h step volume leaves) where
  -- as many leaves as files
  same_count : length leaves ≡ length (file_numbers (placing_of h))
  same_count = sym (length-map leaves (λ (leaf : List ℕ × Option (List ℕ)). leaf.0)) ∙ ap length w.paths ∙ length-map (file_numbers (placing_of h)) (file_name h step)

  pub leaves_fit : AreTablesOf (written_tables layout h).tables leaves
  leaves_fit = record {
    same = same_count ∙ sym (length-map (file_numbers l) (rows_of_file layout l));
    within = λ i rows leaf at at'. fits i rows leaf (slice_get (file_numbers l) i) refl at at';
  }
    where
      l : Placing
      l = placing_of h

      fits : (i : ℕ) (rows : List Row) (leaf : List ℕ × Option (List ℕ)) (o : Option ℕ) → slice_get (file_numbers l) i ≡ o →
          slice_get (map (rows_of_file layout l) (file_numbers l)) i ≡ Some rows → slice_get leaves i ≡ Some leaf → ForSome leaf.1 (λ bytes. EndWithin rows (length bytes))
      fits i rows leaf None number at at' =
          let wrong : ◌≡◌ {A = Option (List Row)} None (Some rows) = ap (option_map (rows_of_file layout l)) (sym number) ∙ sym (slice_get-map (rows_of_file layout l) (file_numbers l) i) ∙ at in absurd (cc)
      fits i rows leaf (Some file) number at at' = λ bytes known.
          let both : Some (rows_of_file layout l file) ≡ Some rows = ap (option_map (rows_of_file layout l)) (sym number) ∙ sym (slice_get-map (rows_of_file layout l) (file_numbers l) i) ∙ at in
          let same : rows_of_file layout l file ≡ rows = cc in
          let written : bytes ≡ file_bytes layout l volume file = w.bytes i file leaf.0 bytes number (at' ∙ ap (λ (o : Option (List ℕ)). Some (leaf.0, o)) known) in
          subst (λ rs. EndWithin rs (length bytes)) same
          (subst (EndWithin (rows_of_file layout l file)) (sym (ap length written ∙ length-file_bytes layout l volume file w.whole)) (written_right layout h file is).1)

  -- where all bytes are known they are those of the files
  all_written : (all : List (List ℕ)) → all_known leaves ≡ Some all → all ≡ map (file_bytes layout (placing_of h) volume) (file_numbers (placing_of h))
  all_written all known = same_lists all (map (file_bytes layout l volume) (file_numbers l)) (λ i. at_place i (slice_get (file_numbers l) i) refl)
    where
      l : Placing
      l = placing_of h

      at_place : (i : ℕ) (o : Option ℕ) → slice_get (file_numbers l) i ≡ o → slice_get all i ≡ slice_get (map (file_bytes layout l volume) (file_numbers l)) i
      at_place i None number =
          let each = known_each leaves all known in
          let past : length (file_numbers l) ≤ i = beyond (file_numbers l) i number in
          slice_get_past all i (omega (arith, each.0, same_count, past))
          ∙ sym (slice_get-map (file_bytes layout l volume) (file_numbers l) i ∙ ap (option_map (file_bytes layout l volume)) number)
        where
          beyond : (xs : List ℕ) (i : ℕ) → slice_get xs i ≡ None → length xs ≤ i
          beyond [] i none = omega arith
          beyond (x ∷ xs) zero none = let wrong : Some x ≡ None = none in absurd (cc)
          beyond (x ∷ xs) (suc i) none = let more : length xs ≤ i = beyond xs i none in omega (arith, more)
      at_place i (Some file) number =
          let each = known_each leaves all known in
          let inside : i < length (file_numbers l) = slice_get_within (file_numbers l) i file number in
          let leaf : List ℕ × Option (List ℕ) = get_or leaves i ([], None) in
          let at : slice_get leaves i ≡ Some leaf = slice_get-get_or leaves i ([], None) (omega (arith, same_count, inside)) in
          let bytes : List ℕ = get_or all i [] in
          let here : slice_get all i ≡ Some bytes = slice_get-get_or all i [] (omega (arith, each.0, same_count, inside)) in
          let told : leaf.1 ≡ Some bytes = each.1 i leaf at ∙ here in
          let written : bytes ≡ file_bytes layout l volume file = w.bytes i file leaf.0 bytes number (at ∙ ap (λ (o : Option (List ℕ)). Some (leaf.0, o)) told) in
          here ∙ ap (λ b. Some b) written
          ∙ sym (slice_get-map (file_bytes layout l volume) (file_numbers l) i ∙ ap (option_map (file_bytes layout l volume)) number)

  pub leaves_stored : ForSome (stored_in (written_tables layout h) leaves) (λ stored. OfBlocks (shape_of h) (λ field block. IsWrittenBlock h volume field block (stored field block)))
  leaves_stored = λ stored known field block within exists samples at. by_known (all_known leaves) refl stored known field block within exists samples at
    where
      by_known : (o : Option (List (List ℕ))) → all_known leaves ≡ o → (stored : ℕ → ℕ → List ℕ) → option_map (bytes_in (written_tables layout h)) o ≡ Some stored →
          OfBlocks (shape_of h) (λ field block. IsWrittenBlock h volume field block (stored field block))
      by_known None is-known stored known = let wrong : ◌≡◌ {A = Option (ℕ → ℕ → List ℕ)} None (Some stored) = known in absurd (cc)
      by_known (Some all) is-known stored known = λ field block within exists samples at.
          let same : bytes_in (written_tables layout h) all ≡ stored = cc in
          ap (λ (f : ℕ → ℕ → List ℕ). f field block) (sym same)
          ∙ ap (λ files. bytes_in (written_tables layout h) files field block) (all_written all is-known)
          ∙ block_written layout h field block is (field_exists h field within) volume samples w.whole at exists

pub leaves_have : (layout : Layout) (h : HeaderValue) → IsHeader h → OfBlocks (shape_of h) (λ field block. has_in_tables (written_tables layout h) field block ≡ is_present (placing_of h) block)
leaves_have layout h is = λ field block within exists. has_present layout h field block is (field_exists h field within) exists
