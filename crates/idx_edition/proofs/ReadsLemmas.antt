-- Reads of the tables of a step's files, file after file.
use Rattle.std.proofs.Common.{◌≡◌, ◌≢◌, inl, inr, ℕ, ◌+◌, ◌%◌, ◌^◌, ◌≤◌, List, ◌∷◌, length, Some, None, refl, sym, ap, subst, ◌∙◌, arith}
use Rattle.std.specs.Prelude.{Option, IfErr, IfSome, Result, Ok, Err, OnErr}
use Rattle.std.specs.Result.{IsErrAnd}
use Rattle.std.specs.Option.{option_map}
use Rattle.std.specs.List.{cons_option, filter_map}
use Rattle.idx_outside.specs.Cause.{MadeReads}
use Rattle.idx_outside.specs.Files.{file_at}
use Rattle.idx_outside.specs.declared.mem_file.MemFile.{MemFile}
use Rattle.idx_table.specs.declared.row.Row.{Row}
use Rattle.idx_header.specs.Header.{HeaderValue}
use Rattle.idx_header.specs.Names.{file_name}
use Rattle.idx_layout.specs.Placing.{file_numbers}
use Rattle.idx_layout.specs.OfHeader.{placing_of}
use Rattle.idx_edition.specs.Stored.{found_file}
use Rattle.idx_edition.specs.Loaded.{found_table, table_at}
use Rattle.idx_edition.specs.Reads.{ReadsFiles, ReadsOne, count_there, most_reads}

module _ (h : HeaderValue) (step : ℕ) where
  -- the file is there, where the committed files are known
  abbrev IsThere : Option (List MemFile) → ℕ → Type 0
  IsThere known file = IfSome known (λ files. file_at (file_name h step file) files ≢ None)

  -- a file that was found is there
  pub is_there : (known : Option (List MemFile)) (file : ℕ) (found : List Row × (List ℕ × Option (List ℕ))) →
      IfSome known (λ files. Some found ≡ table_at h step files file) → IsThere known file
  is_there None file found is = tt
  is_there (Some files) file found is = λ none.
      let wrong : ◌≡◌ {A = Option (List Row × (List ℕ × Option (List ℕ)))} (Some found) None = is ∙ ap (option_map (found_table h step file)) none in cc

  -- one that is left counts, or does not
  at_least : (known : Option (List MemFile)) (file : ℕ) (rest : List ℕ) → count_there h step known rest ≤ count_there h step known (file ∷ rest)
  at_least None file rest = omega arith
  at_least (Some files) file rest = by_file (found_file h step files file)
    where
      by_file : (o : Option (List ℕ × List ℕ)) → length (filter_map (found_file h step files) rest) ≤ length (cons_option o (filter_map (found_file h step files) rest))
      by_file None = omega arith
      by_file (Some x) = omega arith

  one_more : (known : Option (List MemFile)) (file : ℕ) (rest : List ℕ) → IsThere known file → count_there h step known (file ∷ rest) ≡ count_there h step known rest + 1
  one_more None file rest there = omega arith
  one_more (Some files) file rest there = by_bytes (file_at (file_name h step file) files) refl
    where
      by_bytes : (o : Option (List ℕ)) → file_at (file_name h step file) files ≡ o → count_there h step (Some files) (file ∷ rest) ≡ count_there h step (Some files) rest + 1
      by_bytes None is = absurd (there is)
      by_bytes (Some bytes) is =
          ap (λ (o : Option (List ℕ)). length (cons_option (option_map (λ bytes. (file_name h step file, bytes)) o) (filter_map (found_file h step files) rest))) is
          ∙ omega arith

  module _ (known : Option (List MemFile)) where
    -- nothing was read yet
    pub few_none : (left : List ℕ) (n : ℕ) → left ≡ file_numbers (placing_of h) → n ≡ 0 → n + count_there h step known left ≤ most_reads h step known
    few_none left n all none =
        let same : count_there h step known left ≡ most_reads h step known = ap (count_there h step known) all in
        omega (arith, same, none)

    pub few_skip : (left rest : List ℕ) (file n : ℕ) → left ≡ file ∷ rest → n + count_there h step known left ≤ most_reads h step known →
        n + count_there h step known rest ≤ most_reads h step known
    few_skip left rest file n first few =
        let same : count_there h step known left ≡ count_there h step known (file ∷ rest) = ap (count_there h step known) first in
        let less = at_least known file rest in
        omega (arith, same, less, few)

    pub few_more : (left rest : List ℕ) (file n : ℕ) → left ≡ file ∷ rest → IsThere known file → n + count_there h step known left ≤ most_reads h step known →
        n + 1 + count_there h step known rest ≤ most_reads h step known
    few_more left rest file n first there few =
        let same : count_there h step known left ≡ count_there h step known (file ∷ rest) = ap (count_there h step known) first in
        let one = one_more known file rest there in
        omega (arith, same, one, few)

    -- the reads so far, or one more, are few
    pub reads_none : (before after : ℕ) → after ≡ before → ReadsFiles h step known before after
    reads_none before after same = record { reads = 0; few = omega arith; made = omega (arith, same) }

    pub reads_so_far : (left : List ℕ) (n before after : ℕ) → n + count_there h step known left ≤ most_reads h step known → MadeReads before after n →
        ReadsFiles h step known before after
    reads_so_far left n before after few made = record { reads = n; few = omega (arith, few); made = made }

    pub reads_with : (left rest : List ℕ) (file n before now after : ℕ) → left ≡ file ∷ rest → n + count_there h step known left ≤ most_reads h step known →
        MadeReads before now n → ReadsOne h step known file now after → ReadsFiles h step known before after
    reads_with left rest file n before now after first few made (inl same) =
        reads_so_far left n before after few (subst (λ m. MadeReads before m n) (sym same) made)
    reads_with left rest file n before now after first few made (inr (there, one)) =
        let more = few_more left rest file n first there few in
        record { reads = n + 1; few = omega (arith, more); made = omega (arith, made, one) }

    pub reads_pushed : (left rest : List ℕ) (file n before now after : ℕ) → left ≡ file ∷ rest → n + count_there h step known left ≤ most_reads h step known →
        MadeReads before now n → IsThere known file → after ≡ (now + 1) % 2 ^ 64 → ReadsFiles h step known before after
    reads_pushed left rest file n before now after first few made there one =
        reads_with left rest file n before now after first few made (inr (there, omega (arith, one)))

-- what is so is so of an error
pub on_err : {T E : Type 0} (result : Result T E) (P : Type 0) → P → OnErr result P
on_err (Ok x) P holds = tt
on_err (Err fault) P holds = holds

-- what holds of the error that is answered
pub err_is : {T E : Type 0} (r : Result T E) (x : E) (P : E → Type 0) → IsErrAnd r (λ y. y ≡ x) → P x → IfErr r P
err_is (Ok v) x P gives holds = absurd gives
err_is (Err y) x P gives holds = subst P (sym gives) holds
