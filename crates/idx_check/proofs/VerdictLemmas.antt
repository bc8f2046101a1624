-- Nothing is wrong with a step exactly where its files are the writer's.
use Rattle.std.proofs.Common.{◌≡◌, ℕ, zero, suc, ◌+◌, ◌-◌, ◌*◌, ◌<◌, ◌≤◌, Bool, true, false, cond, List, [], ◌∷◌, length, map, drop, Some, None, refl, sym, ap, ◌∙◌, arith}
use Rattle.std.specs.Prelude.{◌↔◌, IfSome, Option, filter, slice_get}
use Rattle.std.specs.Option.{option_map}
use Rattle.std.specs.List.{cons_option, filter_map, range_with_len}
use Rattle.std.proofs.lemmas.Option.{some_pair_parts}
use Rattle.idx_outside.specs.Files.{file_at}
use Rattle.idx_outside.specs.declared.mem_file.MemFile.{MemFile}
use Rattle.idx_names.specs.Template.{IsTemplate}
use Rattle.idx_names.proofs.ApartLemmas.{files_differ, steps_differ}
use Rattle.idx_table.specs.Table.{first_fault}
use Rattle.idx_header.specs.declared.steps.Steps.{Steps}
use Rattle.idx_header.specs.Header.{AreSteps, HeaderValue, IsHeader}
use Rattle.idx_header.specs.Names.{file_name, name_with}
use Rattle.idx_rowmajor.specs.declared.layout.Layout.TheVariants.{Hz}
use Rattle.idx_layout.specs.Content.{volume_in}
use Rattle.idx_layout.specs.Files.{file_bytes, row_count}
use Rattle.idx_layout.specs.OfHeader.{placing_of}
use Rattle.idx_layout.specs.Placing.{Placing, file_numbers}
use Rattle.idx_layout.specs.Shape.{block_lengths}
use Rattle.idx_layout.specs.Step.{step_file, step_files}
use Rattle.idx_layout.proofs.FileLemmas.{length-file_bytes}
use Rattle.idx_layout.proofs.HeaderLemmas.{fits_rows}
use Rattle.idx_layout.proofs.RightLemmas.{no_fault}
use Rattle.idx_edition.specs.Stored.{bad_table, fault_of_bytes, fault_of_file, first_bad, found_file, stored_block}
use Rattle.idx_check.specs.Difference.{first_difference}
use Rattle.idx_check.specs.Verdict.{all_files, file_count, files_there, first_wrong, is_written, wrong_in, wrong_of_file}
use Rattle.idx_check.specs.Wanted.{volume_there, wanted_bytes}
use Rattle.idx_check.specs.declared.verdict.Verdict.TheVariants.{Wrong}
use Rattle.idx_check.specs.declared.verdict.WrongKind.TheVariants.{Missing, Extra, Byte}
use Rattle.idx_check.proofs.ContentLemmas.{volume_fills}
use Rattle.idx_check.proofs.DifferenceLemmas.{no_difference, one_text}
use Rattle.idx_check.proofs.NumbersLemmas.{files_rise, listed_written, place_of_file, written_numbers}
use Rattle.idx_check.proofs.StoredLemmas.{nothing_first, stored_lengths, written_again}
use Rattle.idx_check.proofs.WantedLemmas.{there_fills}

-- ---- lists
-- where no item has an answer there is none
no_answer : {X Y : Type 0} (f : X → Option Y) (xs : List X) → ((i : ℕ) (x : X) → slice_get xs i ≡ Some x → f x ≡ None) → slice_get (filter_map f xs) 0 ≡ None
no_answer f [] none = refl
no_answer f (x ∷ xs) none =
    ap (λ o. slice_get (cons_option o (filter_map f xs)) 0) (none 0 x refl) ∙ no_answer f xs (λ i y at. none (suc i) y at)

-- an item that is kept is one of the items
kept_from : {X : Type 0} (q : X → Bool) (xs : List X) (i : ℕ) (x : X) → slice_get (filter q xs) i ≡ Some x → (k : ℕ) × (slice_get xs k ≡ Some x)
kept_from q [] i x at = let wrong : None ≡ Some x = at in absurd (cc)
kept_from {X = X} q (y ∷ ys) i x at = by_test (kept_from q ys) (q y) refl i at
  where
    by_test : ((i : ℕ) (x : X) → slice_get (filter q ys) i ≡ Some x → (k : ℕ) × (slice_get ys k ≡ Some x)) → (b : Bool) → q y ≡ b →
        (i : ℕ) → slice_get (cond (q y) (y ∷ filter q ys) (filter q ys)) i ≡ Some x → (k : ℕ) × (slice_get (y ∷ ys) k ≡ Some x)
    by_test more true is zero at = (0, sym (ap (λ (b : Bool). slice_get (cond b (y ∷ filter q ys) (filter q ys)) 0) is) ∙ at)
    by_test more true is (suc i) at =
        let next = more i x (sym (ap (λ (b : Bool). slice_get (cond b (y ∷ filter q ys) (filter q ys)) (suc i)) is) ∙ at) in (suc next.0, next.1)
    by_test more false is i at =
        let next = more i x (sym (ap (λ (b : Bool). slice_get (cond b (y ∷ filter q ys) (filter q ys)) i) is) ∙ at) in (suc next.0, next.1)

-- the answers of items that have one exactly where they pass a test
answers_of : {X Y : Type 0} (f : X → Option Y) (g : X → Y) (q : X → Bool) (xs : List X) →
    ((i : ℕ) (x : X) → slice_get xs i ≡ Some x → f x ≡ cond (q x) (Some (g x)) None) → filter_map f xs ≡ map g (filter q xs)
answers_of f g q [] each = refl
answers_of f g q (x ∷ xs) each =
    ap (λ o. cons_option o (filter_map f xs)) (each 0 x refl)
    ∙ ap (cons_option (cond (q x) (Some (g x)) None)) (answers_of f g q xs (λ i y at. each (suc i) y at))
    ∙ out (q x)
  where
    out : (b : Bool) → cons_option (cond b (Some (g x)) None) (map g (filter q xs)) ≡ map g (cond b (x ∷ filter q xs) (filter q xs))
    out true = refl
    out false = refl

filter_map-map : {X Y Z : Type 0} (f : Y → Option Z) (m : X → Y) (xs : List X) → filter_map f (map m xs) ≡ filter_map (λ x. f (m x)) xs
filter_map-map f m [] = refl
filter_map-map f m (x ∷ xs) = ap (cons_option (f (m x))) (filter_map-map f m xs)

map-filter-map : {X Y Z : Type 0} (g : Y → Z) (q : Y → Bool) (m : X → Y) (xs : List X) → map g (filter q (map m xs)) ≡ map (λ x. g (m x)) (filter (λ x. q (m x)) xs)
map-filter-map g q m [] = refl
map-filter-map {X = X} g q m (x ∷ xs) = by_test (q (m x)) (map-filter-map g q m xs)
  where
    by_test : (b : Bool) → map g (filter q (map m xs)) ≡ map (λ x. g (m x)) (filter (λ x. q (m x)) xs) →
        map g (cond b (m x ∷ filter q (map m xs)) (filter q (map m xs))) ≡ map (λ x. g (m x)) (cond b (x ∷ filter (λ x. q (m x)) xs) (filter (λ x. q (m x)) xs))
    by_test true rest = ap (λ ys. g (m x) ∷ ys) rest
    by_test false rest = rest

-- ---- entries that are told apart by their names
module _ (name : ℕ → List ℕ) (apart : (k n : ℕ) → k < n → name k ≡ name n → ⊥) (has : ℕ → Option (List ℕ)) (own : ℕ → List ℕ) (test : ℕ → Bool) where
  -- what is there of a number, and what should be
  entry : ℕ → Option (List ℕ × List ℕ)
  entry k = option_map (λ bytes. (name k, bytes)) (has k)

  wanted : ℕ → List ℕ × List ℕ
  wanted k = (name k, own k)

  -- the first entry of numbers from one on has the name of such a number
  first_entry : (a n : ℕ) (e : List ℕ × List ℕ) → slice_get (filter_map entry (range_with_len a n)) 0 ≡ Some e → (k : ℕ) × (a ≤ k) × (name k ≡ e.0)
  unfolding entry
  first_entry a zero e at = let wrong : ◌≡◌ {A = Option (List ℕ × List ℕ)} None (Some e) = at in absurd (cc)
  first_entry a (suc n) e at = by_answer (first_entry (a + 1) n e) (has a) refl
    where
      rest : List (List ℕ × List ℕ)
      rest = filter_map entry (range_with_len (a + 1) n)

      by_answer : (slice_get rest 0 ≡ Some e → (k : ℕ) × (a + 1 ≤ k) × (name k ≡ e.0)) → (o : Option (List ℕ)) → has a ≡ o → (k : ℕ) × (a ≤ k) × (name k ≡ e.0)
      by_answer more (Some bytes) is =
          let both : ◌≡◌ {A = Option (List ℕ × List ℕ)} (Some (name a, bytes)) (Some e) =
          sym (ap (λ o. slice_get (cons_option (option_map (λ bytes. (name a, bytes)) o) rest) 0) is) ∙ at in
          let same : ◌≡◌ {A = List ℕ × List ℕ} (name a, bytes) e = cc in
          (a, omega arith, ap (λ (e : List ℕ × List ℕ). e.0) same)
      by_answer more None is =
          let next = more (sym (ap (λ o. slice_get (cons_option (option_map (λ bytes. (name a, bytes)) o) rest) 0) is) ∙ at) in
          (next.0, omega (arith, next.1), next.2)

  first_wanted : (a n : ℕ) (e : List ℕ × List ℕ) → slice_get (map wanted (filter test (range_with_len a n))) 0 ≡ Some e → (k : ℕ) × (a ≤ k) × (name k ≡ e.0)
  unfolding wanted
  first_wanted a zero e at = let wrong : ◌≡◌ {A = Option (List ℕ × List ℕ)} None (Some e) = at in absurd (cc)
  first_wanted a (suc n) e at = by_test (first_wanted (a + 1) n e) (test a) refl
    where
      rest : List ℕ
      rest = filter test (range_with_len (a + 1) n)

      by_test : (slice_get (map wanted rest) 0 ≡ Some e → (k : ℕ) × (a + 1 ≤ k) × (name k ≡ e.0)) → (b : Bool) → test a ≡ b → (k : ℕ) × (a ≤ k) × (name k ≡ e.0)
      by_test more true is =
          let both : ◌≡◌ {A = Option (List ℕ × List ℕ)} (Some (name a, own a)) (Some e) =
          sym (ap (λ (b : Bool). slice_get (map wanted (cond b (a ∷ rest) rest)) 0) is) ∙ at in
          let same : ◌≡◌ {A = List ℕ × List ℕ} (name a, own a) e = cc in
          (a, omega arith, ap (λ (e : List ℕ × List ℕ). e.0) same)
      by_test more false is =
          let next = more (sym (ap (λ (b : Bool). slice_get (map wanted (cond b (a ∷ rest) rest)) 0) is) ∙ at) in
          (next.0, omega (arith, next.1), next.2)

  -- where the entries are what they should be, each number has what it should have
  each_own : (a n : ℕ) → filter_map entry (range_with_len a n) ≡ map wanted (filter test (range_with_len a n)) →
      (k : ℕ) → a ≤ k → k < a + n → has k ≡ cond (test k) (Some (own k)) None
  unfolding entry wanted
  each_own a zero same k low high = absurd (omega arith)
  each_own a (suc n) same k low high = by_cases (each_own (a + 1) n) (has a) refl (test a) refl (k - a) (omega arith)
    where
      there : List (List ℕ × List ℕ)
      there = filter_map entry (range_with_len (a + 1) n)

      kept : List ℕ
      kept = filter test (range_with_len (a + 1) n)

      lists : (o : Option (List ℕ)) → has a ≡ o → (b : Bool) → test a ≡ b → cons_option (option_map (λ bytes. (name a, bytes)) o) there ≡ map wanted (cond b (a ∷ kept) kept)
      lists o is b e =
          sym (ap (λ o. cons_option (option_map (λ bytes. (name a, bytes)) o) there) is) ∙ same ∙ ap (λ (b : Bool). map wanted (cond b (a ∷ kept) kept)) e

      at_first : (o : Option (List ℕ)) → has a ≡ o → (b : Bool) → test a ≡ b → o ≡ cond b (Some (own a)) None → k ≡ a → has k ≡ cond (test k) (Some (own k)) None
      at_first o is b e right here =
          ap has here ∙ is ∙ right ∙ sym (ap (λ (b : Bool). cond b (Some (own a)) None) e) ∙ sym (ap (λ k. cond (test k) (Some (own k)) None) here)

      by_cases : ((there ≡ map wanted kept) → (k : ℕ) → a + 1 ≤ k → k < a + 1 + n → has k ≡ cond (test k) (Some (own k)) None) →
          (o : Option (List ℕ)) → has a ≡ o → (b : Bool) → test a ≡ b → (d : ℕ) → k ≡ a + d → has k ≡ cond (test k) (Some (own k)) None
      by_cases more None is false e zero here = at_first None is false e refl (omega (arith, here))
      by_cases more None is false e (suc d) here = more (lists None is false e) k (omega (arith, here)) (omega arith)
      by_cases more (Some bytes) is true e zero here =
          let first : ◌≡◌ {A = Option (List ℕ × List ℕ)} (Some (name a, bytes)) (Some (name a, own a)) = ap (λ (es : List (List ℕ × List ℕ)). slice_get es 0) (lists (Some bytes) is true e) in
          let parts = some_pair_parts (name a) (name a) bytes (own a) first in
          at_first (Some bytes) is true e (ap (λ b. Some b) parts.1) (omega (arith, here))
      by_cases more (Some bytes) is true e (suc d) here =
          let rest : there ≡ map wanted kept = ap (λ (es : List (List ℕ × List ℕ)). drop 1 es) (lists (Some bytes) is true e) in
          more rest k (omega (arith, here)) (omega arith)
      by_cases more None is true e d here =
          let later = first_entry (a + 1) n (name a, own a) (ap (λ (es : List (List ℕ × List ℕ)). slice_get es 0) (lists None is true e)) in
          absurd (apart a later.0 (omega (arith, later.1)) (sym later.2))
      by_cases more (Some bytes) is false e d here =
          let later = first_wanted (a + 1) n (name a, bytes) (sym (ap (λ (es : List (List ℕ × List ℕ)). slice_get es 0) (lists (Some bytes) is false e))) in
          absurd (apart a later.0 (omega (arith, later.1)) (sym later.2))

-- ---- names of files
name_of_one : (h : HeaderValue) (o : Option Steps) (step f g : ℕ) → IsTemplate h.template → IfSome o AreSteps → name_with h o step f ≡ name_with h o step g → f ≡ g
name_of_one h None step f g template steps e = files_differ h.template f g template e
name_of_one h (Some steps) step f g template are e = (steps_differ h.template steps.template step step h.revision h.revision f g template are.template e).2

one_name : (h : HeaderValue) (step f g : ℕ) → IsHeader h → file_name h step f ≡ file_name h step g → f ≡ g
unfolding file_name
one_name h step f g is e = name_of_one h h.steps step f g is.template is.steps e

-- ---- what is wrong with one file
-- a file that should be there, and with which nothing is wrong, is there, and has the bytes that it should have
right_file : (l : Placing) (file : ℕ) (o : Option (List ℕ)) → wrong_in l file true o ≡ None → (bytes : List ℕ) × (o ≡ Some bytes) × (bytes ≡ wanted_bytes l file bytes)
right_file l file None none = let wrong : Some (Wrong file 0 Missing) ≡ None = none in absurd (cc)
right_file l file (Some bytes) none = (bytes, refl, one_text bytes (wanted_bytes l file bytes) (nowhere (first_difference bytes (wanted_bytes l file bytes)) none))
  where
    nowhere : (o : Option ℕ) → option_map (λ at. Wrong file at Byte) o ≡ None → o ≡ None
    nowhere None e = refl
    nowhere (Some at) e = let wrong : Some (Wrong file at Byte) ≡ None = e in absurd (cc)

-- and one that should not be there is not there
no_file : (l : Placing) (file : ℕ) (o : Option (List ℕ)) → wrong_in l file false o ≡ None → o ≡ None
no_file l file None none = refl
no_file l file (Some bytes) none = let wrong : Some (Wrong file 0 Extra) ≡ None = none in absurd (cc)

-- ---- the law
module _ (h : HeaderValue) (step : ℕ) (files : List MemFile) (is : IsHeader h) where
  bytes_at : ℕ → Option (List ℕ)
  bytes_at file = file_at (file_name h step file) files

  -- a listed file is one of all
  listed : (i file : ℕ) → slice_get (file_numbers (placing_of h)) i ≡ Some file → (k : ℕ) × (slice_get (all_files (placing_of h)) k ≡ Some file)
  listed i file at =
      kept_from (is_written (placing_of h)) (all_files (placing_of h)) i file
      (sym (ap (λ (numbers : List ℕ). slice_get numbers i) (written_numbers (placing_of h) is.blocks_some)) ∙ at)

  -- where nothing is wrong each file that the writer writes is its own
  wanted_there : first_wrong h step files ≡ None → (k file : ℕ) → slice_get (all_files (placing_of h)) k ≡ Some file → is_written (placing_of h) file ≡ true →
      (bytes : List ℕ) × (bytes_at file ≡ Some bytes) × (bytes ≡ wanted_bytes (placing_of h) file bytes)
  unfolding bytes_at
  wanted_there none k file at written =
      right_file (placing_of h) file (file_at (file_name h step file) files)
      (sym (ap (λ (b : Bool). wrong_in (placing_of h) file b (file_at (file_name h step file) files)) written)
      ∙ nothing_first (wrong_of_file h step files) (all_files (placing_of h)) none k file at)

  -- so no row is faulty
  then_sound : first_wrong h step files ≡ None → first_bad h step files ≡ None
  unfolding bytes_at
  then_sound none = no_answer (fault_of_file h step files) (file_numbers (placing_of h)) (λ i file at.
      let l : Placing = placing_of h in
      let among = listed i file at in
      let own = wanted_there none among.0 file among.1 (listed_written l is.blocks_some i file at) in
      let volume : List (List (List ℕ)) = volume_there l file own.0 in
      ap (fault_of_bytes l file) own.1
      ∙ ap (λ (bytes : List ℕ). option_map (bad_table file) (first_fault bytes (row_count l) (block_lengths l) (length bytes))) own.2
      ∙ ap (λ n. option_map (bad_table file) (first_fault (wanted_bytes l file own.0) (row_count l) (block_lengths l) n)) (length-file_bytes Hz l volume file (there_fills l file own.0))
      ∙ ap (option_map (bad_table file)) (no_fault Hz l volume file (fits_rows h file is)))

  -- and the files are those of what they store
  then_files : first_wrong h step files ≡ None → files_there h step files ≡ step_files Hz h (volume_in (placing_of h) (stored_block h step files)) step
  unfolding bytes_at
  then_files none =
      answers_of (found_file h step files) (step_file Hz h (volume_in (placing_of h) (stored_block h step files)) step) (is_written l) (all_files l)
      (λ k file at. by_test k file at (is_written l file) refl)
      ∙ ap (map (step_file Hz h (volume_in (placing_of h) (stored_block h step files)) step)) (sym (written_numbers l is.blocks_some))
    where
      l : Placing
      l = placing_of h

      named : ℕ → Option (List ℕ) → Option (List ℕ × List ℕ)
      named file o = option_map (λ bytes. (file_name h step file, bytes)) o

      by_test : (k file : ℕ) → slice_get (all_files l) k ≡ Some file → (b : Bool) → is_written l file ≡ b →
          found_file h step files file ≡ cond (is_written l file) (Some (step_file Hz h (volume_in l (stored_block h step files)) step file)) None
      by_test k file at true written =
          let own = wanted_there none k file at written in
          let place = place_of_file l is.blocks_some k file at in
          let again = written_again h step files is file (volume_there l file own.0) own.0 (record {
            begins = (k, place.1);
            written = written;
            there = own.1;
            fills = there_fills l file own.0;
            same = own.2;
          }) in
          ap (named file) (own.1 ∙ ap (λ bytes. Some bytes) (own.2 ∙ sym again))
          ∙ sym (ap (λ (b : Bool). cond b (Some (step_file Hz h (volume_in l (stored_block h step files)) step file)) None) written)
      by_test k file at false written =
          let gone = no_file l file (file_at (file_name h step file) files)
          (sym (ap (λ (b : Bool). wrong_in l file b (file_at (file_name h step file) files)) written)
          ∙ nothing_first (wrong_of_file h step files) (all_files l) none k file at) in
          ap (named file) gone
          ∙ sym (ap (λ (b : Bool). cond b (Some (step_file Hz h (volume_in l (stored_block h step files)) step file)) None) written)

  -- where the files are those of what they store, each number has the file that it should have
  file_own : files_there h step files ≡ step_files Hz h (volume_in (placing_of h) (stored_block h step files)) step →
      (k : ℕ) → k < file_count (placing_of h) →
      file_at (file_name h step (h.blocks_per_file * k)) files
      ≡ cond (is_written (placing_of h) (h.blocks_per_file * k)) (Some (file_bytes Hz (placing_of h) (volume_in (placing_of h) (stored_block h step files)) (h.blocks_per_file * k))) None
  unfolding entry wanted
  file_own same k within =
      each_own (λ k. file_name h step (p * k)) (λ k n less e. absurd (omega (arith, files_rise l is.blocks_some k n less, one_name h step (p * k) (p * n) is e)))
      (λ k. file_at (file_name h step (p * k)) files) (λ k. file_bytes Hz l (volume_in l (stored_block h step files)) (p * k)) (λ k. is_written l (p * k)) 0 (file_count l)
      (sym (filter_map-map (found_file h step files) (λ k. p * k) (range_with_len 0 (file_count l)))
      ∙ same ∙ ap (map (step_file Hz h (volume_in l (stored_block h step files)) step)) (written_numbers l is.blocks_some)
      ∙ map-filter-map (step_file Hz h (volume_in l (stored_block h step files)) step) (is_written l) (λ k. p * k) (range_with_len 0 (file_count l)))
      k (omega arith) (omega arith)
    where
      l : Placing
      l = placing_of h

      p : ℕ
      p = h.blocks_per_file

  -- and nothing is wrong where no row is faulty either
  then_nothing : first_bad h step files ≡ None → files_there h step files ≡ step_files Hz h (volume_in (placing_of h) (stored_block h step files)) step → first_wrong h step files ≡ None
  then_nothing sound same = no_answer (wrong_of_file h step files) (all_files l) (λ k file at.
      let place = place_of_file l is.blocks_some k file at in
      let own : file_at (file_name h step file) files ≡ cond (is_written l file) (Some (file_bytes Hz l volume file)) None =
      ap (λ f. file_at (file_name h step f) files) place.1 ∙ file_own same k place.0 ∙ ap (λ f. cond (is_written l f) (Some (file_bytes Hz l volume f)) None) (sym place.1) in
      ap (wrong_in l file (is_written l file)) own ∙ by_test k file place.1 own (is_written l file) refl)
    where
      l : Placing
      l = placing_of h

      volume : List (List (List ℕ))
      volume = volume_in (placing_of h) (stored_block h step files)

      by_test : (k file : ℕ) → file ≡ h.blocks_per_file * k → file_at (file_name h step file) files ≡ cond (is_written l file) (Some (file_bytes Hz l volume file)) None →
          (b : Bool) → is_written l file ≡ b → wrong_in l file (is_written l file) (cond (is_written l file) (Some (file_bytes Hz l volume file)) None) ≡ None
      by_test k file begins own false written = ap (λ (b : Bool). wrong_in l file b (cond b (Some (file_bytes Hz l volume file)) None)) written
      by_test k file begins own true written =
          let bytes : List ℕ = file_bytes Hz l volume file in
          let again : bytes ≡ wanted_bytes l file bytes = written_again h step files is file volume bytes (record {
            begins = (k, begins);
            written = written;
            there = own ∙ ap (λ (b : Bool). cond b (Some bytes) None) written;
            fills = volume_fills l (stored_block h step files) (stored_lengths h step files is sound);
            same = refl;
          }) in
          ap (λ (b : Bool). wrong_in l file b (cond b (Some bytes) None)) written
          ∙ ap (option_map (λ at. Wrong file at Byte)) (sym (ap (first_difference bytes) again) ∙ no_difference bytes)

  pub nothing_wrong : (first_wrong h step files ≡ None) ↔ ((first_bad h step files ≡ None) × (files_there h step files ≡ step_files Hz h (volume_in (placing_of h) (stored_block h step files)) step))
  nothing_wrong = (λ none. (then_sound none, then_files none), λ both. then_nothing both.0 both.1)
