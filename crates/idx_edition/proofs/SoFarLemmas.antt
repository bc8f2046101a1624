-- The files of a step, one after another.
use Rattle.std.proofs.Common.{◌≡◌, ℕ, zero, suc, ◌+◌, ◌%◌, ◌^◌, ◌≤◌, ◌⊎◌, inl, inr, Bool, true, false, cond, List, [], ◌∷◌, ◌++◌, length, Some, None, refl, sym, ap, subst, ◌∙◌, arith, append_assoc, append-nil, length-append}
use Rattle.std.specs.Prelude.{◌↔◌, Option, IfSome, IsTrue, filter, slice_get}
use Rattle.std.specs.Option.{ForSome, option_map}
use Rattle.std.specs.List.{cons_option, filter_map, range_with_len}
use Rattle.std.proofs.lemmas.List.{map-append}
use Rattle.std.proofs.lemmas.Option.{slice_get_within}
use Rattle.idx_outside.specs.Files.{HasStep as HasCommitted, entry_shown, file_at, shown}
use Rattle.idx_outside.specs.declared.bay_call.BayCall.{BayCall}
use Rattle.idx_outside.specs.declared.mem_file.MemFile.{MemFile}
use Rattle.idx_table.specs.Table.{rows_of}
use Rattle.idx_table.specs.declared.row.Row.{Row}
use Rattle.idx_header.specs.Header.{HasTime, HeaderValue}
use Rattle.idx_header.specs.Names.{file_name, step_folder}
use Rattle.idx_layout.specs.Placing.{Placing, block_count, file_numbers}
use Rattle.idx_layout.specs.Files.{row_count}
use Rattle.idx_layout.specs.OfHeader.{placing_of}
use Rattle.idx_edition.specs.Stored.{Stands, fault_of_file, first_bad}
use Rattle.idx_edition.specs.Tables.{AreTablesOf, EndWithin, IsTable, RiseFrom}
use Rattle.idx_edition.specs.Loaded.{Counts, IsCause, IsLoadCause, IsOpenCause, found_table, leaf_at, number_at, rows_at, table_at}
use Rattle.idx_edition.specs.declared.load_fault.LoadFault.{LoadFault}
use Rattle.idx_edition.specs.declared.load_fault.LoadFault.TheVariants.{BadTable, StoreFault, NoMemory}

-- what a function gives of the items that are left completes the list to what it gives of all
abbrev pub Completes : {X : Type 0} → (ℕ → Option X) → List ℕ → List ℕ → List X → Type 0
Completes f all left done = done ++ filter_map f left ≡ filter_map f all

-- The numbers, tables and files so far are those of the files of the step before the ones that are left, and none of these
-- had a faulty row.
pub record HoldSoFar (h : HeaderValue) (step : ℕ) (files : List MemFile) (left : List ℕ) (numbers : List ℕ)
    (tables : List (List Row)) (leaves : List (List ℕ × Option (List ℕ))) : Type 0 where
  pub number : Completes (number_at h step files) (file_numbers (placing_of h)) left numbers
  pub table : Completes (rows_at h step files) (file_numbers (placing_of h)) left tables
  pub leaf : Completes (leaf_at h step files) (file_numbers (placing_of h)) left leaves
  pub sound : slice_get (filter_map (fault_of_file h step files) left) 0 ≡ first_bad h step files

-- ---- numbers that rise
rise_lower : (a b : ℕ) (xs : List ℕ) → b ≤ a → RiseFrom a xs → RiseFrom b xs
rise_lower a b [] h rise = tt
rise_lower a b (x ∷ xs) h rise = (omega (arith, h, rise.0), rise.1)

rise_skip : (a : ℕ) (xs : List ℕ) (x : ℕ) (rest : List ℕ) → RiseFrom a (xs ++ x ∷ rest) → RiseFrom a (xs ++ rest)
rise_skip a [] x rest rise = rise_lower (x + 1) a rest (omega (arith, rise.0)) rise.1
rise_skip a (y ∷ xs) x rest rise = (rise.0, rise_skip (y + 1) xs x rest rise.1)

rise_filter : (test : ℕ → Bool) (a n : ℕ) → RiseFrom a (filter test (range_with_len a n))
rise_filter test a zero = tt
rise_filter test a (suc n) = by_test (test a) (rise_filter test (a + 1) n)
  where
    rest : List ℕ
    rest = filter test (range_with_len (a + 1) n)

    by_test : (b : Bool) → RiseFrom (a + 1) rest → RiseFrom a (cond b (a ∷ rest) rest)
    by_test true rise = (omega arith, rise)
    by_test false rise = rise_lower (a + 1) a rest (omega arith) rise

-- the numbers of a step's files rise
pub files_rise : (l : Placing) → RiseFrom 0 (file_numbers l)
files_rise l = rise_filter _ 0 (block_count l)

-- a file that is there comes to the numbers, or one that is not does not
pub numbers_more : (numbers left rest : List ℕ) (file : ℕ) → left ≡ file ∷ rest → RiseFrom 0 (numbers ++ left) → RiseFrom 0 ((numbers ++ file ∷ []) ++ rest)
numbers_more numbers left rest file first rise =
    subst (RiseFrom 0) (ap (λ xs. numbers ++ xs) first ∙ sym (append_assoc numbers (file ∷ []) rest)) rise

pub numbers_skip : (numbers left rest : List ℕ) (file : ℕ) → left ≡ file ∷ rest → RiseFrom 0 (numbers ++ left) → RiseFrom 0 (numbers ++ rest)
numbers_skip numbers left rest file first rise = rise_skip 0 numbers file rest (subst (λ xs. RiseFrom 0 (numbers ++ xs)) first rise)

pub numbers_all : (numbers left : List ℕ) → left ≡ [] → RiseFrom 0 (numbers ++ left) → RiseFrom 0 numbers
numbers_all numbers left none rise = subst (RiseFrom 0) (ap (λ xs. numbers ++ xs) none ∙ append-nil numbers) rise

-- ---- one more at the end
pushed_place : {X : Type 0} (xs : List X) (x y : X) (i : ℕ) → slice_get (xs ++ x ∷ []) i ≡ Some y → (slice_get xs i ≡ Some y) ⊎ ((i ≡ length xs) × (x ≡ y))
pushed_place [] x y zero at = let same : x ≡ y = cc in inr (refl, same)
pushed_place [] x y (suc i) at = let wrong : None ≡ Some y = at in absurd (cc)
pushed_place (z ∷ xs) x y zero at = inl at
pushed_place (z ∷ xs) x y (suc i) at = elim (pushed_place xs x y i at) [ inl old ↦ inl old | inr new ↦ inr (ap suc new.0, new.1) ]

pub tables_more : (lengths : List ℕ) (per_file : ℕ) (tables : List (List Row)) (table : List Row) →
    ((i : ℕ) (rows : List Row) → slice_get tables i ≡ Some rows → IsTable lengths per_file rows) → IsTable lengths per_file table →
    (i : ℕ) (rows : List Row) → slice_get (tables ++ table ∷ []) i ≡ Some rows → IsTable lengths per_file rows
tables_more lengths per_file tables table each is i rows at =
    elim (pushed_place tables table rows i at) [ inl old ↦ each i rows old | inr new ↦ subst (IsTable lengths per_file) new.1 is ]

pub no_tables : (tables : List (List Row)) (lengths : List ℕ) (per_file : ℕ) → tables ≡ [] → (i : ℕ) (rows : List Row) → slice_get tables i ≡ Some rows → IsTable lengths per_file rows
no_tables tables lengths per_file none i rows at =
    let wrong : ◌≡◌ {A = Option (List Row)} None (Some rows) = ap (λ (ts : List (List Row)). slice_get ts i) (sym none) ∙ at in absurd (cc)

module _ {L : Type 0} (contents : L → Option (List ℕ)) where
  pub leaves_more : (tables : List (List Row)) (leaves : List (List ℕ × L)) (table : List Row) (leaf : List ℕ × L) → AreTablesOf tables (shown contents leaves) →
      ForSome (contents leaf.1) (λ bytes. EndWithin table (length bytes)) → AreTablesOf (tables ++ table ∷ []) (shown contents (leaves ++ leaf ∷ []))
  leaves_more tables leaves table leaf fit ends =
      subst (AreTablesOf (tables ++ table ∷ [])) (sym (map-append (entry_shown contents) leaves (leaf ∷ [])))
      (record {
        same = length-append (shown contents leaves) (last ∷ []) ∙ ap (λ n. n + 1) fit.same ∙ sym (length-append tables (table ∷ []));
        within = λ i rows other at at'.
            elim (pushed_place tables table rows i at) [
              | inl old ↦ elim (pushed_place (shown contents leaves) last other i at') [
                | inl old' ↦ fit.within i rows other old old'
                | inr new' ↦ absurd (omega (arith, slice_get_within tables i rows old, new'.0, fit.same))
              ]
              | inr new ↦ elim (pushed_place (shown contents leaves) last other i at') [
                | inl old' ↦ absurd (omega (arith, slice_get_within (shown contents leaves) i other old', new.0, fit.same))
                | inr new' ↦ new_fits rows other new.1 new'.1
              ]
            ];
      })
    where
      last : List ℕ × Option (List ℕ)
      last = entry_shown contents leaf

      new_fits : (rows : List Row) (other : List ℕ × Option (List ℕ)) → table ≡ rows → last ≡ other → ForSome other.1 (λ bytes. EndWithin rows (length bytes))
      new_fits rows other same same' = λ bytes known.
          subst (λ rs. EndWithin rs (length bytes)) same (ends bytes (ap (λ (l : List ℕ × Option (List ℕ)). l.1) same' ∙ known))

  pub no_leaves : (tables : List (List Row)) (leaves : List (List ℕ × L)) → tables ≡ [] → leaves ≡ [] → AreTablesOf tables (shown contents leaves)
  no_leaves tables leaves none none' =
      subst (λ ls. AreTablesOf tables (shown contents ls)) (sym none')
      (subst (λ ts. AreTablesOf ts []) (sym none) (record {
        same = refl;
        within = λ i rows leaf at at'. let wrong : ◌≡◌ {A = Option (List Row)} None (Some rows) = at in absurd (cc);
      }))

-- ---- lists that are completed by what is left
completes_more : {X : Type 0} (f : ℕ → Option X) (all left rest : List ℕ) (file : ℕ) (done : List X) (x : X) → left ≡ file ∷ rest → f file ≡ Some x →
    Completes f all left done → Completes f all rest (done ++ x ∷ [])
completes_more f all left rest file done x first is before =
    append_assoc done (x ∷ []) (filter_map f rest)
    ∙ ap (λ o. done ++ cons_option o (filter_map f rest)) (sym is)
    ∙ ap (λ xs. done ++ filter_map f xs) (sym first) ∙ before

completes_skip : {X : Type 0} (f : ℕ → Option X) (all left rest : List ℕ) (file : ℕ) (done : List X) → left ≡ file ∷ rest → f file ≡ None →
    Completes f all left done → Completes f all rest done
completes_skip f all left rest file done first is before =
    ap (λ o. done ++ cons_option o (filter_map f rest)) (sym is) ∙ ap (λ xs. done ++ filter_map f xs) (sym first) ∙ before

pub completed : {X : Type 0} (f : ℕ → Option X) (all left : List ℕ) (done : List X) → left ≡ [] → Completes f all left done → done ≡ filter_map f all
completed f all left done none whole = sym (append-nil done) ∙ ap (λ xs. done ++ filter_map f xs) (sym none) ∙ whole

-- a file that is there, by what is found of it
record IsFound (h : HeaderValue) (step : ℕ) (files : List MemFile) (file : ℕ) (rows : List Row) (leaf : List ℕ × Option (List ℕ)) : Type 0 where
  number : number_at h step files file ≡ Some file
  table : rows_at h step files file ≡ Some rows
  path : leaf_at h step files file ≡ Some leaf

is_found : (h : HeaderValue) (step : ℕ) (files : List MemFile) (file : ℕ) (rows : List Row) (leaf : List ℕ × Option (List ℕ)) → Some (rows, leaf) ≡ table_at h step files file →
    IsFound h step files file rows leaf
is_found h step files file rows leaf found = by_file (file_at (file_name h step file) files) refl
  where
    by_file : (o : Option (List ℕ)) → file_at (file_name h step file) files ≡ o → IsFound h step files file rows leaf
    by_file None is =
        let wrong : ◌≡◌ {A = Option (List Row × (List ℕ × Option (List ℕ)))} (Some (rows, leaf)) None = found ∙ ap (option_map (found_table h step file)) is in absurd (cc)
    by_file (Some bytes) is =
        let both : Some (rows, leaf) ≡ Some (found_table h step file bytes) = found ∙ ap (option_map (found_table h step file)) is in
        let same : ◌≡◌ {A = List Row × (List ℕ × Option (List ℕ))} (rows, leaf) (found_table h step file bytes) = cc in
        record {
          number = ap (option_map (λ b. file)) is;
          table = ap (option_map (λ b. rows_of b (row_count (placing_of h)))) is ∙ ap (λ (f : List Row × (List ℕ × Option (List ℕ))). Some f.0) (sym same);
          path = ap (option_map (λ b. (file_name h step file, Some b))) is ∙ ap (λ (f : List Row × (List ℕ × Option (List ℕ))). Some f.1) (sym same);
        }

no_file : (h : HeaderValue) (step : ℕ) (files : List MemFile) (file : ℕ) → None ≡ table_at h step files file → file_at (file_name h step file) files ≡ None
no_file h step files file found = by_file (file_at (file_name h step file) files) refl
  where
    by_file : (o : Option (List ℕ)) → file_at (file_name h step file) files ≡ o → file_at (file_name h step file) files ≡ None
    by_file None is = is
    by_file (Some bytes) is =
        let wrong : ◌≡◌ {A = Option (List Row × (List ℕ × Option (List ℕ)))} None (Some (found_table h step file bytes)) = found ∙ ap (option_map (found_table h step file)) is in absurd (cc)

sound_more : (h : HeaderValue) (step : ℕ) (files : List MemFile) (left rest : List ℕ) (file : ℕ) → left ≡ file ∷ rest → fault_of_file h step files file ≡ None →
    slice_get (filter_map (fault_of_file h step files) left) 0 ≡ first_bad h step files → slice_get (filter_map (fault_of_file h step files) rest) 0 ≡ first_bad h step files
sound_more h step files left rest file first none before =
    ap (λ o. slice_get (cons_option o (filter_map (fault_of_file h step files) rest)) 0) (sym none)
    ∙ ap (λ xs. slice_get (filter_map (fault_of_file h step files) xs) 0) (sym first) ∙ before

module _ (h : HeaderValue) (step : ℕ) where
  -- nothing yet
  pub hold_none : (known : Option (List MemFile)) (left numbers : List ℕ) (tables : List (List Row)) (leaves : List (List ℕ × Option (List ℕ))) →
      left ≡ file_numbers (placing_of h) → numbers ≡ [] → tables ≡ [] → leaves ≡ [] → IfSome known (λ files. HoldSoFar h step files left numbers tables leaves)
  hold_none None left numbers tables leaves all n t l = tt
  hold_none (Some files) left numbers tables leaves all n t l = record {
    number = ap (λ xs. xs ++ filter_map (number_at h step files) left) n ∙ ap (filter_map (number_at h step files)) all;
    table = ap (λ xs. xs ++ filter_map (rows_at h step files) left) t ∙ ap (filter_map (rows_at h step files)) all;
    leaf = ap (λ xs. xs ++ filter_map (leaf_at h step files) left) l ∙ ap (filter_map (leaf_at h step files)) all;
    sound = ap (λ xs. slice_get (filter_map (fault_of_file h step files) xs) 0) all;
  }

  -- a file that is there
  pub hold_more : (known : Option (List MemFile)) (left rest numbers : List ℕ) (file : ℕ) (tables : List (List Row)) (rows : List Row)
      (leaves : List (List ℕ × Option (List ℕ))) (leaf : List ℕ × Option (List ℕ)) → left ≡ file ∷ rest →
      IfSome known (λ files. Some (rows, leaf) ≡ table_at h step files file) → IfSome known (λ files. fault_of_file h step files file ≡ None) →
      IfSome known (λ files. HoldSoFar h step files left numbers tables leaves) →
      IfSome known (λ files. HoldSoFar h step files rest (numbers ++ file ∷ []) (tables ++ rows ∷ []) (leaves ++ leaf ∷ []))
  hold_more None left rest numbers file tables rows leaves leaf first found sound before = tt
  hold_more (Some files) left rest numbers file tables rows leaves leaf first found sound before =
      let is = is_found h step files file rows leaf found in
      let all : List ℕ = file_numbers (placing_of h) in
      record {
        number = completes_more (number_at h step files) all left rest file numbers file first is.number before.number;
        table = completes_more (rows_at h step files) all left rest file tables rows first is.table before.table;
        leaf = completes_more (leaf_at h step files) all left rest file leaves leaf first is.path before.leaf;
        sound = sound_more h step files left rest file first sound before.sound;
      }

  -- a file that is not there
  pub hold_skip : (known : Option (List MemFile)) (left rest numbers : List ℕ) (file : ℕ) (tables : List (List Row)) (leaves : List (List ℕ × Option (List ℕ))) → left ≡ file ∷ rest →
      IfSome known (λ files. None ≡ table_at h step files file) → IfSome known (λ files. fault_of_file h step files file ≡ None) →
      IfSome known (λ files. HoldSoFar h step files left numbers tables leaves) → IfSome known (λ files. HoldSoFar h step files rest numbers tables leaves)
  hold_skip None left rest numbers file tables leaves first found sound before = tt
  hold_skip (Some files) left rest numbers file tables leaves first found sound before =
      let is = no_file h step files file found in
      let all : List ℕ = file_numbers (placing_of h) in
      record {
        number = completes_skip (number_at h step files) all left rest file numbers first (ap (option_map (λ b. file)) is) before.number;
        table = completes_skip (rows_at h step files) all left rest file tables first (ap (option_map (λ b. rows_of b (row_count (placing_of h)))) is) before.table;
        leaf = completes_skip (leaf_at h step files) all left rest file leaves first (ap (option_map (λ b. (file_name h step file, Some b))) is) before.leaf;
        sound = sound_more h step files left rest file first sound before.sound;
      }

  -- the faulty table of the first file that is left is the first of the step
  pub bad_first : (known : Option (List MemFile)) (left rest numbers : List ℕ) (file : ℕ) (tables : List (List Row)) (leaves : List (List ℕ × Option (List ℕ))) (bad : LoadFault) →
      left ≡ file ∷ rest → IfSome known (λ files. HoldSoFar h step files left numbers tables leaves) →
      IfSome known (λ files. fault_of_file h step files file ≡ Some bad) → IfSome known (λ files. first_bad h step files ≡ Some bad)
  bad_first None left rest numbers file tables leaves bad first before is = tt
  bad_first (Some files) left rest numbers file tables leaves bad first before is =
      sym before.sound
      ∙ ap (λ xs. slice_get (filter_map (fault_of_file h step files) xs) 0) first
      ∙ ap (λ o. slice_get (cons_option o (filter_map (fault_of_file h step files) rest)) 0) is

-- a cause by what was known when the loop began
pub cause_since : (P Q : LoadFault → Type 0) → ((bad : LoadFault) → P bad → Q bad) → (c d : Counts) → c ≡ d → (fault : LoadFault) →
    IsCause P c fault → IsCause Q d fault
cause_since P Q more c d same fault is = subst (λ (k : Counts). IsCause Q k fault) same (by_fault fault is)
  where
    by_fault : (fault : LoadFault) → IsCause P c fault → IsCause Q c fault
    by_fault (BadTable file row kind) is = (more (BadTable file row kind) is.0, is.1, is.2)
    by_fault (StoreFault faults) is = is
    by_fault NoMemory is = is

-- a cause by what was known when the step was asked for: it stands
pub cause_standing : (h : HeaderValue) (step : ℕ) (known now : Option (List MemFile)) (stands : Bool) (c d : Counts) → now ≡ known → c ≡ d → HasTime h step → IsTrue stands →
    IfSome known (λ files. IsTrue stands ↔ IfSome (step_folder h step) (λ folder. HasCommitted folder files)) → (fault : LoadFault) → IsOpenCause h step now c fault → IsLoadCause h step known d fault
cause_standing h step known now stands c d same counted has there means fault cause =
    cause_since (λ bad. IfSome now (λ files. first_bad h step files ≡ Some bad)) (λ bad. IfSome known (λ files. Stands h step files × (first_bad h step files ≡ Some bad)))
    (λ bad first. standing known bad means (subst (λ (o : Option (List MemFile)). IfSome o (λ files. first_bad h step files ≡ Some bad)) same first)) c d counted fault cause
  where
    standing : (o : Option (List MemFile)) (bad : LoadFault) → IfSome o (λ files. IsTrue stands ↔ IfSome (step_folder h step) (λ folder. HasCommitted folder files)) → IfSome o (λ files. first_bad h step files ≡ Some bad)
        → IfSome o (λ files. Stands h step files × (first_bad h step files ≡ Some bad))
    standing None bad means first = tt
    standing (Some files) bad means first = ((has, means.0 there), first)

-- counts that begin where others do, and end as they do
pub same_counts : (b b' after_b : ℕ) (f f' after_f : Option BayCall) (r r' after_r : ℕ) → b ≡ b' → f ≡ f' → r ≡ r' →
    ◌≡◌ {A = Counts} (record { bay_before = b; bay_after = after_b; failed_before = f; failed_after = after_f; reader_before = r; reader_after = after_r })
    (record { bay_before = b'; bay_after = after_b; failed_before = f'; failed_after = after_f; reader_before = r'; reader_after = after_r })
same_counts b b' after_b f f' after_f r r' after_r bay failed reader =
    let of : ℕ → Option BayCall → ℕ → Counts = λ x y z. record { bay_before = x; bay_after = after_b; failed_before = y; failed_after = after_f; reader_before = z; reader_after = after_r } in
    ap (λ x. of x f r) bay ∙ ap (λ y. of b' y r) failed ∙ ap (λ z. of b' f' z) reader

-- one more read
pub reads_more : (before now after n : ℕ) → now % 2 ^ 64 ≡ (before + n) % 2 ^ 64 → after ≡ (now + 1) % 2 ^ 64 → after % 2 ^ 64 ≡ (before + (n + 1)) % 2 ^ 64
reads_more before now after n so_far one = omega (arith, so_far, one)

-- what was found of a file, by what is known now
module _ {X : Type 0} (h : HeaderValue) (step file : ℕ) (shows : X → List Row × (List ℕ × Option (List ℕ))) where
  pub found_none : (found : Option X) (known since : Option (List MemFile)) → found ≡ None → known ≡ since →
      IfSome known (λ files. option_map shows found ≡ table_at h step files file) → IfSome since (λ files. None ≡ table_at h step files file)
  found_none found known since none same is =
      subst (λ k. IfSome k (λ files. None ≡ table_at h step files file)) same
      (subst (λ o. IfSome known (λ files. option_map shows o ≡ table_at h step files file)) none is)

  pub found_some : (found : Option X) (x : X) (known since : Option (List MemFile)) → found ≡ Some x → known ≡ since →
      IfSome known (λ files. option_map shows found ≡ table_at h step files file) → IfSome since (λ files. Some (shows x) ≡ table_at h step files file)
  found_some found x known since some same is =
      subst (λ k. IfSome k (λ files. Some (shows x) ≡ table_at h step files file)) same
      (subst (λ o. IfSome known (λ files. option_map shows o ≡ table_at h step files file)) some is)

pub sound_since : (h : HeaderValue) (step file : ℕ) (known since : Option (List MemFile)) → known ≡ since →
    IfSome known (λ files. fault_of_file h step files file ≡ None) → IfSome since (λ files. fault_of_file h step files file ≡ None)
sound_since h step file known since same is = subst (λ k. IfSome k (λ files. fault_of_file h step files file ≡ None)) same is

pub bad_since : (h : HeaderValue) (step file : ℕ) (bad : LoadFault) (known since : Option (List MemFile)) → known ≡ since →
    IfSome known (λ files. fault_of_file h step files file ≡ Some bad) → IfSome since (λ files. fault_of_file h step files file ≡ Some bad)
bad_since h step file bad known since same is = subst (λ k. IfSome k (λ files. fault_of_file h step files file ≡ Some bad)) same is
