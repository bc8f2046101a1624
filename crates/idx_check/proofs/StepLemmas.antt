-- The files of a step, one after another: what is wrong with each, and how many the writer writes up to one.
use Rattle.std.proofs.Common.{◌≡◌, ◌≢◌, ⊎_elim, inl, inr, ℕ, zero, suc, ◌+◌, ◌*◌, ◌%◌, ◌^◌, ◌<◌, ◌≤◌, Bool, true, false, cond, List, [], ◌∷◌, ◌++◌, length, length-append, map, Option, Some, None, refl, sym, ap, subst, ◌∙◌, arith, zero-add, nat_lt}
use Rattle.std.specs.Prelude.{◌↔◌, IfSome, filter, slice_get, sum_by}
use Rattle.std.specs.Option.{option_map, unwrap_or}
use Rattle.std.specs.List.{cons_option, filter_map, range_with_len}
use Rattle.std.proofs.Math.Nat.{mul-le-mul, mul-le-mul_right, mul_comm}
use Rattle.std.proofs.lemmas.List.{length-map, map-append}
use Rattle.std.proofs.lemmas.List.Elements.{filter-append}
use Rattle.std.proofs.lemmas.List.Sums.{sum_by-append}
use Rattle.std.proofs.lemmas.Bool.{cases_lt}
use Rattle.idx_outside.specs.Cause.{Rose}
use Rattle.idx_outside.specs.Files.{file_at, stored_at}
use Rattle.idx_outside.specs.declared.bay_call.BayCall.{BayCall}
use Rattle.idx_outside.specs.declared.bay_call.BayCall.TheVariants.{Leaf}
use Rattle.idx_outside.specs.declared.mem_file.MemFile.{MemFile}
use Rattle.idx_fields.specs.Field.{sample_bytes}
use Rattle.idx_header.specs.Header.{HeaderValue, IsHeader, block_count}
use Rattle.idx_header.specs.Names.{file_name}
use Rattle.idx_header.proofs.BoundLemmas.{few_blocks}
use Rattle.idx_table.specs.Table.{table_bytes}
use Rattle.idx_layout.specs.Files.{length_of_file, row_count}
use Rattle.idx_layout.specs.OfHeader.{placing_of}
use Rattle.idx_layout.specs.Placing.{Placing, block_bytes, file_numbers, present_blocks}
use Rattle.idx_layout.proofs.HeaderLemmas.{few_of_fields, few_present}
use Rattle.idx_layout.proofs.ListLemmas.{range-split}
use Rattle.idx_layout.proofs.OffsetLemmas.{length_of_file-sums}
use Rattle.idx_edition.specs.Loaded.{Counts}
use Rattle.idx_edition.proofs.SoFarLemmas.{same_counts}
use Rattle.idx_check.specs.Cause.{IsCheckCause}
use Rattle.idx_check.specs.Difference.{first_difference}
use Rattle.idx_check.specs.Verdict.{all_files, file_count, is_written, same, verdict_of, written_before, written_length, wrong_in, wrong_of_file, wrong_there}
use Rattle.idx_check.specs.Wanted.{wanted_bytes}
use Rattle.idx_check.specs.declared.check_fault.CheckFault.{CheckFault}
use Rattle.idx_check.specs.declared.check_fault.CheckFault.TheVariants.{NoMemory, StoreFault}
use Rattle.idx_check.specs.declared.verdict.Verdict.{Verdict}
use Rattle.idx_check.specs.declared.verdict.Verdict.TheVariants.{Same, Wrong}
use Rattle.idx_check.specs.declared.verdict.WrongKind.TheVariants.{Byte, Extra}
use Rattle.idx_check.proofs.NumbersLemmas.{below_blocks, file_at_place, place_exists, place_of_file, written_numbers, written_present}

-- ---- one file
-- a file is written where one of its blocks is present
pub written_is : (h : HeaderValue) (file present : ℕ) → IsHeader h → file < block_count h → (i : ℕ) × (file ≡ h.blocks_per_file * i) →
    present ≡ length (present_blocks (placing_of h) file) → nat_lt 0 present ≡ is_written (placing_of h) file
written_is h file present is exists multiple count =
    let l : Placing = placing_of h in
    let i : ℕ = multiple.0 in
    let begins : file ≡ h.blocks_per_file * i = multiple.1 in
    let within : i < file_count l = place_exists l is.blocks_some i (omega (arith, begins, exists)) in
    ap (nat_lt 0) (count ∙ ap (λ f. length (present_blocks l f)) begins)
    ∙ sym (written_present l is.blocks_some is.bits_within i within)
    ∙ ap (is_written l) (sym begins)

module _ (l : Placing) (file : ℕ) where
  -- what is wrong with a file, and its length, by whether it is written
  pub wrong_by : (b : Bool) (there : Option (List ℕ)) → is_written l file ≡ b → wrong_in l file b there ≡ wrong_there l file there
  unfolding wrong_there
  wrong_by b there e = ap (λ b. wrong_in l file b there) (sym e)

  pub length_unwritten : is_written l file ≡ false → written_length l file ≡ 0
  unfolding written_length
  length_unwritten e = ap (λ (b : Bool). cond b (length_of_file l file) 0) e

  pub length_written : is_written l file ≡ true → written_length l file ≡ length_of_file l file
  unfolding written_length
  length_written e = ap (λ (b : Bool). cond b (length_of_file l file) 0) e

  -- a file that is there and should not be, and one that has a wrong byte or none
  pub extra : (contents : Option (List ℕ)) → is_written l file ≡ false → IfSome contents (λ bytes. Some (Wrong file 0 Extra) ≡ wrong_there l file (Some bytes))
  extra None e = tt
  extra (Some bytes) e = wrong_by false (Some bytes) e

  pub by_difference : (contents : Option (List ℕ)) (place : Option ℕ) → is_written l file ≡ true → IfSome contents (λ bytes. place ≡ first_difference bytes (wanted_bytes l file bytes)) →
      IfSome contents (λ bytes. option_map (λ at. Wrong file at Byte) place ≡ wrong_there l file (Some bytes))
  by_difference None place e is = tt
  by_difference (Some bytes) place e is = ap (option_map (λ at. Wrong file at Byte)) is ∙ wrong_by true (Some bytes) e

-- what is wrong with a file of a step, by what was found at its path
module _ (h : HeaderValue) (step file : ℕ) where
  pub where_gone : (known : Option (List MemFile)) (path : List ℕ) (wrong : Option Verdict) → path ≡ file_name h step file →
      IfSome known (λ files. file_at path files ≡ None) → wrong ≡ wrong_there (placing_of h) file None →
      IfSome known (λ files. wrong ≡ wrong_there (placing_of h) file (file_at (file_name h step file) files))
  where_gone None path wrong named gone is = tt
  where_gone (Some files) path wrong named gone is =
      is ∙ ap (wrong_there (placing_of h) file) (sym gone ∙ ap (λ p. file_at p files) named)

  pub where_there : (known : Option (List MemFile)) (path : List ℕ) (contents : Option (List ℕ)) (wrong : Option Verdict) → path ≡ file_name h step file →
      IfSome known (λ files. file_at path files ≢ None) → contents ≡ stored_at path known →
      IfSome contents (λ bytes. wrong ≡ wrong_there (placing_of h) file (Some bytes)) →
      IfSome known (λ files. wrong ≡ wrong_there (placing_of h) file (file_at (file_name h step file) files))
  where_there None path contents wrong named there stored is = tt
  where_there (Some files) path contents wrong named there stored is = by_found (file_at path files) refl
    where
      by_found : (o : Option (List ℕ)) → file_at path files ≡ o → wrong ≡ wrong_there (placing_of h) file (file_at (file_name h step file) files)
      by_found None e = absurd (there e)
      by_found (Some bytes) e =
          let found : wrong ≡ wrong_there (placing_of h) file (Some bytes) = subst (λ o. IfSome o (λ bytes. wrong ≡ wrong_there (placing_of h) file (Some bytes))) (stored ∙ e) is in
          found ∙ ap (wrong_there (placing_of h) file) (sym e ∙ ap (λ p. file_at p files) named)

-- whether something is there, by what the bay answered
pub none_there : {X : Type 0} (found : Option X) (known : Option (List MemFile)) (path : List ℕ) → found ≡ None →
    IfSome known (λ files. (found ≡ None) ↔ (file_at path files ≡ None)) → IfSome known (λ files. file_at path files ≡ None)
none_there found None path none is = tt
none_there found (Some files) path none is = is.0 none

pub some_there : {X : Type 0} (found : Option X) (x : X) (known : Option (List MemFile)) (path : List ℕ) → found ≡ Some x →
    IfSome known (λ files. (found ≡ None) ↔ (file_at path files ≡ None)) → IfSome known (λ files. file_at path files ≢ None)
some_there found x None path some is = tt
some_there {X = X} found x (Some files) path some is = λ gone.
    let wrong : ◌≡◌ {A = Option X} (Some x) None = sym some ∙ is.1 gone in absurd (cc)

-- ---- causes
pub bay_cause : (c : Counts) (fault : CheckFault) → (fault ≢ NoMemory → (fault ≡ StoreFault c.bay_after) × Rose c.bay_before c.bay_after) →
    (fault ≡ NoMemory → c.bay_after ≡ c.bay_before) → (fault ≢ NoMemory → c.failed_after ≡ Some Leaf) → (fault ≡ NoMemory → c.failed_after ≡ c.failed_before) →
    c.reader_after ≡ c.reader_before → IsCheckCause c fault
bay_cause c (StoreFault faults) outage quiet called uncalled reader =
    let other : StoreFault faults ≢ NoMemory = λ e. absurd (cc) in
    let rose = outage other in
    let same : faults ≡ c.bay_after = count_is faults c.bay_after rose.0 in
    inl (record { rose = rose.1; call = inr (called other); reader = reader }, same)
  where
    count_is : (a b : ℕ) → StoreFault a ≡ StoreFault b → a ≡ b
    count_is a b e = cc
bay_cause c NoMemory outage quiet called uncalled reader =
    (record { count = quiet refl; failed = uncalled refl }, reader)

pub reader_cause : (c : Counts) (fault : CheckFault) → (fault ≢ NoMemory → (fault ≡ StoreFault c.reader_after) × Rose c.reader_before c.reader_after) →
    (fault ≡ NoMemory → c.reader_after ≡ c.reader_before) → c.bay_after ≡ c.bay_before → c.failed_after ≡ c.failed_before → IsCheckCause c fault
reader_cause c (StoreFault faults) outage quiet bay failed =
    let other : StoreFault faults ≢ NoMemory = λ e. absurd (cc) in
    let rose = outage other in
    let same : faults ≡ c.reader_after = count_is faults c.reader_after rose.0 in
    inr (record { rose = rose.1; bay = record { count = bay; failed = failed } }, same)
  where
    count_is : (a b : ℕ) → StoreFault a ≡ StoreFault b → a ≡ b
    count_is a b e = cc
reader_cause c NoMemory outage quiet bay failed = (record { count = bay; failed = failed }, quiet refl)

-- ---- how long a file is
pub few_bytes_of_file : (h : HeaderValue) (file : ℕ) → IsHeader h → length_of_file (placing_of h) file ≤ 2 ^ 31 * h.blocks_per_file
few_bytes_of_file h file is =
    let count : length (map sample_bytes h.fields) ≡ length h.fields = length-map h.fields sample_bytes in
    let all : ℕ = sum_by (block_bytes (placing_of h)) (range_with_len 0 (length (map sample_bytes h.fields))) in
    let sum : all ≤ 2 ^ 30 =
    subst (λ n. sum_by (block_bytes (placing_of h)) (range_with_len 0 n) ≤ 2 ^ 30) (sym count)
    (omega (arith, few_of_fields h (length h.fields) is (omega arith), is.fields.few)) in
    let product : all * length (present_blocks (placing_of h) file) ≤ 2 ^ 30 * h.blocks_per_file = mul-le-mul sum (few_present (placing_of h) file) in
    let table : table_bytes (row_count (placing_of h)) ≤ 2 ^ 24 =
    subst (λ n. table_bytes (n * h.blocks_per_file) ≤ 2 ^ 24) (sym count) is.small_table in
    omega (arith, length_of_file-sums (placing_of h) file, product, table, is.blocks_some)

-- ---- the files up to one
written_next : (l : Placing) (i : ℕ) → written_before l (i + 1) ≡ written_before l i ++ cond (is_written l (l.per_file * i)) (l.per_file * i ∷ []) []
written_next l i =
    ap (λ xs. filter (is_written l) (map (λ k. l.per_file * k) xs)) (range-split 0 i 1)
    ∙ ap (filter (is_written l)) (map-append (λ k. l.per_file * k) (range_with_len 0 i) ((0 + i) ∷ []))
    ∙ filter-append (is_written l) (map (λ k. l.per_file * k) (range_with_len 0 i)) (l.per_file * (0 + i) ∷ [])
    ∙ ap (λ k. written_before l i ++ filter (is_written l) (l.per_file * k ∷ [])) (zero-add i)

-- how many they are, and how many bytes they have
pub count_next : (l : Placing) (file i files added : ℕ) → file ≡ l.per_file * i → files ≡ length (written_before l i) → added ≡ files + cond (is_written l file) 1 0 →
    added ≡ length (written_before l (i + 1))
count_next l file i files added begins so_far is =
    is ∙ ap (λ n. n + cond (is_written l file) 1 0) so_far
    ∙ ap (λ f. length (written_before l i) + cond (is_written l f) 1 0) begins
    ∙ sym (ap length (written_next l i) ∙ length-append (written_before l i) (cond (is_written l (l.per_file * i)) (l.per_file * i ∷ []) []) ∙ ap (λ n. length (written_before l i) + n) (one (is_written l (l.per_file * i))))
  where
    one : (b : Bool) → length (cond b (l.per_file * i ∷ []) []) ≡ cond b 1 0
    one true = refl
    one false = refl

pub bytes_next : (l : Placing) (file i bytes added : ℕ) → file ≡ l.per_file * i → bytes ≡ sum_by (length_of_file l) (written_before l i) → added ≡ bytes + written_length l file →
    added ≡ sum_by (length_of_file l) (written_before l (i + 1))
unfolding written_length
bytes_next l file i bytes added begins so_far is =
    is ∙ ap (λ n. n + cond (is_written l file) (length_of_file l file) 0) so_far
    ∙ ap (λ f. sum_by (length_of_file l) (written_before l i) + cond (is_written l f) (length_of_file l f) 0) begins
    ∙ sym (ap (sum_by (length_of_file l)) (written_next l i) ∙ sum_by-append (length_of_file l) (written_before l i) (cond (is_written l (l.per_file * i)) (l.per_file * i ∷ []) []) ∙ ap (λ n. sum_by (length_of_file l) (written_before l i) + n) (one (is_written l (l.per_file * i))))
  where
    one : (b : Bool) → sum_by (length_of_file l) (cond b (l.per_file * i ∷ []) []) ≡ cond b (length_of_file l (l.per_file * i)) 0
    one true = zero-add (length_of_file l (l.per_file * i))
    one false = refl

-- they are few, and have few bytes
pub few_next : (h : HeaderValue) (file i bytes added : ℕ) → IsHeader h → bytes ≤ 2 ^ 31 * (h.blocks_per_file * i) → added ≡ bytes + written_length (placing_of h) file →
    added ≤ 2 ^ 31 * (h.blocks_per_file * (i + 1))
unfolding written_length
few_next h file i bytes added is so_far more =
    let next : h.blocks_per_file * (i + 1) ≡ h.blocks_per_file * i + h.blocks_per_file = grind arith in
    omega (arith, next, so_far, more, either (is_written (placing_of h) file))
  where
    either : (b : Bool) → cond b (length_of_file (placing_of h) file) 0 ≤ 2 ^ 31 * h.blocks_per_file
    either true = few_bytes_of_file h file is
    either false = omega arith

-- ---- what is wrong first
-- the first answer of a list is that of the first item that has one
first_answer : {X Y : Type 0} (f : X → Option Y) (xs : List X) (i : ℕ) (x : X) (y : Y) → slice_get xs i ≡ Some x → f x ≡ Some y →
    ((k : ℕ) (x : X) → k < i → slice_get xs k ≡ Some x → f x ≡ None) → slice_get (filter_map f xs) 0 ≡ Some y
first_answer f [] i x y at is before = let wrong : None ≡ Some x = at in absurd (cc)
first_answer f (z ∷ zs) zero x y at is before =
    let here : z ≡ x = cc in ap (λ o. slice_get (cons_option o (filter_map f zs)) 0) (ap f here ∙ is)
first_answer f (z ∷ zs) (suc i) x y at is before =
    ap (λ o. slice_get (cons_option o (filter_map f zs)) 0) (before 0 z (omega arith) refl)
    ∙ first_answer f zs i x y at is (λ k x less at. before (suc k) x (omega (arith, less)) at)

no_first : {X Y : Type 0} (f : X → Option Y) (xs : List X) → ((k : ℕ) (x : X) → slice_get xs k ≡ Some x → f x ≡ None) → slice_get (filter_map f xs) 0 ≡ None
no_first f [] none = refl
no_first f (x ∷ xs) none =
    ap (λ o. slice_get (cons_option o (filter_map f xs)) 0) (none 0 x refl) ∙ no_first f xs (λ k y at. none (suc k) y at)

-- nothing is wrong with the first so many files, where the committed files are known
abbrev pub AreRight : HeaderValue → ℕ → Option (List MemFile) → ℕ → Type 0
AreRight h step known i =
    IfSome known (λ files. (k : ℕ) → k < i → wrong_there (placing_of h) (h.blocks_per_file * k) (file_at (file_name h step (h.blocks_per_file * k)) files) ≡ None)

pub right_none : (h : HeaderValue) (step : ℕ) (known : Option (List MemFile)) → AreRight h step known 0
right_none h step None = tt
right_none h step (Some files) = λ k less. absurd (omega (arith, less))

module _ (h : HeaderValue) (step file i : ℕ) (begins : file ≡ h.blocks_per_file * i) where
  pub right_next : (known now : Option (List MemFile)) (wrong : Option Verdict) → now ≡ known → wrong ≡ None →
      IfSome now (λ files. wrong ≡ wrong_there (placing_of h) file (file_at (file_name h step file) files)) → AreRight h step known i → AreRight h step known (i + 1)
  right_next known now wrong still none is = more known (subst (λ o. IfSome o (λ files. wrong ≡ wrong_there (placing_of h) file (file_at (file_name h step file) files))) still is)
    where
      more : (known : Option (List MemFile)) → IfSome known (λ files. wrong ≡ wrong_there (placing_of h) file (file_at (file_name h step file) files)) →
          AreRight h step known i → AreRight h step known (i + 1)
      more None is before = tt
      more (Some files) is before = λ k less. ⊎_elim
          (λ (low : k < i). before k low)
          (λ (high : i ≤ k).
          let last : file ≡ h.blocks_per_file * k = begins ∙ ap (λ n. h.blocks_per_file * n) (omega (arith, less, high)) in
          ap (λ f. wrong_there (placing_of h) f (file_at (file_name h step f) files)) (sym last) ∙ sym is ∙ none)
          (cases_lt k i)

  pub first_is : (known now : Option (List MemFile)) (wrong : Option Verdict) (verdict : Verdict) → IsHeader h → i < file_count (placing_of h) → now ≡ known → wrong ≡ Some verdict →
      IfSome now (λ files. wrong ≡ wrong_there (placing_of h) file (file_at (file_name h step file) files)) → AreRight h step known i →
      IfSome known (λ files. verdict ≡ verdict_of h step files)
  unfolding wrong_there
  first_is known now wrong verdict valid within still some is = found known (subst (λ o. IfSome o (λ files. wrong ≡ wrong_there (placing_of h) file (file_at (file_name h step file) files))) still is)
    where
      found : (known : Option (List MemFile)) → IfSome known (λ files. wrong ≡ wrong_there (placing_of h) file (file_at (file_name h step file) files)) →
          AreRight h step known i → IfSome known (λ files. verdict ≡ verdict_of h step files)
      found None is before = tt
      found (Some files) is before =
          let l : Placing = placing_of h in
          sym (ap (λ o. unwrap_or o (same l))
          (first_answer (wrong_of_file h step files) (all_files l) i file verdict
          (file_at_place l valid.blocks_some i within ∙ ap (λ f. Some f) (sym begins))
          (sym is ∙ some)
          (λ k x less at.
          let place = place_of_file l valid.blocks_some k x at in
          ap (wrong_of_file h step files) place.1 ∙ before k less)))

pub nothing_is : (h : HeaderValue) (step i files bytes : ℕ) (known : Option (List MemFile)) → IsHeader h → i ≡ file_count (placing_of h) →
    files ≡ length (written_before (placing_of h) i) → bytes ≡ sum_by (length_of_file (placing_of h)) (written_before (placing_of h) i) → AreRight h step known i →
    IfSome known (λ there. Same files bytes ≡ verdict_of h step there)
unfolding wrong_there
nothing_is h step i files bytes None valid all count sum right = tt
nothing_is h step i files bytes (Some there) valid all count sum right =
    let l : Placing = placing_of h in
    let listed : written_before l i ≡ file_numbers l = ap (written_before l) all ∙ sym (written_numbers l valid.blocks_some) in
    ap (λ n. Same n bytes) (count ∙ ap length listed)
    ∙ ap (λ n. Same (length (file_numbers l)) n) (sum ∙ ap (sum_by (length_of_file l)) listed)
    ∙ sym (ap (λ o. unwrap_or o (same l))
    (no_first (wrong_of_file h step there) (all_files l)
    (λ k x at.
    let place = place_of_file l valid.blocks_some k x at in
    ap (wrong_of_file h step there) place.1 ∙ right k (omega (arith, place.0, all)))))

-- the bytes that were asked for so far
pub asked_next : (before now after bytes more added : ℕ) → now % 2 ^ 64 ≡ (before + bytes) % 2 ^ 64 → after % 2 ^ 64 ≡ (now + more) % 2 ^ 64 → added ≡ bytes + more →
    after % 2 ^ 64 ≡ (before + added) % 2 ^ 64
asked_next before now after bytes more added so_far next is = omega (arith, so_far, next, is)

pub few_files_next : (b : Bool) (files i added : ℕ) → files ≤ i → added ≡ files + cond b 1 0 → added ≤ i + 1
few_files_next true files i added few is = omega (arith, few, is)
few_files_next false files i added few is = omega (arith, few, is)

-- the number of a file among all files
pub record IsPlace (h : HeaderValue) (i file : ℕ) : Type 0 where
  pub begins : file ≡ h.blocks_per_file * i
  pub exists : file < block_count h
  pub few : file < 2 ^ 24
  pub few_places : i < 2 ^ 24

pub place : (h : HeaderValue) (i p : ℕ) → IsHeader h → p ≡ h.blocks_per_file → i < file_count (placing_of h) → IsPlace h i (i * p)
place h i p is same within =
    let times : i * p ≡ h.blocks_per_file * i = mul_comm i p ∙ ap (λ n. n * i) same in
    let below : h.blocks_per_file * i < block_count h = below_blocks (placing_of h) is.blocks_some i within in
    let few : block_count h ≤ 2 ^ 24 = few_blocks (length h.mask) h.block_bits is.bits_most in
    let least : 1 * i ≤ h.blocks_per_file * i = mul-le-mul_right i is.blocks_some in
    record {
      begins = times;
      exists = omega (arith, times, below);
      few = omega (arith, times, below, few);
      few_places = omega (arith, least, below, few);
    }

-- counts that begin where others do, and end as they do
pub cause_since : (b b' after_b : ℕ) (f f' after_f : Option BayCall) (r r' after_r : ℕ) (fault : CheckFault) → b ≡ b' → f ≡ f' → r ≡ r' →
    IsCheckCause (record { bay_before = b; bay_after = after_b; failed_before = f; failed_after = after_f; reader_before = r; reader_after = after_r }) fault →
    IsCheckCause (record { bay_before = b'; bay_after = after_b; failed_before = f'; failed_after = after_f; reader_before = r'; reader_after = after_r }) fault
cause_since b b' after_b f f' after_f r r' after_r fault bay failed reader is =
    subst (λ (c : Counts). IsCheckCause c fault) (same_counts b b' after_b f f' after_f r r' after_r bay failed reader) is
