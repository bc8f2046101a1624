-- The blocks of a field in a file, looked at one after another.
use Rattle.std.proofs.Common.{◌≡◌, ℕ, ◌+◌, ◌-◌, ◌*◌, ◌/◌, ◌%◌, ◌^◌, ◌<◌, ◌≤◌, Bool, true, false, cond, List, [], ◌∷◌, length, refl, sym, ap, ◌∙◌, subst, ⊎_elim, arith}
use Rattle.std.specs.Prelude.{IfSome, IsSome, None, Option, Some, is_some, slice_index, sum_by}
use Rattle.std.specs.List.{range_with_len}
use Rattle.std.proofs.Math.Nat.{mul-le-mul_left, mul-le-mul_right, mul-mod_left}
use Rattle.std.proofs.lemmas.Bool.{cases_lt}
use Rattle.std.proofs.lemmas.List.{get_or-map, length-map}
use Rattle.std.proofs.lemmas.List.Sums.{sum_by-append}
use Rattle.idx_fields.specs.Field.{field_at, sample_bytes}
use Rattle.idx_header.specs.Header.{HeaderValue, IsHeader, block_count, sample_bytes_of}
use Rattle.idx_table.specs.Table.{table_bytes}
use Rattle.idx_layout.specs.Files.{length_of_file, offset_of, row_count}
use Rattle.idx_layout.specs.OfHeader.{placing_of}
use Rattle.idx_layout.specs.Placing.{Placing, block_bytes, is_present, present_blocks}
use Rattle.idx_layout.proofs.HeaderLemmas.{fits_rows, sum-more}
use Rattle.idx_layout.proofs.ListLemmas.{range-split}
use Rattle.idx_layout.proofs.OffsetLemmas.{length_of_file-sums, offset_of-place}
use Rattle.idx_layout.proofs.PresentLemmas.{absent-past}
use Rattle.idx_check.specs.Form.{HasForm}
use Rattle.idx_check.specs.Stray.{DifferAt, IsClean, IsFirstBetween, IsFirstStray, IsStray}
use Rattle.idx_check.specs.Wanted.{is_address_of}
use Rattle.idx_check.proofs.ContentLemmas.{passing_number}
use Rattle.idx_check.proofs.NatLemmas.{all_parts}
use Rattle.idx_check.proofs.RunLemmas.{text_from}
use Rattle.idx_check.proofs.TableLemmas.{Agrees, IsLeft, IsNext, agree_later, differ_later, left_first, left_next, left_none}

-- where the blocks of a field begin in a file
abbrev pub begins_at : Placing → ℕ → ℕ → ℕ
begins_at l file field = table_bytes (row_count l) + sum_by (block_bytes l) (range_with_len 0 field) * length (present_blocks l file)

-- of the blocks of a field, which begin at `at`, so many were looked at, up to the next place
pub record AreSeen (l : Placing) (file field : ℕ) (left : List ℕ) (at next : ℕ) : Type 0 where
  pub given : ℕ
  pub is : IsLeft (present_blocks l file) left given
  pub place : next ≡ at + block_bytes l field * given

pub seen_first : (l : Placing) (file field : ℕ) (left : List ℕ) (at : ℕ) → left ≡ present_blocks l file → AreSeen l file field left at at
seen_first l file field left at same = record { given = 0; is = left_first (present_blocks l file) left same; place = omega arith }

pub seen_all : (l : Placing) (file field : ℕ) (left : List ℕ) (at next end : ℕ) → AreSeen l file field left at next → left ≡ [] → end ≡ at + block_bytes l field * length (present_blocks l file) → next ≡ end
seen_all l file field left at next end seen none ends =
    seen.place ∙ ap (λ n. at + block_bytes l field * n) (left_none (present_blocks l file) left seen.given seen.is none) ∙ sym ends

-- the next block
pub record IsNextBlock (h : HeaderValue) (file field block : ℕ) (more : List ℕ) (at next end n : ℕ) : Type 0 where
  pub exists : block < block_count h
  pub from : file ≤ block
  pub to : block < file + h.blocks_per_file
  pub present : is_present (placing_of h) block ≡ true
  pub offset : next ≡ offset_of (placing_of h) file field block
  pub fits : next + n ≤ end
  pub after : at ≤ next
  pub seen : AreSeen (placing_of h) file field more at (next + n)

pub next_block : (h : HeaderValue) (file field block : ℕ) (left more : List ℕ) (at next end n : ℕ) → IsHeader h → field < length h.fields →
    at ≡ begins_at (placing_of h) file field → end ≡ at + block_bytes (placing_of h) field * length (present_blocks (placing_of h) file) → n ≡ block_bytes (placing_of h) field →
    AreSeen (placing_of h) file field left at next → left ≡ block ∷ more → IsNextBlock h file field block more at next end n
next_block h file field block left more at next end n is within begins ends size seen first =
    record {
      exists = ⊎_elim
          (λ (less : block < block_count h). less)
          (λ (past : block_count h ≤ block).
          let wrong : true ≡ false = sym passes.2 ∙ absent-past h.mask h.box h.block_bits block is.bits_within past in absurd (cc))
          (cases_lt block (block_count h));
      from = passes.0;
      to = passes.1;
      present = passes.2;
      offset = seen.place ∙ ap (λ a. a + block_bytes l field * seen.given) begins ∙ sum ∙ sym (offset_of-place l file field seen.given block in_sizes step.at);
      fits = omega (arith, seen.place, ends, size, room, more_bytes);
      after = omega (arith, seen.place);
      seen = record { given = seen.given + 1; is = step.left; place = omega (arith, seen.place, size, more_bytes) };
    }
  where
    l : Placing
    l = placing_of h

    step : IsNext (present_blocks l file) more seen.given block
    step = left_next (present_blocks l file) left more seen.given block seen.is first

    times : (b g : ℕ) → b * (g + 1) ≡ b * g + b
    times b g = grind arith

    more_bytes : block_bytes l field * (seen.given + 1) ≡ block_bytes l field * seen.given + block_bytes l field
    more_bytes = times (block_bytes l field) seen.given

    passes : (file ≤ block) × (block < file + h.blocks_per_file) × (is_present l block ≡ true)
    passes = passing_number (is_present l) file h.blocks_per_file seen.given block step.at

    in_sizes : field < length l.sizes
    in_sizes = subst (λ n. field < n) (sym (length-map h.fields sample_bytes)) within

    sum : begins_at l file field + block_bytes l field * seen.given ≡ table_bytes (row_count l) + (sum_by (block_bytes l) (range_with_len 0 field) * length (present_blocks l file) + block_bytes l field * seen.given)
    sum = omega arith

    room : block_bytes l field * (seen.given + 1) ≤ block_bytes l field * length (present_blocks l file)
    room = mul-le-mul_left (block_bytes l field) step.left.few

-- ---- the bytes of a block

module _ (l : Placing) (file field block size n at : ℕ) (size_is : size ≡ slice_index l.sizes field) (n_is : n ≡ block_bytes l field) (at_is : at ≡ offset_of l file field block)
    (exists : field < length l.sizes) (from : file ≤ block) (to : block < file + l.per_file) (present : is_present l block ≡ true) where
  abbrev pub first : ℕ
  first = block * 2 ^ l.bits

  wanted_at : (bytes wanted : List ℕ) → HasForm l file bytes wanted → (i : ℕ) → i < n →
      slice_index wanted (at + i) ≡ cond (is_address_of l.mask l.region (first + i / size)) (slice_index bytes (at + i)) 0
  wanted_at bytes wanted form i within =
      ap (λ a. slice_index wanted (a + i)) at_is ∙ form.blocks field block i exists from to present (omega (arith, n_is, within))
      ∙ ap (λ s. cond (is_address_of l.mask l.region (first + i / s)) (slice_index bytes (offset_of l file field block + i)) 0) (sym size_is)
      ∙ ap (λ a. cond (is_address_of l.mask l.region (first + i / size)) (slice_index bytes (a + i)) 0) (sym at_is)

  same_at : (bytes wanted : List ℕ) → HasForm l file bytes wanted → (i : ℕ) → i < n → IsClean l.mask l.region size first (text_from bytes at) i → slice_index bytes (at + i) ≡ slice_index wanted (at + i)
  same_at bytes wanted form i within clean = by_test (is_address_of l.mask l.region (first + i / size)) refl
    where
      by_test : (b : Bool) → is_address_of l.mask l.region (first + i / size) ≡ b → slice_index bytes (at + i) ≡ slice_index wanted (at + i)
      by_test true e = sym (wanted_at bytes wanted form i within ∙ ap (λ (b : Bool). cond b (slice_index bytes (at + i)) 0) e)
      by_test false e = clean e ∙ sym (wanted_at bytes wanted form i within ∙ ap (λ (b : Bool). cond b (slice_index bytes (at + i)) 0) e)

  agrees_at : (bytes wanted : List ℕ) → HasForm l file bytes wanted → ((i : ℕ) → i < n → IsClean l.mask l.region size first (text_from bytes at) i) →
      (i : ℕ) → at ≤ i → i < at + n → slice_index bytes i ≡ slice_index wanted i
  agrees_at bytes wanted form clean i low high =
      let k : ℕ = i - at in
      let there : at + k ≡ i = omega (arith, low) in
      let within : k < n = omega (arith, low, high) in
      subst (λ (j : ℕ). slice_index bytes j ≡ slice_index wanted j) there (same_at bytes wanted form k within (clean k within))

  differs_at : (bytes wanted : List ℕ) (place : ℕ) → HasForm l file bytes wanted → IsStray l.mask l.region size first (text_from bytes at) n place → DifferAt bytes wanted at (at + n) (at + place)
  differs_at bytes wanted place form stray =
      let zero : slice_index wanted (at + place) ≡ 0 = wanted_at bytes wanted form place stray.within ∙ ap (λ (b : Bool). cond b (slice_index bytes (at + place)) 0) stray.outside in
      record {
        after = omega arith;
        within = omega (arith, stray.within);
        other = λ e. stray.other (e ∙ zero);
        before = λ i low high.
            let k : ℕ = i - at in
            let there : at + k ≡ i = omega (arith, low) in
            let less : k < place = omega (arith, low, high) in
            subst (λ (j : ℕ). slice_index bytes j ≡ slice_index wanted j) there (same_at bytes wanted form k (omega (arith, less, stray.within)) (stray.before k less));
      }

  -- the same where the file's bytes are known
  pub block_agrees : (contents : Option (List ℕ)) (begin : ℕ) (found : Option ℕ) → found ≡ None → IfSome contents (λ bytes. Agrees l file bytes begin at) →
      IfSome contents (λ bytes. IsFirstStray l.mask l.region size first (text_from bytes at) n found) → IfSome contents (λ bytes. Agrees l file bytes begin (at + n))
  block_agrees contents begin found is before stray = by_contents contents before (subst (λ (o : Option ℕ). IfSome contents (λ bytes. IsFirstStray l.mask l.region size first (text_from bytes at) n o)) is stray)
    where
      by_contents : (contents : Option (List ℕ)) → IfSome contents (λ bytes. Agrees l file bytes begin at) →
          IfSome contents (λ bytes. IsFirstStray l.mask l.region size first (text_from bytes at) n None) → IfSome contents (λ bytes. Agrees l file bytes begin (at + n))
      by_contents None before clean = tt
      by_contents (Some bytes) before clean = λ wanted form. agree_later bytes wanted begin at (at + n) (before wanted form) (agrees_at bytes wanted form clean)

  pub block_differs : (contents : Option (List ℕ)) (begin end place : ℕ) (found : Option ℕ) → found ≡ Some place → begin ≤ at → at + n ≤ end → IfSome contents (λ bytes. Agrees l file bytes begin at) →
      IfSome contents (λ bytes. IsFirstStray l.mask l.region size first (text_from bytes at) n found) →
      IfSome contents (λ bytes. (wanted : List ℕ) → HasForm l file bytes wanted → DifferAt bytes wanted begin end (at + place))
  block_differs contents begin end place found is low fits before stray = by_contents contents before (subst (λ (o : Option ℕ). IfSome contents (λ bytes. IsFirstStray l.mask l.region size first (text_from bytes at) n o)) is stray)
    where
      by_contents : (contents : Option (List ℕ)) → IfSome contents (λ bytes. Agrees l file bytes begin at) →
          IfSome contents (λ bytes. IsFirstStray l.mask l.region size first (text_from bytes at) n (Some place)) →
          IfSome contents (λ bytes. (wanted : List ℕ) → HasForm l file bytes wanted → DifferAt bytes wanted begin end (at + place))
      by_contents None before clean = tt
      by_contents (Some bytes) before stray = λ wanted form. differ_later bytes wanted begin at n end (at + place) (before wanted form) low fits (differs_at bytes wanted place form stray)

-- nothing between a place and itself
pub agrees_nowhere : (contents : Option (List ℕ)) (l : Placing) (file at : ℕ) → IfSome contents (λ bytes. Agrees l file bytes at at)
agrees_nowhere None l file at = tt
agrees_nowhere (Some bytes) l file at = λ wanted form i low high. absurd (omega (arith, low, high))

-- how many bytes a sample of a field has, and a block
pub size_of : (h : HeaderValue) (field size : ℕ) → field < length h.fields → size ≡ sample_bytes_of h field → size ≡ slice_index (placing_of h).sizes field
size_of h field size within is = is ∙ sym (get_or-map sample_bytes h.fields field (field_at [] 0) 0 within)

pub bytes_of_block : (h : HeaderValue) (field size : ℕ) → field < length h.fields → size ≡ sample_bytes_of h field → size * 2 ^ h.block_bits ≡ block_bytes (placing_of h) field
bytes_of_block h field size within is = ap (λ n. n * 2 ^ h.block_bits) (size_of h field size within is)

-- the blocks of a field are whole runs
pub whole_runs : (block bits fine size run count left : ℕ) → fine ≤ bits → run ≡ size * 2 ^ fine → block ≡ size * 2 ^ bits → left ≡ block * count → left % run ≡ 0
whole_runs block bits fine size run count left low is all rest =
    let parts = all_parts bits fine (2 ^ (bits - fine)) (2 ^ fine) low refl refl in
    let whole : left ≡ 2 ^ (bits - fine) * count * run = rest ∙ ap (λ n. n * count) (all ∙ ap (λ n. size * n) parts) ∙ turn size (2 ^ (bits - fine)) (2 ^ fine) count ∙ ap (λ n. 2 ^ (bits - fine) * count * n) (sym is) in
    ap (λ n. n % run) whole ∙ mul-mod_left (2 ^ (bits - fine) * count) run
  where
    turn : (s p f c : ℕ) → s * (p * f) * c ≡ p * c * (s * f)
    turn s p f c = grind arith

-- ---- all fields

-- the next field begins where this one ends
pub next_begins : (l : Placing) (file field at n : ℕ) → at ≡ begins_at l file field → n ≡ block_bytes l field → at + n * length (present_blocks l file) ≡ begins_at l file (field + 1)
next_begins l file field at n begins size =
    let m : ℕ = length (present_blocks l file) in
    let s : ℕ = sum_by (block_bytes l) (range_with_len 0 field) in
    let sum : (s + block_bytes l field) * m ≡ s * m + block_bytes l field * m = spread s (block_bytes l field) m in
    omega (arith, begins, ap (λ k. k * m) size, sum, ap (λ k. k * m) (sum-more (block_bytes l) field))
  where
    spread : (a b m : ℕ) → (a + b) * m ≡ a * m + b * m
    spread a b m = grind arith

pub all_fields : (h : HeaderValue) (file field at : ℕ) → at ≡ begins_at (placing_of h) file field → field ≡ length h.fields → at ≡ length_of_file (placing_of h) file
all_fields h file field at begins last =
    begins ∙ ap (λ n. begins_at (placing_of h) file n) (last ∙ sym (length-map h.fields sample_bytes)) ∙ sym (length_of_file-sums (placing_of h) file)

-- where a field of all ends: no later than the file
pub field_ends : (h : HeaderValue) (file field at n m : ℕ) → IsHeader h → field < length h.fields → at ≡ begins_at (placing_of h) file field → n ≡ block_bytes (placing_of h) field →
    m ≡ length (present_blocks (placing_of h) file) → (at + n * m ≤ length_of_file (placing_of h) file) × (length_of_file (placing_of h) file < 2 ^ 64)
field_ends h file field at n m is within begins size count =
    let l : Placing = placing_of h in
    let next : at + n * m ≡ begins_at l file (field + 1) = ap (λ k. at + n * k) count ∙ next_begins l file field at n begins size in
    let fields : length l.sizes ≡ length h.fields = length-map h.fields sample_bytes in
    let split : length l.sizes ≡ field + 1 + (length l.sizes - (field + 1)) = omega (arith, fields, within) in
    let sum : sum_by (block_bytes l) (range_with_len 0 (length l.sizes)) ≡ sum_by (block_bytes l) (range_with_len 0 (field + 1)) + sum_by (block_bytes l) (range_with_len (0 + (field + 1)) (length l.sizes - (field + 1))) =
    ap (λ k. sum_by (block_bytes l) (range_with_len 0 k)) split ∙ ap (sum_by (block_bytes l)) (range-split 0 (field + 1) (length l.sizes - (field + 1)))
    ∙ sum_by-append (block_bytes l) (range_with_len 0 (field + 1)) (range_with_len (0 + (field + 1)) (length l.sizes - (field + 1))) in
    let less : sum_by (block_bytes l) (range_with_len 0 (field + 1)) ≤ sum_by (block_bytes l) (range_with_len 0 (length l.sizes)) = omega (arith, sum) in
    let times : sum_by (block_bytes l) (range_with_len 0 (field + 1)) * length (present_blocks l file) ≤ sum_by (block_bytes l) (range_with_len 0 (length l.sizes)) * length (present_blocks l file) =
    mul-le-mul_right (length (present_blocks l file)) less in
    (omega (arith, next, times, length_of_file-sums l file), (fits_rows h file is).bytes)

-- what is found in a field is found in the file
pub field_differs : (contents : Option (List ℕ)) (l : Placing) (file begin at end last : ℕ) (found : Option ℕ) → begin ≤ at → end ≤ last → IsSome found → IfSome contents (λ bytes. Agrees l file bytes begin at) →
    IfSome contents (λ bytes. (wanted : List ℕ) → HasForm l file bytes wanted → IsFirstBetween bytes wanted at end found) →
    IfSome contents (λ bytes. (wanted : List ℕ) → HasForm l file bytes wanted → IsFirstBetween bytes wanted begin last found)
field_differs None l file begin at end last found low high some before is = tt
field_differs (Some bytes) l file begin at end last None low high some before is = let wrong : false ≡ true = some in absurd (cc)
field_differs (Some bytes) l file begin at end last (Some place) low high some before is = λ wanted form.
    let here = is wanted form in
    differ_later bytes wanted begin at (end - at) last place (before wanted form) low (omega (arith, high, here.within, here.after))
    (record { after = here.after; within = omega (arith, here.within, here.after); other = here.other; before = here.before })

pub field_agrees : (contents : Option (List ℕ)) (l : Placing) (file begin at end : ℕ) (found : Option ℕ) → found ≡ None → IfSome contents (λ bytes. Agrees l file bytes begin at) →
    IfSome contents (λ bytes. (wanted : List ℕ) → HasForm l file bytes wanted → IsFirstBetween bytes wanted at end found) → IfSome contents (λ bytes. Agrees l file bytes begin end)
field_agrees None l file begin at end found none before is = tt
field_agrees (Some bytes) l file begin at end None none before is = λ wanted form. agree_later bytes wanted begin at end (before wanted form) (is wanted form)
field_agrees (Some bytes) l file begin at end (Some place) none before is = absurd (cc)

pub none_of : (found : Option ℕ) → is_some found ≡ false → found ≡ None
none_of None e = refl
none_of (Some x) e = let wrong : true ≡ false = e in absurd (cc)
