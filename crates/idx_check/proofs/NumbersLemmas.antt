-- The numbers of a dataset's files, and which of them the writer writes.
use Rattle.std.proofs.Common.{◌≡◌, ⊎_elim, ℕ, zero, suc, ◌+◌, ◌-◌, ◌*◌, ◌/◌, ◌%◌, ◌<◌, ◌≤◌, Bool, true, false, cond, List, [], ◌∷◌, ◌++◌, length, map, Some, refl, sym, ap, ◌∙◌, arith, zero-add, eq-eqb, eqb-true, nat_lt}
use Rattle.std.specs.Prelude.{Option, filter, slice_get, ◌||◌, ◌&&◌, ◌==◌}
use Rattle.std.specs.Option.{option_map}
use Rattle.std.specs.List.{list_any, range_with_len}
use Rattle.std.proofs.Math.Nat.{div-add-mod', mod-lt, mul_comm, mul-div_cancel_left, mul-le-mul_left}
use Rattle.std.proofs.lemmas.Bool.{cases_lt}
use Rattle.std.proofs.lemmas.Nat.{div-mul-add}
use Rattle.std.proofs.lemmas.List.Elements.{filter-append}
use Rattle.std.proofs.lemmas.List.FromFn.{length-map-range_with_len, length-range_with_len}
use Rattle.std.proofs.lemmas.Option.{slice_get-map, slice_get_within}
use Rattle.idx_layout.specs.Placing.{Placing, block_count, file_numbers, file_of, is_present, present_blocks}
use Rattle.idx_layout.proofs.ListLemmas.{count-none, counted, list_any-slice_get, passing, range-split, same_tests}
use Rattle.idx_layout.proofs.PresentLemmas.{absent-past}
use Rattle.idx_check.specs.Verdict.{all_files, file_count, is_written}
use Rattle.idx_check.proofs.ContentLemmas.{passing_number}
use Rattle.idx_check.proofs.WantedLemmas.{number_at}

-- ---- lists
-- tests that agree on all items keep the same
pub same_filter : {X : Type 0} (p q : X → Bool) (xs : List X) → ((i : ℕ) (x : X) → slice_get xs i ≡ Some x → p x ≡ q x) → filter p xs ≡ filter q xs
same_filter p q [] same = refl
same_filter p q (x ∷ xs) same =
    ap (λ (b : Bool). cond b (x ∷ filter p xs) (filter p xs)) (same 0 x refl)
    ∙ ap (λ rest. cond (q x) (x ∷ rest) rest) (same_filter p q xs (λ i y at. same (suc i) y at))

-- a number of a range that passes is kept
kept_at : (test : ℕ → Bool) (a n k : ℕ) → a ≤ k → k < a + n → test k ≡ true → list_any (λ x. x == k) (filter test (range_with_len a n)) ≡ true
kept_at test a zero k low high passes = absurd (omega arith)
kept_at test a (suc n) k low high passes = by_distance (kept_at test (a + 1) n k) (k - a) (omega arith)
  where
    rest : List ℕ
    rest = filter test (range_with_len (a + 1) n)

    or_true : (b c : Bool) → c ≡ true → (b || c) ≡ true
    or_true true c e = refl
    or_true false c e = e

    with_first : (b : Bool) → list_any (λ x. x == k) rest ≡ true → list_any (λ x. x == k) (cond b (a ∷ rest) rest) ≡ true
    with_first true e = or_true (a == k) (list_any (λ x. x == k) rest) e
    with_first false e = e

    by_distance : (a + 1 ≤ k → k < a + 1 + n → test k ≡ true → list_any (λ x. x == k) rest ≡ true) → (d : ℕ) → k ≡ a + d →
        list_any (λ x. x == k) (cond (test a) (a ∷ rest) rest) ≡ true
    by_distance more zero same =
        let here : a ≡ k = omega (arith, same) in
        ap (λ (b : Bool). list_any (λ x. x == k) (cond b (a ∷ rest) rest)) (ap test here ∙ passes)
        ∙ ap (λ (b : Bool). b || list_any (λ x. x == k) rest) (eq-eqb a k here)
    by_distance more (suc d) same = with_first (test a) (more (omega (arith, same)) (omega arith) passes)

-- what stands at a place of a range
pub number_is : (a n k x : ℕ) → slice_get (range_with_len a n) k ≡ Some x → (k < n) × (x ≡ a + k)
number_is a n k x at =
    let within : k < n = omega (arith, slice_get_within (range_with_len a n) k x at, length-range_with_len a n) in
    let both : ◌≡◌ {A = Option ℕ} (Some x) (Some (a + k)) = sym at ∙ number_at a n k within in (within, cc)

-- ---- multiples
-- no multiple lies between a multiple and the next
between : (p q r : ℕ) → p * q < p * r → p * r < p * q + p → ⊥
between p q r low high = by_distance (r - q) refl
  where
    by_distance : (d : ℕ) → r - q ≡ d → ⊥
    by_distance zero e =
        let less : p * r ≤ p * q = mul-le-mul_left p (omega (arith, e)) in omega (arith, less, low)
    by_distance (suc d) e =
        let more : p * (q + 1) ≤ p * r = mul-le-mul_left p (omega (arith, e)) in
        let next : p * (q + 1) ≡ p * q + p = grind arith in
        omega (arith, more, next, high)

-- where only multiples pass, the range of all numbers keeps what the multiples among them do
module _ (test : ℕ → Bool) (p : ℕ) (some : 1 ≤ p) (begins : (k : ℕ) → test k ≡ true → k ≡ p * (k / p)) where
  none_inside : (a k : ℕ) → p * a + 1 ≤ k → k < p * a + p → test k ≡ false
  none_inside a k low high = by_test (test k) refl
    where
      by_test : (b : Bool) → test k ≡ b → test k ≡ false
      by_test false e = e
      by_test true e =
          let at : k ≡ p * (k / p) = begins k e in
          absurd (between p a (k / p) (omega (arith, low, at)) (omega (arith, high, at)))

  one_multiple : (a s : ℕ) → 1 ≤ s → s ≤ p → filter test (range_with_len (p * a) s) ≡ filter test ((p * a) ∷ [])
  one_multiple a zero least most = absurd (omega arith)
  one_multiple a (suc s) least most =
      ap (λ rest. cond (test (p * a)) (p * a ∷ rest) rest) (count-none test (p * a + 1) s (λ k low high. none_inside a k low (omega arith)))

  pub multiples : (c a m : ℕ) → m ≤ p * c → p * c < m + p → filter test (range_with_len (p * a) m) ≡ filter test (map (λ i. p * i) (range_with_len a c))
  multiples zero a m most least =
      let none : m ≡ 0 = omega arith in ap (λ n. filter test (range_with_len (p * a) n)) none
  multiples (suc c) a m most least = by_rest (multiples c (a + 1)) (m - p) refl
    where
      last : (c : ℕ) → p * c < p → filter test ((p * a) ∷ []) ≡ filter test (p * a ∷ map (λ i. p * i) (range_with_len (a + 1) c))
      last zero few = refl
      last (suc c) few = absurd (omega arith)

      by_rest : ((n : ℕ) → n ≤ p * c → p * c < n + p → filter test (range_with_len (p * (a + 1)) n) ≡ filter test (map (λ i. p * i) (range_with_len (a + 1) c))) →
          (d : ℕ) → m - p ≡ d → filter test (range_with_len (p * a) m) ≡ filter test (p * a ∷ map (λ i. p * i) (range_with_len (a + 1) c))
      by_rest more zero e =
          one_multiple a m (omega (arith, some)) (omega (arith, e)) ∙ last c (omega (arith, e))
      by_rest more (suc d) e =
          let cut : m ≡ p + suc d = omega (arith, e) in
          let next : p * a + p ≡ p * (a + 1) = grind arith in
          let behind : List ℕ = map (λ i. p * i) (range_with_len (a + 1) c) in
          ap (λ n. filter test (range_with_len (p * a) n)) cut
          ∙ ap (filter test) (range-split (p * a) p (suc d))
          ∙ filter-append test (range_with_len (p * a) p) (range_with_len (p * a + p) (suc d))
          ∙ ap (λ xs. xs ++ filter test (range_with_len (p * a + p) (suc d))) (one_multiple a p some (omega arith))
          ∙ ap (λ b. filter test ((p * a) ∷ []) ++ filter test (range_with_len b (suc d))) next
          ∙ ap (λ xs. filter test ((p * a) ∷ []) ++ xs) (more (suc d) (omega (arith, e)) (omega (arith, e)))
          ∙ sym (filter-append test ((p * a) ∷ []) behind)

-- ---- files
module _ (l : Placing) (some : 1 ≤ l.per_file) where
  -- a block is present and of a file
  abbrev of_file : ℕ → ℕ → Bool
  of_file file block = is_present l block && (file_of l block == file)

  -- a file has a present block
  abbrev has_block : ℕ → Bool
  has_block file = list_any (of_file file) (range_with_len 0 (block_count l))

  both_true : (a b : Bool) → (a && b) ≡ true → (a ≡ true) × (b ≡ true)
  both_true true b e = (refl, e)
  both_true false b e = let wrong : false ≡ true = e in absurd (cc)

  -- a present block of a file that has one
  block_of : (file : ℕ) → has_block file ≡ true → (block : ℕ) × (block < block_count l) × (is_present l block ≡ true) × (file_of l block ≡ file)
  block_of file has =
      let at = passing (of_file file) (range_with_len 0 (block_count l)) has in
      let place = number_is 0 (block_count l) at.0 at.1 at.2 in
      let tests = both_true (is_present l at.1) (file_of l at.1 == file) at.3 in
      (at.1, omega (arith, place.0, place.1), tests.0, eqb-true (file_of l at.1) file tests.1)

  -- a file's number is a multiple
  is_multiple : (file : ℕ) → has_block file ≡ true → file ≡ l.per_file * (file / l.per_file)
  is_multiple file has =
      let at = block_of file has in
      let number : ℕ = at.0 / l.per_file in
      let same : l.per_file * number ≡ file = at.3 in
      let part : file / l.per_file ≡ number = ap (λ n. n / l.per_file) (sym same) ∙ mul-div_cancel_left number {n = l.per_file} some in
      sym same ∙ ap (λ n. l.per_file * n) (sym part)

  -- there are as many files as take all blocks
  count_covers : (block_count l ≤ l.per_file * file_count l) × (l.per_file * file_count l < block_count l + l.per_file)
  count_covers =
      let n : ℕ = block_count l + l.per_file - 1 in
      let rest : n % l.per_file < l.per_file = mod-lt n some in
      let whole : l.per_file * (n / l.per_file) + n % l.per_file ≡ n = ap (λ k. k + n % l.per_file) (mul_comm l.per_file (n / l.per_file)) ∙ div-add-mod' n l.per_file in
      (omega (arith, rest, whole), omega (arith, rest, whole))

  have_blocks : file_numbers l ≡ filter has_block (all_files l)
  have_blocks =
      let covers = count_covers in
      let start : 0 ≡ l.per_file * 0 = omega arith in
      ap (λ a. filter has_block (range_with_len a (block_count l))) start
      ∙ multiples has_block l.per_file some is_multiple (file_count l) 0 (block_count l) covers.0 covers.1

  -- ---- all files
  pub length-all_files : length (all_files l) ≡ file_count l
  length-all_files = length-map-range_with_len (λ i. l.per_file * i) 0 (file_count l)

  -- the files are the multiples of the places in a file, each below the number of blocks
  pub below_blocks : (i : ℕ) → i < file_count l → l.per_file * i < block_count l
  below_blocks i within =
      let more : l.per_file * (i + 1) ≤ l.per_file * file_count l = mul-le-mul_left l.per_file (omega arith) in
      let next : l.per_file * (i + 1) ≡ l.per_file * i + l.per_file = grind arith in
      omega (arith, more, next, count_covers.1)

  -- and each multiple below it is one of them
  pub place_exists : (i : ℕ) → l.per_file * i < block_count l → i < file_count l
  place_exists i less = ⊎_elim
      (λ (within : i < file_count l). within)
      (λ (past : file_count l ≤ i).
      let more : l.per_file * file_count l ≤ l.per_file * i = mul-le-mul_left l.per_file past in
      absurd (omega (arith, less, more, count_covers.0)))
      (cases_lt i (file_count l))

  pub file_at_place : (i : ℕ) → i < file_count l → slice_get (all_files l) i ≡ Some (l.per_file * i)
  file_at_place i within =
      slice_get-map (λ i. l.per_file * i) (range_with_len 0 (file_count l)) i
      ∙ ap (option_map (λ i. l.per_file * i)) (number_at 0 (file_count l) i within)
      ∙ ap (λ k. Some (l.per_file * k)) (zero-add i)

  pub place_of_file : (i file : ℕ) → slice_get (all_files l) i ≡ Some file → (i < file_count l) × (file ≡ l.per_file * i) × (file < block_count l)
  place_of_file i file at =
      let within : i < file_count l = omega (arith, slice_get_within (all_files l) i file at, length-all_files) in
      let both : ◌≡◌ {A = Option ℕ} (Some file) (Some (l.per_file * i)) = sym at ∙ file_at_place i within in
      let same : file ≡ l.per_file * i = cc in
      (within, same, omega (arith, same, below_blocks i within))

  pub files_rise : (i k : ℕ) → i < k → l.per_file * i < l.per_file * k
  files_rise i k less =
      let more : l.per_file * (i + 1) ≤ l.per_file * k = mul-le-mul_left l.per_file (omega arith) in
      let next : l.per_file * (i + 1) ≡ l.per_file * i + l.per_file = grind arith in
      omega (arith, more, next, some)

  -- ---- the files that are written
  -- they are those that have a present block
  written_has : (file : ℕ) → file < block_count l → is_written l file ≡ has_block file
  written_has file exists =
      same_tests (is_written l file) (has_block file)
      (λ e.
      let at = passing (λ number. number == file) (file_numbers l) e in
      let kept = passing_number has_block 0 (block_count l) at.0 at.1 at.2 in
      ap has_block (sym (eqb-true at.1 file at.3)) ∙ kept.2)
      (λ e. kept_at has_block 0 (block_count l) file (omega arith) (omega arith) e)

  -- the files that the writer writes are those of all files that it writes
  pub written_numbers : file_numbers l ≡ filter (is_written l) (all_files l)
  written_numbers =
      have_blocks
      ∙ same_filter has_block (is_written l) (all_files l) (λ i file at. sym (written_has file (place_of_file i file at).2))

  -- a file among them is written
  pub listed_written : (i file : ℕ) → slice_get (file_numbers l) i ≡ Some file → is_written l file ≡ true
  listed_written i file at = list_any-slice_get (λ number. number == file) (file_numbers l) i file at (eq-eqb file file refl)

  -- a block lies among the places of its file
  within_file : (block : ℕ) → (l.per_file * (block / l.per_file) ≤ block) × (block < l.per_file * (block / l.per_file) + l.per_file)
  within_file block =
      let rest = mod-lt block some in
      let whole : l.per_file * (block / l.per_file) + block % l.per_file ≡ block =
      ap (λ n. n + block % l.per_file) (mul_comm l.per_file (block / l.per_file)) ∙ div-add-mod' block l.per_file in
      (omega (arith, whole), omega (arith, whole, rest))

  -- the file of a block
  pub file_of_place : (i block : ℕ) → l.per_file * i ≤ block → block < l.per_file * i + l.per_file → file_of l block ≡ l.per_file * i
  file_of_place i block from to =
      let k : ℕ = block - l.per_file * i in
      let whole : i * l.per_file + k ≡ block = ap (λ n. n + k) (mul_comm i l.per_file) ∙ omega (arith, from) in
      ap (λ n. l.per_file * n) (ap (λ n. n / l.per_file) (sym whole) ∙ div-mul-add i l.per_file k (omega (arith, from, to)))

  -- a file is written where some block of its places is present
  pub written_present : l.bits ≤ length l.mask → (i : ℕ) → i < file_count l →
      is_written l (l.per_file * i) ≡ nat_lt 0 (length (present_blocks l (l.per_file * i)))
  written_present digits i within =
      let file : ℕ = l.per_file * i in
      written_has file (below_blocks i within)
      ∙ same_tests (has_block file) (list_any (is_present l) (range_with_len file l.per_file))
      (λ e.
      let at = block_of file e in
      let place = within_file at.0 in
      let from : file ≤ at.0 = omega (arith, place.0, at.3) in
      let to : at.0 < file + l.per_file = omega (arith, place.1, at.3) in
      let here : file + (at.0 - file) ≡ at.0 = omega (arith, from) in
      list_any-slice_get (is_present l) (range_with_len file l.per_file) (at.0 - file) at.0
      (number_at file l.per_file (at.0 - file) (omega (arith, from, to)) ∙ ap (λ n. Some n) here) at.2)
      (λ e.
      let at = passing (is_present l) (range_with_len file l.per_file) e in
      let place = number_is file l.per_file at.0 at.1 at.2 in
      let exists : at.1 < block_count l = present_exists digits at.1 at.3 in
      list_any-slice_get (of_file file) (range_with_len 0 (block_count l)) at.1 at.1
      (number_at 0 (block_count l) at.1 exists ∙ ap (λ n. Some n) (zero-add at.1))
      (ap (λ (b : Bool). b && (file_of l at.1 == file)) at.3
      ∙ eq-eqb (file_of l at.1) file (file_of_place i at.1 (omega (arith, place.1)) (omega (arith, place.0, place.1)))))
      ∙ sym (counted (is_present l) (range_with_len file l.per_file))
    where
      present_exists : l.bits ≤ length l.mask → (block : ℕ) → is_present l block ≡ true → block < block_count l
      present_exists digits block present = by_distance (block + 1 - block_count l) refl
        where
          by_distance : (d : ℕ) → block + 1 - block_count l ≡ d → block < block_count l
          by_distance zero e = omega (arith, e)
          by_distance (suc d) e =
              let wrong : true ≡ false = sym present ∙ absent-past l.mask l.region l.bits block digits (omega (arith, e)) in absurd (cc)
