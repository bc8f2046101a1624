-- The files that have a present block, from one present block to the next.
use Rattle.std.proofs.Common.{◌≡◌, ℕ, zero, suc, ◌+◌, ◌-◌, ◌*◌, ◌/◌, ◌%◌, ◌^◌, length, ◌<◌, ◌≤◌, Bool, true, false, cond, List, [], ◌∷◌, ◌++◌, Some, None, refl, sym, ap, ◌∙◌, arith}
use Rattle.std.specs.Prelude.{find, filter, ◌&&◌, ◌||◌, ◌==◌}
use Rattle.std.specs.List.{list_any, range_with_len}
use Rattle.std.proofs.Math.Nat.{div-add-mod', mod-lt, mul_comm, mul-le-mul_left}
use Rattle.std.proofs.lemmas.Bool.{ne_eqb}
use Rattle.std.proofs.Common.{eq-eqb}
use Rattle.std.proofs.lemmas.List.Elements.{filter-append}
use Rattle.idx_layout.specs.Placing.{Placing, block_count, file_numbers, file_of, has_point_in, is_present}
use Rattle.idx_layout.proofs.PresentLemmas.{absent-past}
use Rattle.idx_layout.specs.FileNumbers.{AreFiles, files_from}
use Rattle.idx_layout.proofs.ListLemmas.{count-none, range-split}
use Rattle.idx_layout.proofs.FindLemmas.{found, not_found}

-- ---- ranges
-- a number of a range that passes is some number that does
any_at : (q : ℕ → Bool) (a n k : ℕ) → a ≤ k → k < a + n → q k ≡ true → list_any q (range_with_len a n) ≡ true
any_at q a zero k low high passes = absurd (omega arith)
any_at q a (suc n) k low high passes = by_distance (any_at q (a + 1) n k) (k - a) (omega arith)
  where
    rest : Bool
    rest = list_any q (range_with_len (a + 1) n)

    or_true : (b : Bool) → rest ≡ true → (b || rest) ≡ true
    or_true true e = refl
    or_true false e = e

    by_distance : (a + 1 ≤ k → k < a + 1 + n → q k ≡ true → rest ≡ true) → (d : ℕ) → k ≡ a + d → (q a || rest) ≡ true
    by_distance more zero same =
        let here : k ≡ a = omega (arith, same) in
        ap (λ b. b || rest) (ap q (sym here) ∙ passes)
    by_distance more (suc d) same = or_true (q a) (more (omega (arith, same)) (omega arith) passes)

any_none : (q : ℕ → Bool) (a n : ℕ) → ((k : ℕ) → a ≤ k → k < a + n → q k ≡ false) → list_any q (range_with_len a n) ≡ false
any_none q a zero none = refl
any_none q a (suc n) none =
    ap (λ b. b || list_any q (range_with_len (a + 1) n)) (none a (omega arith) (omega arith))
    ∙ any_none q (a + 1) n (λ k low high. none k (omega arith) (omega arith))

-- the numbers that pass are the same without some in front that do not
filter-skip : (p : ℕ → Bool) (a b n : ℕ) → a ≤ b → ((k : ℕ) → a ≤ k → k < b → p k ≡ false) → filter p (range_with_len a n) ≡ filter p (range_with_len b (a + n - b))
filter-skip p a b n less none = by_rest (a + n - b) refl
  where
    by_rest : (d : ℕ) → a + n - b ≡ d → filter p (range_with_len a n) ≡ filter p (range_with_len b d)
    by_rest zero e = count-none p a n (λ k low high. none k low (omega (arith, e)))
    by_rest (suc d) e =
        let cut : n ≡ (b - a) + suc d = omega (arith, e) in
        let here : a + (b - a) ≡ b = omega arith in
        ap (λ k. filter p (range_with_len a k)) cut
        ∙ ap (filter p) (range-split a (b - a) (suc d))
        ∙ filter-append p (range_with_len a (b - a)) (range_with_len (a + (b - a)) (suc d))
        ∙ ap (λ xs. xs ++ filter p (range_with_len (a + (b - a)) (suc d))) (count-none p a (b - a) (λ k low high. none k low (omega arith)))
        ∙ ap (λ c. filter p (range_with_len c (suc d))) here

-- ---- files
-- no multiple lies between a multiple and the next
between : (p q r : ℕ) → p * q < p * r → p * r < p * q + p → ⊥
between p q r low high = by_distance (r - q) refl
  where
    by_distance : (d : ℕ) → r - q ≡ d → ⊥
    by_distance zero e =
        let less : p * r ≤ p * q = mul-le-mul_left p (omega (arith, e)) in omega (arith, less, low)
    by_distance (suc d) e =
        let more : p * (q + 1) ≤ p * r = mul-le-mul_left p (omega (arith, e)) in
        let next : p * (q + 1) ≡ p * q + p = grind arith in
        omega (arith, more, next, high)

-- a block lies among the places of its file
within_file : (p block : ℕ) → 1 ≤ p → (p * (block / p) ≤ block) × (block < p * (block / p) + p)
within_file p block some =
    let rest = mod-lt block some in
    let whole : p * (block / p) + block % p ≡ block = ap (λ n. n + block % p) (mul_comm p (block / p)) ∙ div-add-mod' block p in
    (omega (arith, whole), omega (arith, whole, rest))

and_absent : (a b : Bool) → a ≡ false → (a && b) ≡ false
and_absent a b e = ap (λ t. t && b) e

and_other : (a b : Bool) → b ≡ false → (a && b) ≡ false
and_other true b e = e
and_other false b e = refl

module _ (l : Placing) where
  -- a block is present and of a file
  abbrev of_file : ℕ → ℕ → Bool
  of_file file block = is_present l block && (file_of l block == file)

  abbrev has_block : ℕ → Bool
  has_block file = list_any (of_file file) (range_with_len 0 (block_count l))

  -- a file without a present block
  none_of : (file : ℕ) → ((block : ℕ) → block < block_count l → is_present l block ≡ true → file_of l block ≡ file → ⊥) → has_block file ≡ false
  none_of file none = any_none (of_file file) 0 (block_count l) (λ block low high. by_test block (omega (arith, high)) (is_present l block) refl)
    where
      by_test : (block : ℕ) → block < block_count l → (b : Bool) → is_present l block ≡ b → of_file file block ≡ false
      by_test block within true is = and_other (is_present l block) (file_of l block == file) (ne_eqb (file_of l block) file (none block within is))
      by_test block within false is = and_absent (is_present l block) (file_of l block == file) is

  -- the file of a present block
  some_of : (block : ℕ) → block < block_count l → is_present l block ≡ true → has_block (file_of l block) ≡ true
  some_of block within is =
      any_at (of_file (file_of l block)) 0 (block_count l) block (omega arith) (omega (arith, within))
      (ap (λ b. b && (file_of l block == file_of l block)) is ∙ eq-eqb (file_of l block) (file_of l block) refl)

  -- where no block is present any more, no file is left
  pub files_end : (next : ℕ) → AreFiles l next → find (is_present l) (range_with_len next (block_count l - next)) ≡ None → files_from l next ≡ []
  files_end next is none =
      count-none has_block next (block_count l - next) (λ file low high. none_of file (λ block within present same.
      let at = within_file l.per_file block is.some in
      let from : next ≤ block = omega (arith, at.0, same, low) in
      let absent = not_found (is_present l) next (block_count l - next) none block from (omega (arith, from, within)) in
      wrong (sym present ∙ absent)))
    where
      wrong : true ≡ false → ⊥
      wrong e = cc

  -- the next file is that of the next present block
  pub files_step : (next block : ℕ) → AreFiles l next →
      find (is_present l) (range_with_len next (block_count l - next)) ≡ Some block →
      files_from l next ≡ file_of l block ∷ files_from l (file_of l block + l.per_file)
  files_step next block is some =
      let first = found (is_present l) next (block_count l - next) block some in
      let p : ℕ = l.per_file in
      let file : ℕ = file_of l block in
      let at = within_file p block is.some in
      let inside : block < block_count l = omega (arith, first.from, first.to) in
      let starts : next ≤ file = begins (is.begins.0) (is.begins.1) first.from in
      let before : (k : ℕ) → next ≤ k → k < file → has_block k ≡ false = λ k low high. none_of k (λ other within present same. earlier first.least k other low high present same) in
      let behind : (k : ℕ) → file + 1 ≤ k → k < file + p → has_block k ≡ false = λ k low high. none_of k (λ other within present same.
      between p (block / p) (other / p) (omega (arith, low, same)) (omega (arith, high, same))) in
      let rest : ℕ = block_count l - file - 1 in
      let left : next + (block_count l - next) - file ≡ suc rest = omega (arith, starts, at.0, inside) in
      let ends : file + 1 + rest - (file + p) ≡ block_count l - (file + p) = omega (arith, at.0, inside) in
      filter-skip has_block next file (block_count l - next) starts before
      ∙ ap (λ n. filter has_block (range_with_len file n)) left
      ∙ ap (λ (b : Bool). cond b (file ∷ filter has_block (range_with_len (file + 1) rest)) (filter has_block (range_with_len (file + 1) rest))) (some_of block inside first.passes)
      ∙ ap (λ xs. file ∷ xs) (filter-skip has_block (file + 1) (file + p) rest (omega (arith, is.some)) behind ∙ ap (λ n. filter has_block (range_with_len (file + p) n)) ends)
    where
      -- the first file not tried begins a file, so that it is not past that of a block
      begins : (k : ℕ) → next ≡ l.per_file * k → next ≤ block → next ≤ file_of l block
      begins k e from = by_distance (k - block / l.per_file) refl
        where
          by_distance : (d : ℕ) → k - block / l.per_file ≡ d → next ≤ file_of l block
          by_distance zero none =
              let less : l.per_file * k ≤ l.per_file * (block / l.per_file) = mul-le-mul_left l.per_file (omega (arith, none)) in omega (arith, less, e)
          by_distance (suc d) more =
              let past : l.per_file * (block / l.per_file + 1) ≤ l.per_file * k = mul-le-mul_left l.per_file (omega (arith, more)) in
              let same : l.per_file * (block / l.per_file + 1) ≡ l.per_file * (block / l.per_file) + l.per_file = grind arith in
              absurd (omega (arith, past, same, e, from, (within_file l.per_file block is.some).1))

      wrong : true ≡ false → ⊥
      wrong e = cc

      earlier : ((k : ℕ) → next ≤ k → k < block → is_present l k ≡ false) → (k other : ℕ) → next ≤ k → k < file_of l block → is_present l other ≡ true → file_of l other ≡ k → ⊥
      earlier least k other low high present same = by_distance (block - other) refl
        where
          at : (l.per_file * (other / l.per_file) ≤ other) × (other < l.per_file * (other / l.per_file) + l.per_file)
          at = within_file l.per_file other is.some

          by_distance : (d : ℕ) → block - other ≡ d → ⊥
          by_distance zero past =
              between l.per_file (other / l.per_file) (block / l.per_file) (omega (arith, same, high))
              (omega (arith, at.1, past, (within_file l.per_file block is.some).0))
          by_distance (suc d) less = wrong (sym present ∙ least other (omega (arith, at.0, same, low)) (omega (arith, less)))

-- from the first block on it is all files
pub files_of_all : (l : Placing) → files_from l 0 ≡ file_numbers l
files_of_all l =
    let all : block_count l - 0 ≡ block_count l = omega arith in
    ap (λ n. filter (λ file. list_any (λ block. is_present l block && (file_of l block == file)) (range_with_len 0 (block_count l))) (range_with_len 0 n)) all

-- behind a file begins the next
pub next_begins : (l : Placing) (next block : ℕ) → AreFiles l next → AreFiles l (file_of l block + l.per_file)
next_begins l next block is =
    let one_more : file_of l block + l.per_file ≡ l.per_file * (block / l.per_file + 1) = grind arith in
    record { address = is.address; bits = is.bits; some = is.some; few = is.few; begins = (block / l.per_file + 1, one_more) }

-- a layout of the same mask, box and numbers has the same files, whatever its fields
pub files_of_same : (l : Placing) (mask : List ℕ) (region : List (ℕ × ℕ)) (bits per_file : ℕ) → mask ≡ l.mask → region ≡ l.region → bits ≡ l.bits → per_file ≡ l.per_file →
    files_from (record { mask = mask; region = region; bits = bits; per_file = per_file; sizes = [] }) 0 ≡ file_numbers l
files_of_same l mask region bits per_file a b c d =
    ap (λ (x : List ℕ). files_from (record { mask = x; region = region; bits = bits; per_file = per_file; sizes = [] }) 0) a
    ∙ ap (λ (x : List (ℕ × ℕ)). files_from (record { mask = l.mask; region = x; bits = bits; per_file = per_file; sizes = [] }) 0) b
    ∙ ap (λ (x : ℕ). files_from (record { mask = l.mask; region = l.region; bits = x; per_file = per_file; sizes = [] }) 0) c
    ∙ ap (λ (x : ℕ). files_from (record { mask = l.mask; region = l.region; bits = l.bits; per_file = x; sizes = [] }) 0) d
    ∙ files_of_all l

-- ---- the present blocks before an end
module _ (mask : List ℕ) (region : List (ℕ × ℕ)) (bits : ℕ) where
  -- the next one is the next present block, if that is before the end
  pub blocks_step : (next end block : ℕ) → find (has_point_in mask region bits) (range_with_len next (2 ^ (length mask - bits) - next)) ≡ Some block → block < end →
      filter (has_point_in mask region bits) (range_with_len next (end - next)) ≡ block ∷ filter (has_point_in mask region bits) (range_with_len (block + 1) (end - (block + 1)))
  blocks_step next end block e before =
      let p : ℕ → Bool = has_point_in mask region bits in
      let first = found p next (2 ^ (length mask - bits) - next) block e in
      let left : next + (end - next) - block ≡ suc (end - (block + 1)) = omega (arith, first.from, before) in
      filter-skip p next block (end - next) first.from first.least
      ∙ ap (λ n. filter p (range_with_len block n)) left
      ∙ ap (λ (b : Bool). cond b (block ∷ filter p (range_with_len (block + 1) (end - (block + 1)))) (filter p (range_with_len (block + 1) (end - (block + 1))))) first.passes

  -- none is left where that is past the end
  pub blocks_past : (next end block : ℕ) → find (has_point_in mask region bits) (range_with_len next (2 ^ (length mask - bits) - next)) ≡ Some block → end ≤ block →
      filter (has_point_in mask region bits) (range_with_len next (end - next)) ≡ []
  blocks_past next end block e past =
      let first = found (has_point_in mask region bits) next (2 ^ (length mask - bits) - next) block e in
      count-none (has_point_in mask region bits) next (end - next) (λ k low high. first.least k low (omega arith))

  -- or there is no present block any more
  pub blocks_end : (next end : ℕ) → bits ≤ length mask → find (has_point_in mask region bits) (range_with_len next (2 ^ (length mask - bits) - next)) ≡ None →
      filter (has_point_in mask region bits) (range_with_len next (end - next)) ≡ []
  blocks_end next end few e =
      count-none (has_point_in mask region bits) next (end - next) (λ k low high. by_rest k low (k + 1 - 2 ^ (length mask - bits)) refl)
    where
      by_rest : (k : ℕ) → next ≤ k → (d : ℕ) → k + 1 - 2 ^ (length mask - bits) ≡ d → has_point_in mask region bits k ≡ false
      by_rest k low zero within = not_found (has_point_in mask region bits) next (2 ^ (length mask - bits) - next) e k low (omega (arith, within, low))
      by_rest k low (suc d) past = absent-past mask region bits k few (omega (arith, past))
