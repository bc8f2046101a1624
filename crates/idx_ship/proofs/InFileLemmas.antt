-- The addresses of a region in a file, block by block, and those of block 0 level by level.
use Rattle.std.proofs.Common.{◌≡◌, ℕ, zero, suc, ◌+◌, ◌-◌, ◌*◌, ◌^◌, ◌<◌, ◌≤◌, Bool, true, false, cond, List, ◌∷◌, ◌++◌, length, refl, sym, ap, ◌∙◌, arith, inl, inr}
use Rattle.std.specs.Prelude.{filter}
use Rattle.std.specs.List.{flat_map, range_with_len, AllByRecursion}
use Rattle.std.proofs.lemmas.Bool.{cases_lt}
use Rattle.std.proofs.lemmas.List.Elements.{filter-append}
use Rattle.idx_layout.specs.Placing.{has_point_in}
use Rattle.idx_layout.proofs.ListLemmas.{range-split}
use Rattle.idx_layout.proofs.PresentLemmas.{absent-past}
use Rattle.idx_pieces.specs.Runs.{has_address}
use Rattle.idx_ship.specs.Spans.{block_addresses}
use Rattle.idx_ship.proofs.CutLemmas.{absent_block, halves}

-- block 0 with one level more
pub level_more : (mask : List ℕ) (region : List (ℕ × ℕ)) (level : ℕ) →
    block_addresses mask region (level + 1) 0 ≡ block_addresses mask region level 0 ++ block_addresses mask region level 1
level_more mask region level =
    let back : level + 1 - 1 ≡ level = omega arith in
    let some : 1 ≤ level + 1 = omega arith in
    halves mask region (level + 1) 0 some ∙ ap (λ n. block_addresses mask region n 0 ++ block_addresses mask region n 1) back

-- the addresses in a file are those in its present blocks
pub file_blocks : (mask : List ℕ) (region : List (ℕ × ℕ)) (bits file per_file : ℕ) →
    flat_map (block_addresses mask region bits) (filter (has_point_in mask region bits) (range_with_len file per_file))
    ≡ filter (has_address mask region) (range_with_len (file * 2 ^ bits) (per_file * 2 ^ bits))
file_blocks mask region bits file zero =
    let none : 0 ≡ 0 * 2 ^ bits = omega arith in
    ap (λ n. filter (has_address mask region) (range_with_len (file * 2 ^ bits) n)) none
file_blocks mask region bits file (suc per_file) = by_test (file_blocks mask region bits (file + 1) per_file) (has_point_in mask region bits file) refl
  where
    n : ℕ
    n = 2 ^ bits

    test : ℕ → Bool
    test = has_address mask region

    left : List ℕ
    left = filter (has_point_in mask region bits) (range_with_len (file + 1) per_file)

    rest : (flat_map (block_addresses mask region bits) left ≡ filter test (range_with_len ((file + 1) * n) (per_file * n))) → block_addresses mask region bits file ++ flat_map (block_addresses mask region bits) left ≡ filter test (range_with_len (file * n) (suc per_file * n))
    rest more =
        let whole : suc per_file * 2 ^ bits ≡ 2 ^ bits + per_file * 2 ^ bits = grind arith in
        let next : (file + 1) * 2 ^ bits ≡ file * 2 ^ bits + 2 ^ bits = grind arith in
        ap (λ xs. block_addresses mask region bits file ++ xs) more
        ∙ ap (λ a. block_addresses mask region bits file ++ filter (has_address mask region) (range_with_len a (per_file * 2 ^ bits))) next
        ∙ sym (filter-append (has_address mask region) (range_with_len (file * 2 ^ bits) (2 ^ bits)) (range_with_len (file * 2 ^ bits + 2 ^ bits) (per_file * 2 ^ bits)))
        ∙ ap (filter (has_address mask region)) (sym (range-split (file * 2 ^ bits) (2 ^ bits) (per_file * 2 ^ bits)))
        ∙ ap (λ m. filter (has_address mask region) (range_with_len (file * 2 ^ bits) m)) (sym whole)

    by_test : (flat_map (block_addresses mask region bits) left ≡ filter test (range_with_len ((file + 1) * n) (per_file * n))) → (b : Bool) → has_point_in mask region bits file ≡ b →
        flat_map (block_addresses mask region bits) (cond (has_point_in mask region bits file) (file ∷ left) left) ≡ filter test (range_with_len (file * n) (suc per_file * n))
    by_test more true is = ap (λ (b : Bool). flat_map (block_addresses mask region bits) (cond b (file ∷ left) left)) is ∙ rest more
    by_test more false is =
        ap (λ (b : Bool). flat_map (block_addresses mask region bits) (cond b (file ∷ left) left)) is
        ∙ ap (λ xs. xs ++ flat_map (block_addresses mask region bits) left) (sym (absent_block mask region bits file is))
        ∙ rest more

-- blocks with a point exist
pub blocks_exist : (mask : List ℕ) (region : List (ℕ × ℕ)) (bits a n : ℕ) → bits ≤ length mask →
    AllByRecursion (λ block. block < 2 ^ (length mask - bits)) (filter (has_point_in mask region bits) (range_with_len a n))
blocks_exist mask region bits a zero within = tt
blocks_exist mask region bits a (suc n) within = by_test (has_point_in mask region bits a) refl (blocks_exist mask region bits (a + 1) n within)
  where
    rest : List ℕ
    rest = filter (has_point_in mask region bits) (range_with_len (a + 1) n)

    below : has_point_in mask region bits a ≡ true → a < 2 ^ (length mask - bits)
    below here = elim (cases_lt a (2 ^ (length mask - bits))) [
      | inl less ↦ less
      | inr past ↦ let wrong : true ≡ false = sym here ∙ absent-past mask region bits a within past in absurd (cc)
    ]

    by_test : (b : Bool) → has_point_in mask region bits a ≡ b → AllByRecursion (λ block. block < 2 ^ (length mask - bits)) rest →
        AllByRecursion (λ block. block < 2 ^ (length mask - bits)) (cond b (a ∷ rest) rest)
    by_test true here more = (below here, more)
    by_test false here more = more
