-- A region has a point in a file exactly where the file is one of those in which its points have their addresses.
use Rattle.std.proofs.Common.{◌≡◌, ℕ, zero, suc, ◌+◌, ◌-◌, ◌*◌, ◌/◌, ◌%◌, ◌<◌, ◌≤◌, Bool, true, false, cond, List, [], ◌∷◌, refl, sym, ap, ◌∙◌, arith, inl, inr, eqb-true, eq-eqb}
use Rattle.std.specs.Prelude.{◌==◌, ◌&&◌, ◌||◌, Contains, filter}
use Rattle.std.specs.List.{list_any, range_with_len}
use Rattle.std.proofs.Math.Nat.{mod-add-div', mod-lt}
use Rattle.std.proofs.lemmas.Bool.{and_from, and_parts, cases_lt}
use Rattle.std.proofs.lemmas.Nat.{div-mul-add}
use Rattle.std.proofs.lemmas.List.Elements.{All-contains, filter_passes}
use Rattle.idx_header.specs.Header.{HeaderValue, IsHeader}
use Rattle.idx_layout.specs.Placing.{Placing, block_count, file_numbers, file_of, has_point_in, is_present}
use Rattle.idx_layout.specs.OfHeader.{placing_of}
use Rattle.idx_layout.proofs.ListLemmas.{same_tests}
use Rattle.idx_layout.proofs.PresentLemmas.{absent-past}
use Rattle.idx_ship.specs.Shipments.{files_in, placing_in}
use Rattle.idx_dock.specs.Dock.{reaches}
use Rattle.idx_dock.proofs.CompleteLemmas.{any_range}

-- an item that passes is found in a range
range_found : (test : ℕ → Bool) (a n : ℕ) → list_any test (range_with_len a n) ≡ true → (k : ℕ) × (a ≤ k) × (k < a + n) × (test k ≡ true)
range_found test a zero some = let wrong : false ≡ true = some in absurd (cc)
range_found test a (suc n) some = by_test (test a) refl some (λ more. range_found test (a + 1) n more)
  where
    by_test : (b : Bool) → test a ≡ b → (b || list_any test (range_with_len (a + 1) n)) ≡ true →
        (list_any test (range_with_len (a + 1) n) ≡ true → (k : ℕ) × (a + 1 ≤ k) × (k < a + 1 + n) × (test k ≡ true)) → (k : ℕ) × (a ≤ k) × (k < a + suc n) × (test k ≡ true)
    by_test true is some more = (a, omega arith, omega arith, is)
    by_test false is some more = let found = more some in (found.0, omega (arith, found.1), omega (arith, found.2), found.3)

-- some item passes both tests where one of those that pass the first passes the other
pub any_kept : {X : Type 0} (test other : X → Bool) (xs : List X) → list_any other (filter test xs) ≡ list_any (λ x. test x && other x) xs
any_kept test other [] = refl
any_kept {X = X} test other (x ∷ xs) = by_test (test x) (any_kept test other xs)
  where
    by_test : (b : Bool) → list_any other (filter test xs) ≡ list_any (λ x. test x && other x) xs →
        list_any other (cond b (x ∷ filter test xs) (filter test xs)) ≡ ((b && other x) || list_any (λ x. test x && other x) xs)
    by_test true rest = ap (λ b. other x || b) rest
    by_test false rest = rest

-- the file of a block
file_is : (m block k : ℕ) → 0 < m → m * k ≤ block → block < m * k + m → m * (block / m) ≡ m * k
file_is m block k some from to =
    let parts : block ≡ k * m + (block - k * m) = omega arith in
    ap (λ n. m * n) (ap (λ n. n / m) parts ∙ div-mul-add k m (block - k * m) (omega arith))

-- a block stands in its file
in_its_file : (m block : ℕ) → 0 < m → (m * (block / m) ≤ block) × (block < m * (block / m) + m)
in_its_file m block some =
    let parts : block % m + block / m * m ≡ block = mod-add-div' block m in
    let rest : block % m < m = mod-lt block some in
    (omega arith, omega arith)

-- a file begins with a multiple of the number of its blocks
pub begins_at : (h : HeaderValue) (file : ℕ) → Contains (file_numbers (placing_of h)) file → (k : ℕ) × (file ≡ h.blocks_per_file * k)
begins_at h file among =
    let l : Placing = placing_of h in
    let test : ℕ → Bool = λ file. list_any (λ block. is_present l block && (file_of l block == file)) (range_with_len 0 (block_count l)) in
    let some : test file ≡ true = All-contains (λ file. test file ≡ true) (file_numbers l) file (filter_passes test (range_with_len 0 (block_count l))) among in
    let found = range_found (λ block. is_present l block && (file_of l block == file)) 0 (block_count l) some in
    let both = and_parts (is_present l found.0) (file_of l found.0 == file) found.3 in
    (found.0 / l.per_file, sym (eqb-true (file_of l found.0) file both.1))

pub reaches_files : (h : HeaderValue) (region : List (ℕ × ℕ)) (file k : ℕ) → IsHeader h → file ≡ h.blocks_per_file * k →
    reaches h region file ≡ list_any (λ f. f == file) (files_in h region)
reaches_files h region file k is begins =
    same_tests (reaches h region file) (list_any (λ f. f == file) (files_in h region)) there back
  where
    l : Placing
    l = placing_in h region

    of : ℕ → ℕ → Bool
    of file block = is_present l block && (file_of l block == file)

    test : ℕ → Bool
    test file = list_any (of file) (range_with_len 0 (block_count l))

    exists : (block : ℕ) → is_present l block ≡ true → block < block_count l
    exists block here =
        elim (cases_lt block (block_count l)) [
          | inl less ↦ less
          | inr past ↦ let wrong : true ≡ false = sym here ∙ absent-past h.mask region h.block_bits block is.bits_within past in absurd (cc)
        ]

    there : reaches h region file ≡ true → list_any (λ f. f == file) (files_in h region) ≡ true
    there some =
        let found = range_found (has_point_in h.mask region h.block_bits) file h.blocks_per_file some in
        let block : ℕ = found.0 in
        let less : block < block_count l = exists block found.3 in
        let named : file_of l block ≡ file = file_is h.blocks_per_file block k (omega (arith, is.blocks_some)) (omega (arith, found.1, begins)) (omega (arith, found.2, begins)) ∙ sym begins in
        let tested : test file ≡ true = any_range (of file) 0 (block_count l) block (omega arith) (omega arith) (and_from (is_present l block) (file_of l block == file) found.3 (eq-eqb (file_of l block) file named)) in
        any_kept test (λ f. f == file) (range_with_len 0 (block_count l))
        ∙ any_range (λ f. test f && (f == file)) 0 (block_count l) file (omega arith) (omega (arith, found.1)) (and_from (test file) (file == file) tested (eq-eqb file file refl))

    back : list_any (λ f. f == file) (files_in h region) ≡ true → reaches h region file ≡ true
    back some =
        let one = range_found (λ f. test f && (f == file)) 0 (block_count l) (sym (any_kept test (λ f. f == file) (range_with_len 0 (block_count l))) ∙ some) in
        let two = and_parts (test one.0) (one.0 == file) one.3 in
        let found = range_found (of one.0) 0 (block_count l) two.0 in
        let both = and_parts (is_present l found.0) (file_of l found.0 == one.0) found.3 in
        let named : h.blocks_per_file * (found.0 / h.blocks_per_file) ≡ file = eqb-true (file_of l found.0) one.0 both.1 ∙ eqb-true one.0 file two.1 in
        let within = in_its_file h.blocks_per_file found.0 (omega (arith, is.blocks_some)) in
        any_range (has_point_in h.mask region h.block_bits) file h.blocks_per_file found.0 (omega (arith, within.0, named)) (omega (arith, within.1, named)) both.0
