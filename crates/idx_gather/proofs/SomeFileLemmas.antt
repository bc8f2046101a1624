-- Each step has a file.
use Rattle.std.proofs.Common.{◌≡◌, ℕ, ◌/◌, ◌^◌, ◌<◌, ◌≤◌, ◌==◌, ◌&&◌, Bool, true, false, List, length, refl, sym, ap, subst, ◌∙◌, arith, eq-eqb, zero-add}
use Rattle.std.specs.Prelude.{nat_lt, Option, Some}
use Rattle.std.specs.List.{list_any, range_with_len}
use Rattle.std.proofs.Math.Nat.{lt_of_not-le}
use Rattle.std.proofs.lemmas.Bool.{ltb-true}
use Rattle.std.proofs.lemmas.List.{length-map}
use Rattle.std.proofs.lemmas.List.FromFn.{get_or-range_with_len, length-range_with_len}
use Rattle.std.proofs.lemmas.Option.{slice_get-get_or}
use Rattle.idx_outside.specs.Files.{entry_shown, known_files, known_with, shown}
use Rattle.idx_outside.specs.declared.mem_file.MemFile.{MemFile}
use Rattle.idx_geom.specs.Region.{upper_ends}
use Rattle.idx_geom.proofs.LiesInLemmas.{LiesIn-upper_ends}
use Rattle.idx_hz.specs.Address.{hz_address}
use Rattle.idx_header.specs.Header.{HeaderValue, IsHeader}
use Rattle.idx_rowmajor.specs.declared.layout.Layout.{Layout}
use Rattle.idx_layout.specs.Placing.{Placing, block_count, file_numbers, file_of, is_present}
use Rattle.idx_layout.specs.OfHeader.{placing_of}
use Rattle.idx_layout.specs.Step.{step_file, step_files}
use Rattle.idx_layout.proofs.ListLemmas.{counted, list_any-slice_get}
use Rattle.idx_layout.proofs.PresentLemmas.{absent-past, any_point}

-- a number of a range that passes a test is found
any_in_range : (test : ℕ → Bool) (n k : ℕ) → k < n → test k ≡ true → list_any test (range_with_len 0 n) ≡ true
any_in_range test n k below passes =
    list_any-slice_get test (range_with_len 0 n) k k
    (slice_get-get_or (range_with_len 0 n) k 0 (subst (λ (m : ℕ). k < m) (sym (length-range_with_len 0 n)) below)
    ∙ ap Some (get_or-range_with_len 0 n k 0 below ∙ zero-add k))
    passes

-- a block that is present exists
present_exists : (h : HeaderValue) (block : ℕ) → IsHeader h → is_present (placing_of h) block ≡ true → block < block_count (placing_of h)
present_exists h block valid here =
    lt_of_not-le (λ past. let wrong : false ≡ true = sym (absent-past h.mask h.box h.block_bits block valid.bits_within past) ∙ here in absurd (cc))

-- the block of the address of the box's last point is present
last_present : (h : HeaderValue) → IsHeader h → is_present (placing_of h) (hz_address h.mask (upper_ends h.box) / 2 ^ h.block_bits) ≡ true
last_present h valid =
    let block : ℕ = hz_address h.mask (upper_ends h.box) / 2 ^ h.block_bits in
    any_point h.box (λ p. hz_address h.mask p / 2 ^ h.block_bits == block) (upper_ends h.box)
    (LiesIn-upper_ends h.box valid.region.ordered) (eq-eqb block block refl)

-- some file has a present block
pub some_file : (h : HeaderValue) → IsHeader h → 0 < length (file_numbers (placing_of h))
some_file h valid =
    let l : Placing = placing_of h in
    let block : ℕ = hz_address h.mask (upper_ends h.box) / 2 ^ h.block_bits in
    let here = last_present h valid in
    let exists = present_exists h block valid here in
    let begins : file_of l block ≤ block = grind arith in
    let own : (is_present l block && (file_of l block == file_of l block)) ≡ true =
    ap (λ b. b && (file_of l block == file_of l block)) here ∙ eq-eqb (file_of l block) (file_of l block) refl in
    let has : list_any (λ b. is_present l b && (file_of l b == file_of l block)) (range_with_len 0 (block_count l)) ≡ true =
    any_in_range (λ b. is_present l b && (file_of l b == file_of l block)) (block_count l) block exists own in
    let found : list_any (λ file. list_any (λ b. is_present l b && (file_of l b == file)) (range_with_len 0 (block_count l))) (range_with_len 0 (block_count l)) ≡ true =
    any_in_range (λ file. list_any (λ b. is_present l b && (file_of l b == file)) (range_with_len 0 (block_count l))) (block_count l) (file_of l block) (omega (arith, begins, exists)) has in
    let many : nat_lt 0 (length (file_numbers l)) ≡ true =
    counted (λ file. list_any (λ b. is_present l b && (file_of l b == file)) (range_with_len 0 (block_count l))) (range_with_len 0 (block_count l)) ∙ found in
    ltb-true 0 (length (file_numbers l)) many

-- so a step has a file, whatever its volume
pub some_step_file : (layout : Layout) (h : HeaderValue) (volume : List (List (List ℕ))) (step : ℕ) → IsHeader h → 0 < length (step_files layout h volume step)
some_step_file layout h volume step valid =
    subst (λ (n : ℕ). 0 < n) (sym (length-map (file_numbers (placing_of h)) (step_file layout h volume step))) (some_file h valid)

-- and so are the leaves that hold its files
pub some_leaf : {L : Type 0} (contents : L → Option (List ℕ)) (known : Option (List MemFile)) (leaves : List (List ℕ × L)) (files : List (List ℕ × List ℕ)) →
    shown contents leaves ≡ known_files known files → 0 < length files → 0 < length leaves
some_leaf contents known leaves files same some =
    let many : length leaves ≡ length files =
    sym (length-map leaves (entry_shown contents)) ∙ ap length same ∙ length-map files (entry_shown (known_with known)) in
    subst (λ (n : ℕ). 0 < n) (sym many) some
