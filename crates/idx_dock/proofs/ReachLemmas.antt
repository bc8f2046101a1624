-- A region has a point in a file exactly where some address of the file is that of one of its points.
use Rattle.std.proofs.Common.{◌≡◌, ℕ, zero, suc, ◌+◌, ◌*◌, ◌/◌, ◌%◌, ◌^◌, ◌<◌, ◌≤◌, Bool, true, false, List, refl, ap, arith, eqb-true, eq-eqb}
use Rattle.std.specs.Prelude.{◌==◌, ◌||◌}
use Rattle.std.specs.List.{list_any, range_with_len}
use Rattle.std.proofs.Math.Nat.{div-lt_iff_lt-mul, le-div_iff_mul-le, mod-add-div', mod-lt, mul-le-mul_right}
use Rattle.std.proofs.lemmas.Nat.{pow_pos}
use Rattle.idx_hz.specs.Address.{hz_address}
use Rattle.idx_header.specs.Header.{HeaderValue}
use Rattle.idx_layout.specs.Placing.{has_point_in}
use Rattle.idx_layout.proofs.ListLemmas.{same_tests}
use Rattle.idx_layout.proofs.PresentLemmas.{any_point, point_found}
use Rattle.idx_pieces.specs.Runs.{file_addresses, has_address}
use Rattle.idx_dock.specs.Dock.{reaches}
use Rattle.idx_dock.proofs.CompleteLemmas.{any_range}

range_found : (test : ℕ → Bool) (a n : ℕ) → list_any test (range_with_len a n) ≡ true → (k : ℕ) × (a ≤ k) × (k < a + n) × (test k ≡ true)
range_found test a zero some = let wrong : false ≡ true = some in absurd (cc)
range_found test a (suc n) some = by_test (test a) refl some (λ more. range_found test (a + 1) n more)
  where
    by_test : (b : Bool) → test a ≡ b → (b || list_any test (range_with_len (a + 1) n)) ≡ true →
        (list_any test (range_with_len (a + 1) n) ≡ true → (k : ℕ) × (a + 1 ≤ k) × (k < a + 1 + n) × (test k ≡ true)) → (k : ℕ) × (a ≤ k) × (k < a + suc n) × (test k ≡ true)
    by_test true is some more = (a, omega arith, omega arith, is)
    by_test false is some more = let found = more some in (found.0, omega (arith, found.1), omega (arith, found.2), found.3)

-- the address in a block, by the block
in_file : (m file per address block : ℕ) → 0 < m → address / m ≡ block → file ≤ block → block < file + per → (file * m ≤ address) × (address < file * m + per * m)
in_file m file per address block some at from to =
    let parts : address % m + address / m * m ≡ address = mod-add-div' address m in
    let product : address / m * m ≡ block * m = ap (λ n. n * m) at in
    let rest : address % m < m = mod-lt address some in
    let low : file * m ≤ block * m = mul-le-mul_right m from in
    let next : block + 1 ≤ file + per = omega arith in
    let high : (block + 1) * m ≤ (file + per) * m = mul-le-mul_right m next in
    (omega arith, omega arith)

-- the block of an address in a file
block_in : (m file per address : ℕ) → 0 < m → file * m ≤ address → address < file * m + per * m → (file ≤ address / m) × (address / m < file + per)
block_in m file per address some low high =
    let whole : address < (file + per) * m = omega arith in
    ((le-div_iff_mul-le some).1 low, (div-lt_iff_lt-mul some).1 whole)

pub reaches_addresses : (h : HeaderValue) (region : List (ℕ × ℕ)) (file : ℕ) → reaches h region file ≡ list_any (has_address h.mask region) (file_addresses h file)
reaches_addresses h region file = same_tests (reaches h region file) (list_any (has_address h.mask region) (file_addresses h file)) there back
  where
    m : ℕ
    m = 2 ^ h.block_bits

    there : reaches h region file ≡ true → list_any (has_address h.mask region) (file_addresses h file) ≡ true
    there some =
        let block = range_found (has_point_in h.mask region h.block_bits) file h.blocks_per_file some in
        let p = point_found region (λ p. hz_address h.mask p / m == block.0) block.3 in
        let bounds = in_file m file h.blocks_per_file (hz_address h.mask p.0) block.0 (pow_pos h.block_bits) (eqb-true (hz_address h.mask p.0 / m) block.0 p.2) block.1 block.2 in
        any_range (has_address h.mask region) (file * m) (h.blocks_per_file * m) (hz_address h.mask p.0) bounds.0 bounds.1
        (any_point region (λ q. hz_address h.mask q == hz_address h.mask p.0) p.0 p.1 (eq-eqb (hz_address h.mask p.0) (hz_address h.mask p.0) refl))

    back : list_any (has_address h.mask region) (file_addresses h file) ≡ true → reaches h region file ≡ true
    back some =
        let address = range_found (has_address h.mask region) (file * m) (h.blocks_per_file * m) some in
        let p = point_found region (λ p. hz_address h.mask p == address.0) address.3 in
        let bounds = block_in m file h.blocks_per_file address.0 (pow_pos h.block_bits) address.1 address.2 in
        let at : hz_address h.mask p.0 / m ≡ address.0 / m = ap (λ n. n / m) (eqb-true (hz_address h.mask p.0) address.0 p.2) in
        any_range (has_point_in h.mask region h.block_bits) file h.blocks_per_file (address.0 / m) bounds.0 bounds.1
        (any_point region (λ q. hz_address h.mask q / m == address.0 / m) p.0 p.1 (eq-eqb (hz_address h.mask p.0 / m) (address.0 / m) at))
