-- Which blocks hold a point of the levels that are asked for.
use Rattle.std.proofs.Common.{◌≡◌, ℕ, zero, suc, ◌+◌, ◌-◌, ◌/◌, ◌^◌, ◌<◌, ◌≤◌, ◌↔◌, Bool, true, false, ◌&&◌, eqb, leb, ltb, List, sym, ap, ◌∙◌, ⊎_elim, arith}
use Rattle.std.proofs.lemmas.Bool.{and_parts, eqb-true, eq-eqb, leb-true, le-leb, ltb-true, lt-ltb, cases_lt}
use Rattle.std.proofs.lemmas.Nat.{pow_pos, shr-shr}
use Rattle.std.proofs.Math.Nat.{div-eq_of_lt, div-lt_iff_lt-mul}
use Rattle.idx_hz.specs.Address.{level, hz_address}
use Rattle.idx_hz.specs.Answer.{has_level}
use Rattle.idx_hz.proofs.BlockLemmas.{block_zero_iff_level}
use Rattle.idx_layout.proofs.ListLemmas.{same_tests}

-- a number whose quotient is 0 is below the divisor
below_divisor : (x n : ℕ) → 0 < n → x / n ≡ 0 → x < n
below_divisor x n some none = omega (arith, (div-lt_iff_lt-mul {k = n} {x = x} {y = 1} some).0 (omega arith))

-- of the points outside block 0 those of level at most h are those in the blocks before 2^(h - bits)
pub level_iff_block : (mask p : List ℕ) (bits h : ℕ) → 1 ≤ hz_address mask p / 2 ^ bits → (level mask p ≤ h) ↔ (hz_address mask p / 2 ^ bits < 2 ^ (h - bits))
level_iff_block mask p bits h later = ⊎_elim
    (λ (below : h < bits).
    let nothing : h - bits ≡ 0 = omega arith in
    let none : 2 ^ (h - bits) ≡ 1 = ap (λ n. 2 ^ n) nothing in (
      λ low. absurd (omega (arith, later, (block_zero_iff_level mask p bits).1 (omega arith))),
      λ small. absurd (omega (arith, later, small, none)),
    ))
    (λ (above : bits ≤ h).
    let split : bits + (h - bits) ≡ h = omega arith in
    let front : hz_address mask p / 2 ^ bits / 2 ^ (h - bits) ≡ hz_address mask p / 2 ^ h =
    shr-shr (hz_address mask p) bits (h - bits) ∙ ap (λ n. hz_address mask p / 2 ^ n) split in (
      λ low. below_divisor (hz_address mask p / 2 ^ bits) (2 ^ (h - bits)) (pow_pos (h - bits)) (front ∙ (block_zero_iff_level mask p h).1 low),
      λ small. (block_zero_iff_level mask p h).0 (sym front ∙ div-eq_of_lt small),
    ))
    (cases_lt h bits)

-- those of level at least lo are those in the blocks from 2^(lo - 1 - bits) on
pub level_from_iff_block : (mask p : List ℕ) (bits lo : ℕ) → 1 ≤ hz_address mask p / 2 ^ bits → (lo ≤ level mask p) ↔ (2 ^ (lo - 1 - bits) ≤ hz_address mask p / 2 ^ bits)
level_from_iff_block mask p bits zero later =
    let nothing : 0 - 1 - bits ≡ 0 = omega arith in
    let one : 2 ^ (0 - 1 - bits) ≡ 1 = ap (λ n. 2 ^ n) nothing in (λ low. omega (arith, one, later), λ from. omega arith)
level_from_iff_block mask p bits (suc l) later =
    let coarser = level_iff_block mask p bits l later in
    let shift : suc l - 1 - bits ≡ l - bits = omega arith in
    let power : 2 ^ (suc l - 1 - bits) ≡ 2 ^ (l - bits) = ap (λ n. 2 ^ n) shift in (
      λ low. ⊎_elim
          (λ (less : hz_address mask p / 2 ^ bits < 2 ^ (l - bits)). absurd (omega (arith, low, coarser.1 less)))
          (λ (from : 2 ^ (l - bits) ≤ hz_address mask p / 2 ^ bits). omega (arith, power, from))
          (cases_lt (hz_address mask p / 2 ^ bits) (2 ^ (l - bits))),
      λ from. ⊎_elim
          (λ (less : level mask p < suc l). absurd (omega (arith, power, from, coarser.0 (omega arith))))
          (λ (low : suc l ≤ level mask p). low)
          (cases_lt (level mask p) (suc l)),
    )

-- ---- tests

-- a block of the levels lo to hi, block 0 apart
abbrev pub is_between : ℕ → ℕ → ℕ → ℕ → Bool
is_between bits lo hi block = leb (2 ^ (lo - 1 - bits)) block && ltb block (2 ^ (hi - bits))

both : (a b : Bool) → a ≡ true → b ≡ true → (a && b) ≡ true
both true b x y = y
both false b x y = x

-- in a block from 1 on a point has such a level where the block has
pub test_in_block : (mask p : List ℕ) (bits lo hi block : ℕ) → 1 ≤ block → (has_level mask lo hi p && eqb (hz_address mask p / 2 ^ bits) block) ≡ (is_between bits lo hi block && eqb (hz_address mask p / 2 ^ bits) block)
test_in_block mask p bits lo hi block later = same_tests _ _
    (λ e.
    let parts = and_parts (has_level mask lo hi p) (eqb (hz_address mask p / 2 ^ bits) block) e in
    let levels = and_parts (leb lo (level mask p)) (leb (level mask p) hi) parts.0 in
    let here : hz_address mask p / 2 ^ bits ≡ block = eqb-true (hz_address mask p / 2 ^ bits) block parts.1 in
    let some : 1 ≤ hz_address mask p / 2 ^ bits = omega (arith, here) in
    let from = (level_from_iff_block mask p bits lo some).0 (leb-true lo (level mask p) levels.0) in
    let to = (level_iff_block mask p bits hi some).0 (leb-true (level mask p) hi levels.1) in
    both (is_between bits lo hi block) _
    (both (leb (2 ^ (lo - 1 - bits)) block) _ (le-leb (2 ^ (lo - 1 - bits)) block (omega (arith, from, here))) (lt-ltb block (2 ^ (hi - bits)) (omega (arith, to, here))))
    parts.1)
    (λ e.
    let parts = and_parts (is_between bits lo hi block) (eqb (hz_address mask p / 2 ^ bits) block) e in
    let ends = and_parts (leb (2 ^ (lo - 1 - bits)) block) (ltb block (2 ^ (hi - bits))) parts.0 in
    let here : hz_address mask p / 2 ^ bits ≡ block = eqb-true (hz_address mask p / 2 ^ bits) block parts.1 in
    let some : 1 ≤ hz_address mask p / 2 ^ bits = omega (arith, here) in
    let from : 2 ^ (lo - 1 - bits) ≤ hz_address mask p / 2 ^ bits = omega (arith, here, leb-true (2 ^ (lo - 1 - bits)) block ends.0) in
    let to : hz_address mask p / 2 ^ bits < 2 ^ (hi - bits) = omega (arith, here, ltb-true block (2 ^ (hi - bits)) ends.1) in
    both (has_level mask lo hi p) _
    (both (leb lo (level mask p)) _ (le-leb lo (level mask p) ((level_from_iff_block mask p bits lo some).1 from)) (le-leb (level mask p) hi ((level_iff_block mask p bits hi some).1 to)))
    parts.1)

-- in block 0 a point has a level of at most `bits`
pub test_in_first_block : (mask p : List ℕ) (bits lo hi : ℕ) → (has_level mask lo hi p && eqb (hz_address mask p / 2 ^ bits) 0) ≡ (has_level mask lo hi p && leb (level mask p) bits)
test_in_first_block mask p bits lo hi = ap (λ b. has_level mask lo hi p && b) (same_tests _ _
    (λ e. le-leb (level mask p) bits ((block_zero_iff_level mask p bits).0 (eqb-true (hz_address mask p / 2 ^ bits) 0 e)))
    (λ e. eq-eqb (hz_address mask p / 2 ^ bits) 0 ((block_zero_iff_level mask p bits).1 (leb-true (level mask p) bits e))))
