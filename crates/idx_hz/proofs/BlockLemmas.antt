-- A block of 2^B hierarchical addresses: block 0 has the levels 0 to B, and each other block is a part of one level, whose
-- Z addresses share their first digits.
use Rattle.std.proofs.Common.{◌≡◌, ℕ, suc, ◌+◌, ◌-◌, ◌*◌, ◌/◌, ◌^◌, ◌<◌, ◌≤◌, ◌↔◌, List, length, take, sym, ap, ◌∙◌, subst, ⊎_elim, arith}
use Rattle.std.proofs.Math.Nat.{pow-suc, div-eq_of_lt, zero-div, le-div_iff_mul-le, div-lt_iff_lt-mul, mul-add-div_right}
use Rattle.std.proofs.Math.Pow.{pow_mono}
use Rattle.std.proofs.lemmas.Bool.{cases_lt}
use Rattle.std.proofs.lemmas.Nat.{pow_pos, pow-add, shr-shr}
use Rattle.std.specs.Prelude.{EachIndex, slice_index}
use Rattle.idx_hz.specs.Mask.{HasAddress}
use Rattle.idx_hz.specs.Address.{z_address, level_at, level, hz_at, hz_address}
use Rattle.idx_hz.specs.Coordinate.{coordinate_at}
use Rattle.idx_hz.specs.Stride.{stride}
use Rattle.idx_hz.proofs.ZLemmas.{z_address-lt}
use Rattle.idx_hz.proofs.PrefixLemmas.{prefix_iff_strides}
use Rattle.idx_hz.proofs.HzLemmas.{HasLowestOne, cases_lowest_one, hz_at-zero, level_at-zero, level_at-lowest_one, hz_at-lowest_one, hz_at-in_level, level_at-from_range, odd-shifted}

-- block 0 has the addresses of level at most B
pub level_at-from_block_zero : (digits z b : ℕ) → z < 2 ^ digits → hz_at digits z / 2 ^ b ≡ 0 → level_at digits z ≤ b
level_at-from_block_zero digits z b small block = ⊎_elim
    (λ (none : z ≡ 0). let origin : level_at digits z ≡ 0 = ap (level_at digits) none ∙ level_at-zero digits in omega arith)
    (λ (one : HasLowestOne digits z). ⊎_elim
    (λ (deeper : b < suc one.above).
    let from : 2 ^ b ≤ 2 ^ one.above = pow_mono (omega arith) in
    let below : hz_at digits z < 1 * 2 ^ b = (div-lt_iff_lt-mul {k = 2 ^ b} {x = hz_at digits z} {y = 1} (pow_pos b)).0 (omega arith) in
    absurd (omega (arith, (hz_at-in_level digits z one).0)))
    (λ (fits : suc one.above ≤ b). omega (arith, level_at-lowest_one digits z one))
    (cases_lt b (suc one.above)))
    (cases_lowest_one digits z small)

-- and all of them
pub block_zero-from_level_at : (digits z b : ℕ) → z < 2 ^ digits → level_at digits z ≤ b → hz_at digits z / 2 ^ b ≡ 0
block_zero-from_level_at digits z b small low = ⊎_elim
    (λ (none : z ≡ 0). ap (λ n. n / 2 ^ b) (ap (hz_at digits) none ∙ hz_at-zero digits) ∙ zero-div (2 ^ b))
    (λ (one : HasLowestOne digits z).
    let fits : suc one.above ≤ b = omega (arith, level_at-lowest_one digits z one) in
    let to : 2 ^ suc one.above ≤ 2 ^ b = pow_mono fits in
    let below : hz_at digits z < 2 ^ b = omega (arith, (hz_at-in_level digits z one).1) in
    div-eq_of_lt below)
    (cases_lowest_one digits z small)

-- the block of an address of level B + k + 1 is 2^k and the first k digits of the Z address
pub block-at_level : (digits z b k : ℕ) → z < 2 ^ digits → level_at digits z ≡ suc (b + k) → hz_at digits z / 2 ^ b ≡ 2 ^ k + z / 2 ^ (digits - k)
block-at_level digits z b k small level = ⊎_elim
    (λ (none : z ≡ 0). let origin : level_at digits z ≡ 0 = ap (level_at digits) none ∙ level_at-zero digits in absurd (omega arith))
    (λ (one : HasLowestOne digits z).
    let above : one.above ≡ k + b = omega (arith, level_at-lowest_one digits z one) in
    let behind : digits - k ≡ suc one.zeros + b = omega (arith, one.places) in
    let front : z / 2 ^ (digits - k) ≡ one.rest / 2 ^ b =
    ap (λ n. z / 2 ^ n) behind ∙ sym (shr-shr z (suc one.zeros) b) ∙ ap (λ m. m / 2 ^ b) (ap (λ n. n / 2 ^ suc one.zeros) one.is ∙ odd-shifted one.zeros one.rest) in
    let power : 2 ^ one.above ≡ 2 ^ k * 2 ^ b = ap (λ n. 2 ^ n) above ∙ pow-add 2 k b in
    ap (λ n. n / 2 ^ b) (hz_at-lowest_one digits z one ∙ ap (λ n. n + one.rest) power)
    ∙ mul-add-div_right (pow_pos b) (2 ^ k) one.rest ∙ ap (λ n. 2 ^ k + n) (sym front))
    (cases_lowest_one digits z small)

-- a block from 1 on is a part of one level
pub level_at-from_block : (digits z b k block : ℕ) → z < 2 ^ digits → 2 ^ k ≤ block → block < 2 ^ suc k → hz_at digits z / 2 ^ b ≡ block → level_at digits z ≡ suc (b + k)
level_at-from_block digits z b k block small from to is =
    let low : 2 ^ k * 2 ^ b ≤ hz_at digits z = (le-div_iff_mul-le {k = 2 ^ b} {x = 2 ^ k} {y = hz_at digits z} (pow_pos b)).0 (omega arith) in
    let high : hz_at digits z < 2 ^ suc k * 2 ^ b = (div-lt_iff_lt-mul {k = 2 ^ b} {x = hz_at digits z} {y = 2 ^ suc k} (pow_pos b)).0 (omega arith) in
    let shift : suc k + b ≡ suc (k + b) = omega arith in
    let upper : hz_at digits z < 2 ^ suc (k + b) = rw (← shift, pow-add 2 (suc k) b) high in
    let level : k + b ≡ b + k = omega arith in
    subst (λ n. level_at digits z ≡ suc n) level
    (level_at-from_range digits z (k + b) small (rw (pow-add 2 k b) low) upper)

-- the Z addresses of a block are those of its level whose first k digits are the block's behind its highest 1
pub block_iff_prefix : (digits z b k block : ℕ) → z < 2 ^ digits → 2 ^ k ≤ block → block < 2 ^ suc k → (hz_at digits z / 2 ^ b ≡ block) ↔ ((level_at digits z ≡ suc (b + k)) × (z / 2 ^ (digits - k) ≡ block - 2 ^ k))
block_iff_prefix digits z b k block small from to = (
  λ is. let level : level_at digits z ≡ suc (b + k) = level_at-from_block digits z b k block small from to is in (level, omega (arith, block-at_level digits z b k small level)),
  λ both. omega (arith, block-at_level digits z b k small both.0),
)

-- ---- points

-- block 0 has the points of level at most B
pub block_zero_iff_level : (mask p : List ℕ) (b : ℕ) → (hz_address mask p / 2 ^ b ≡ 0) ↔ (level mask p ≤ b)
block_zero_iff_level mask p b = (
  level_at-from_block_zero (length mask) (z_address mask p) b (z_address-lt mask p),
  block_zero-from_level_at (length mask) (z_address mask p) b (z_address-lt mask p),
)

-- a block of k + 1 binary digits has the points of its level in a box
pub block_iff_box : (mask p : List ℕ) (b k block : ℕ) → HasAddress mask p → k ≤ length mask → 2 ^ k ≤ block → block < 2 ^ suc k → (hz_address mask p / 2 ^ b ≡ block) ↔ ((level mask p ≡ suc (b + k)) × EachIndex p (λ axis. slice_index p axis / stride mask k axis ≡ coordinate_at (take k mask) axis (block - 2 ^ k)))
block_iff_box mask p b k block has fits from to =
    let double : 2 ^ suc k ≡ 2 ^ k * 2 = pow-suc 2 k in
    let box = prefix_iff_strides mask p k (block - 2 ^ k) has fits (omega arith) in
    let part = block_iff_prefix (length mask) (z_address mask p) b k block (z_address-lt mask p) from to in
    (λ is. ((part.0 is).0, box.0 (part.0 is).1), λ both. part.1 (both.0, box.1 both.1))
