-- The points of a block: those of its levels in a box.
use Rattle.std.proofs.Common.{◌≡◌, ℕ, suc, ◌+◌, ◌-◌, ◌*◌, ◌/◌, ◌^◌, ◌<◌, ◌≤◌, ◌↔◌, List, length, sym, ap, ◌∙◌, ⊎_elim, subst, arith}
use Rattle.std.specs.Int.Count.{count_leading_zeros}
use Rattle.std.proofs.Math.Nat.{pow-suc, div-eq_of_lt, mul-le-mul_right}
use Rattle.std.proofs.lemmas.Bool.{cases_lt}
use Rattle.std.proofs.lemmas.Nat.{pow_pos, pow-add, mul-add-lt}
use Rattle.idx_hz.specs.Mask.{HasAddress}
use Rattle.idx_hz.specs.Address.{z_address, level}
use Rattle.idx_hz.proofs.BlockLemmas.{block_iff_prefix, block_zero_iff_level}
use Rattle.idx_hz.proofs.HzLemmas.{HasDigits}
use Rattle.idx_hz.proofs.ShiftLemmas.{HasDigits-count_leading_zeros, HasDigits-le}
use Rattle.idx_hz.proofs.ZLemmas.{z_address-lt}
use Rattle.idx_grid.specs.Block.{IsInBlock, HasPrefix}

-- ---- the highest 1 of a number

-- a number of so many digits whose word has so many leading zeros
pub record IsHighestOne (n digits zeros : ℕ) : Type 0 where
  pub more : 64 ≤ zeros + digits
  pub some : zeros < 64
  pub from : 2 ^ (63 - zeros) ≤ n
  pub to : n < 2 ^ suc (63 - zeros)

pub IsHighestOne-leading : (n digits : ℕ) → 1 ≤ n → digits ≤ 64 → n < 2 ^ digits → n < 2 ^ 64 → IsHighestOne n digits (count_leading_zeros 64 n)
IsHighestOne-leading n digits some few small word =
    let zeros : ℕ = count_leading_zeros 64 n in
    let has : HasDigits (64 - zeros) n = HasDigits-count_leading_zeros 64 n word in
    let inside : zeros < 64 = ⊎_elim
    (λ (none : 64 - zeros < 1). let nothing : 64 - zeros ≡ 0 = omega arith in let one : 2 ^ (64 - zeros) ≡ 2 ^ 0 = ap (λ m. 2 ^ m) nothing in absurd (omega (arith, has.enough)))
    (λ (any : 1 ≤ 64 - zeros). omega arith)
    (cases_lt (64 - zeros) 1) in
    let next : 64 - zeros ≡ suc (63 - zeros) = omega arith in
    let double : 2 ^ (64 - zeros) ≡ 2 ^ (63 - zeros) * 2 = ap (λ m. 2 ^ m) next ∙ pow-suc 2 (63 - zeros) in
    record {
      more = omega (arith, HasDigits-le digits (64 - zeros) n has small);
      some = inside;
      from = omega (arith, has.needed);
      to = subst (λ m. n < 2 ^ m) next has.enough;
    }

-- ---- blocks

-- block 0 has the points of its levels
pub first_block_iff : (mask p : List ℕ) (axes bits block : ℕ) (R L : Type 0) → block ≡ 0 → (R ↔ HasPrefix mask axes 0 0 p) → (length p ≡ axes → HasAddress mask p → (level mask p ≤ bits) ↔ L) → IsInBlock mask axes bits block p ↔ (R × L)
first_block_iff mask p axes bits block R L first box grid = (
  λ here.
      let none : length mask - 0 ≡ length mask = omega arith in
      let prefix : z_address mask p / 2 ^ (length mask - 0) ≡ 0 = ap (λ n. z_address mask p / 2 ^ n) none ∙ div-eq_of_lt (z_address-lt mask p) in (
        box.1 (record { size = here.size; has = here.has; prefix = prefix }),
        (grid here.size here.has).0 ((block_zero_iff_level mask p bits).0 (here.address ∙ first)),
      ),
  λ both.
      let inside : HasPrefix mask axes 0 0 p = box.0 both.0 in
      record {
        size = inside.size;
        has = inside.has;
        address = (block_zero_iff_level mask p bits).1 ((grid inside.size inside.has).1 both.1) ∙ sym first;
      },
)

-- every other block has the points of one level whose Z addresses begin with the digits behind its highest 1
pub other_block_iff : (mask p : List ℕ) (axes bits k block h : ℕ) (R L : Type 0) → h ≡ suc (bits + k) → 2 ^ k ≤ block → block < 2 ^ suc k → (R ↔ HasPrefix mask axes k (block - 2 ^ k) p) → (length p ≡ axes → HasAddress mask p → (level mask p ≡ h) ↔ L) → IsInBlock mask axes bits block p ↔ (R × L)
other_block_iff mask p axes bits k block h R L is from to box grid =
    let parts = block_iff_prefix (length mask) (z_address mask p) bits k block (z_address-lt mask p) from to in (
      λ here.
          let both = parts.0 here.address in
          (box.1 (record { size = here.size; has = here.has; prefix = both.1 }), (grid here.size here.has).0 (both.0 ∙ sym is)),
      λ both.
          let inside : HasPrefix mask axes k (block - 2 ^ k) p = box.0 both.0 in
          record {
            size = inside.size;
            has = inside.has;
            address = parts.1 ((grid inside.size inside.has).1 both.1 ∙ is, inside.prefix);
          },
    )

-- the addresses of a block are those of its level
pub level_of_block : (bits k block h : ℕ) → h ≡ suc (bits + k) → 2 ^ k ≤ block → block < 2 ^ suc k → (2 ^ (h - 1) ≤ block * 2 ^ bits) × (block * 2 ^ bits < 2 ^ h)
level_of_block bits k block h is from to =
    let lower : h - 1 ≡ k + bits = omega arith in
    let upper : h ≡ suc k + bits = omega arith in (
      omega (arith, ap (λ n. 2 ^ n) lower, pow-add 2 k bits, mul-le-mul_right (2 ^ bits) from),
      omega (arith, ap (λ n. 2 ^ n) upper, pow-add 2 (suc k) bits, mul-add-lt block (2 ^ bits) 0 (2 ^ suc k) to (pow_pos bits)),
    )

-- the digits behind a block's highest 1
pub front-lt : (k block : ℕ) → block < 2 ^ suc k → 2 ^ k ≤ block → block - 2 ^ k < 2 ^ k
front-lt k block to from = omega (arith, pow-suc 2 k)

-- the levels of a block's points
pub level-from_first_block : (mask p : List ℕ) (axes bits block : ℕ) → block ≡ 0 → IsInBlock mask axes bits block p → level mask p ≤ bits
level-from_first_block mask p axes bits block first here = (block_zero_iff_level mask p bits).0 (here.address ∙ first)

pub level-from_other_block : (mask p : List ℕ) (axes bits k block h : ℕ) → h ≡ suc (bits + k) → 2 ^ k ≤ block → block < 2 ^ suc k → IsInBlock mask axes bits block p → level mask p ≡ h
level-from_other_block mask p axes bits k block h is from to here =
    ((block_iff_prefix (length mask) (z_address mask p) bits k block (z_address-lt mask p) from to).0 here.address).0 ∙ sym is
