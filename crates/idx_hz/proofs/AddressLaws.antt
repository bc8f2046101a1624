-- Hierarchical addresses are one to one from the points below a mask's size onto the numbers below 2^M.
use Rattle.std.proofs.Common.{◌≡◌, ℕ, suc, ◌-◌, ◌^◌, ◌<◌, ◌≤◌, ◌↔◌, List, length, sym, ap, subst, ◌∙◌, arith}
use Rattle.std.specs.Int.Count.{count_leading_zeros}
use Rattle.idx_hz.specs.Mask.{NamesAxes, HasAddress}
use Rattle.idx_hz.specs.Address.{z_address, level, level_at, hz_at, hz_address}
use Rattle.idx_hz.specs.Coordinate.{point_at}
use Rattle.idx_hz.proofs.ZLemmas.{length-point_at, HasAddress-point_at, z_address-point_at, z_address-lt, z_address-injective}
use Rattle.idx_hz.proofs.HzLemmas.{HasDigits, IsInverse, IsInverse-z_from, z_from, hz_at-lt, hz_at-injective, hz_at-zero, hz_at-eq-zero, level_at-zero, level_at-eq-zero, level_at-from_range, range-from_level_at}
use Rattle.idx_hz.proofs.ShiftLemmas.{HasDigits-count_leading_zeros}

-- each address is below 2^M
pub hz_address-lt : (mask p : List ℕ) → hz_address mask p < 2 ^ length mask
hz_address-lt mask p = hz_at-lt (length mask) (z_address mask p) (z_address-lt mask p)

-- two points with one address are one
pub hz_address-injective : (mask p q : List ℕ) → HasAddress mask p → HasAddress mask q → length p ≡ length q → hz_address mask p ≡ hz_address mask q → p ≡ q
hz_address-injective mask p q has_p has_q axes address =
    z_address-injective mask p q has_p has_q axes
    (hz_at-injective (length mask) (z_address mask p) (z_address mask q) (z_address-lt mask p) (z_address-lt mask q) address)

-- the point at a Z address whose hierarchical address is a
pub hz_address-point_at : (mask : List ℕ) (axes a z : ℕ) → NamesAxes mask axes → IsInverse (length mask) a z → hz_address mask (point_at mask axes z) ≡ a
hz_address-point_at mask axes a z named inverse = ap (hz_at (length mask)) (z_address-point_at mask axes z named inverse.small) ∙ inverse.address

-- each number below 2^M is the hierarchical address of a Z address
pub inverse_of : (digits a : ℕ) → a < 2 ^ digits → (z : ℕ) × IsInverse digits a z
inverse_of digits a small =
    let length : ℕ = digits - count_leading_zeros digits a in
    let has : HasDigits (digits - count_leading_zeros digits a) a = HasDigits-count_leading_zeros digits a small in
    (z_from digits (digits - count_leading_zeros digits a) a, IsInverse-z_from digits (digits - count_leading_zeros digits a) a has (omega arith))

-- each number below 2^M is the address of a point
pub hz_address-onto : (mask : List ℕ) (axes a : ℕ) → NamesAxes mask axes → a < 2 ^ length mask → (p : List ℕ) × (length p ≡ axes) × HasAddress mask p × (hz_address mask p ≡ a)
hz_address-onto mask axes a named small =
    let found = inverse_of (length mask) a small in
    (point_at mask axes found.0, length-point_at mask axes found.0, HasAddress-point_at mask axes found.0 named, hz_address-point_at mask axes a found.0 named found.1)

-- level h from 1 fills the addresses 2^(h-1) to 2^h - 1
pub level_iff_range : (mask p : List ℕ) (h : ℕ) → 1 ≤ h → (level mask p ≡ h) ↔ ((2 ^ (h - 1) ≤ hz_address mask p) × (hz_address mask p < 2 ^ h))
level_iff_range mask p h from =
    let last : suc (h - 1) ≡ h = omega arith in (
      λ here. subst (λ n. (2 ^ (h - 1) ≤ hz_address mask p) × (hz_address mask p < 2 ^ n)) last
          (range-from_level_at (length mask) (z_address mask p) (h - 1) (z_address-lt mask p) (here ∙ sym last)),
      λ range. level_at-from_range (length mask) (z_address mask p) (h - 1) (z_address-lt mask p) range.0 (subst (λ n. hz_address mask p < 2 ^ n) (sym last) range.1) ∙ last,
    )

-- level 0 has the address 0 alone
pub level_iff_zero : (mask p : List ℕ) → (level mask p ≡ 0) ↔ (hz_address mask p ≡ 0)
level_iff_zero mask p = (
  λ level. ap (hz_at (length mask)) (level_at-eq-zero (length mask) (z_address mask p) (z_address-lt mask p) level) ∙ hz_at-zero (length mask),
  λ address. ap (level_at (length mask)) (hz_at-eq-zero (length mask) (z_address mask p) (z_address-lt mask p) address) ∙ level_at-zero (length mask),
)
