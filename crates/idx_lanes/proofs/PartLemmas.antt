-- The next number whose bits are all among given ones.
use Rattle.std.proofs.Common.{◌≡◌, ℕ, zero, suc, ◌+◌, ◌-◌, ◌*◌, ◌/◌, ◌%◌, ◌^◌, ◌<◌, ◌≤◌, sym, ap, ◌∙◌, inl, inr, arith}
use Rattle.std.proofs.Math.Nat.{pow-suc}
use Rattle.std.specs.Int.Bits.{bit_and, and_self, and_zero_l}
use Rattle.std.proofs.lemmas.Nat.{and_block, and_shr, and_mod, and_assoc, or_disjoint, and_or_apart, and-not, and_le_r, and_comm}
use Rattle.std.proofs.lemmas.Bool.{cases_lt}
use Rattle.idx_lanes.specs.Spread.{IsPart}

-- of the parts above z, y is the least
pub record IsNextPart (bits z y : ℕ) : Type 0 where
  pub part : IsPart bits y
  pub above : z < y
  pub least : (x : ℕ) → IsPart bits x → z < x → y ≤ x

pub part_le : (m z : ℕ) → IsPart m z → z ≤ m
part_le m z h = omega (arith, and_le_r z m, h)

-- a part, with all that the bits lack added, has through the bits its own again
through : (w m z : ℕ) → m < 2 ^ w → IsPart m z → bit_and (z + (2 ^ w - 1 - m)) m ≡ z
through w m z hm hz =
    let c : ℕ = 2 ^ w - 1 - m in
    let low : z < 2 ^ w = omega (arith, part_le m z hz) in
    let apart_m : bit_and c m ≡ 0 = omega (arith, and-not w m m hm hm, and_self m) in
    let apart_z : bit_and z c ≡ 0 = omega (arith, and-not w m z hm low, and_comm m z, hz, and_comm z c) in
    ap (λ x. bit_and x m) (sym (or_disjoint z c apart_z)) ∙ and_or_apart m z c apart_m ∙ hz

-- the masked increment, at w bits
abbrev pub next_at : ℕ → ℕ → ℕ → ℕ
next_at w m z = bit_and (z + (2 ^ w - m)) m

pub and_part : (m u : ℕ) → IsPart m (bit_and u m)
and_part m u = and_assoc m u m ∙ ap (λ x. bit_and u x) (and_self m)

half_part : (m z : ℕ) → IsPart m z → IsPart (m / 2) (z / 2)
half_part m z h = sym (and_shr z m 1) ∙ ap (λ x. x / 2) h

low_part : (m z : ℕ) → IsPart m z → z % 2 ≤ m % 2
low_part m z h =
    let e : bit_and (z % 2) (m % 2) ≡ z % 2 = sym (and_mod z m 1) ∙ ap (λ x. x % 2) h in
    omega (arith, and_le_r (z % 2) (m % 2), e)

-- the lowest bit is free
next_odd : (n m z : ℕ) → m < 2 ^ suc n → IsPart m z → z % 2 < m % 2 → next_at (suc n) m z ≡ z + 1
next_odd n m z hm hz lt =
    let v : ℕ = z / 2 + (2 ^ n - 1 - m / 2) in
    let p : 2 ^ suc n ≡ 2 ^ n * 2 = pow-suc 2 n in
    let hm2 : m ≡ m / 2 * 2 + 1 = omega arith in
    let hu : z + (2 ^ suc n - m) ≡ v * 2 + 1 = omega (arith, p, hm, part_le (m / 2) (z / 2) (half_part m z hz)) in
    let e : bit_and (z + (2 ^ suc n - m)) m ≡ bit_and v (m / 2) * 2 + bit_and 1 1 =
    ap (λ x. bit_and x m) hu ∙ ap (λ y. bit_and (v * 2 + 1) y) hm2 ∙ and_block 1 v (m / 2) 1 1 (omega arith) (omega arith) in
    let t : bit_and v (m / 2) ≡ z / 2 = through n (m / 2) (z / 2) (omega (arith, p)) (half_part m z hz) in
    omega (arith, e, t, and_self 1)

-- the lowest bits are equal
next_even : (n m z : ℕ) → m < 2 ^ suc n → IsPart m z → z % 2 ≡ m % 2 → next_at (suc n) m z ≡ next_at n (m / 2) (z / 2) * 2
next_even n m z hm hz same =
    let v : ℕ = z / 2 + (2 ^ n - m / 2) in
    let b : ℕ = m % 2 in
    let p : 2 ^ suc n ≡ 2 ^ n * 2 = pow-suc 2 n in
    let hm2 : m ≡ m / 2 * 2 + b = omega arith in
    let hu : z + (2 ^ suc n - m) ≡ v * 2 + 0 = omega (arith, p, hm, same) in
    let e : bit_and (z + (2 ^ suc n - m)) m ≡ bit_and v (m / 2) * 2 + bit_and 0 b =
    ap (λ x. bit_and x m) hu ∙ ap (λ y. bit_and (v * 2 + 0) y) hm2 ∙ and_block 1 v (m / 2) 0 b (omega arith) (omega arith) in
    omega (arith, e, and_zero_l b)

pub next_law : (w m z : ℕ) → m < 2 ^ w → IsPart m z → z < m → IsNextPart m z (next_at w m z)
next_law zero m z hm hz lt = absurd (omega arith)
next_law (suc n) m z hm hz lt =
    elim (cases_lt (z % 2) (m % 2)) [
      | inl odd ↦
          let e : next_at (suc n) m z ≡ z + 1 = next_odd n m z hm hz odd in
          record { part = and_part m _; above = omega (arith, e); least = λ x px gt. omega (arith, e) }
      | inr le ↦
          let same : z % 2 ≡ m % 2 = omega (arith, low_part m z hz) in
          let p : 2 ^ suc n ≡ 2 ^ n * 2 = pow-suc 2 n in
          let e : next_at (suc n) m z ≡ next_at n (m / 2) (z / 2) * 2 = next_even n m z hm hz same in
          let ih : IsNextPart (m / 2) (z / 2) (next_at n (m / 2) (z / 2)) =
          next_law n (m / 2) (z / 2) (omega (arith, p)) (half_part m z hz) (omega (arith, same)) in
          record {
            part = and_part m _;
            above = omega (arith, e, ih.above);
            least = λ x px gt. omega (arith, e, ih.least (x / 2) (half_part m x px) (omega (arith, same, low_part m x px)));
          }
    ]

-- two next parts are equal
pub next_unique : (m z y w : ℕ) → IsNextPart m z y → IsNextPart m z w → y ≡ w
next_unique m z y w a b = omega (arith, a.least w b.part b.above, b.least y a.part a.above)
