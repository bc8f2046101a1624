-- What coordinates of an axis give to the Z address: the parts of the axis's bits, in rising order.
use Rattle.std.proofs.Common.{◌≡◌, ℕ, zero, suc, ◌+◌, ◌-◌, ◌*◌, ◌/◌, ◌%◌, ◌^◌, ◌<◌, ◌≤◌, Bool, true, false, cond, eqb, List, [], ◌∷◌, length, refl, sym, ap, ◌∙◌, subst, inl, inr, arith}
use Rattle.std.specs.Int.{bit_at}
use Rattle.std.specs.Int.Bits.{bit_and, and_zero_l, and_self}
use Rattle.std.proofs.Math.Nat.{pow-suc, mul-le-mul_right, mod-lt, mod-eq_of_lt, zero-mod}
use Rattle.std.proofs.Math.Pow.{pow_mono}
use Rattle.std.proofs.lemmas.Bool.{cases_lt}
use Rattle.std.proofs.lemmas.Nat.{and_block, and_mask, mod-pow-add, pow_pos, shr_high, mod_low, and_shr, and_mod, same_from_place, div-add-mod', mod-mul-add}
use Rattle.std.proofs.lemmas.Nat.Bits.{bit_at-lt, bit_at-zero}
use Rattle.idx_hz.specs.Mask.{bit_count}
use Rattle.idx_lanes.specs.Spread.{IsPart, axis_bits, spread, next_part, part_after}
use Rattle.idx_lanes.proofs.PartLemmas.{IsNextPart, next_at, next_law, next_unique, part_le}

cond_below : (b : Bool) (u : ℕ) → u < 2 → cond b u 0 < 2
cond_below b u h = elim b as (λ v. cond v u 0 < 2) [ true ↦ h | false ↦ omega arith ]

cond_part : (b : Bool) (u : ℕ) → u < 2 → bit_and (cond b u 0) (cond b 1 0) ≡ cond b u 0
cond_part b u h = elim b as (λ v. bit_and (cond v u 0) (cond v 1 0) ≡ cond v u 0) [
  | true ↦ let m : bit_and u 1 ≡ u % 2 = and_mask u 1 in omega (arith, m)
  | false ↦ and_zero_l 0
]

pub spread_lt : (axis : ℕ) (mask : List ℕ) (x : ℕ) → spread axis mask x < 2 ^ length mask
spread_lt axis [] x = omega arith
spread_lt axis (d ∷ finer) x =
    let k : ℕ = length finer in
    let t : ℕ = cond (eqb d axis) (bit_at x (bit_count axis finer)) 0 in
    let tb : t < 2 = cond_below (eqb d axis) _ (bit_at-lt x (bit_count axis finer)) in
    let le : t ≤ 1 = omega arith in
    omega (arith, spread_lt axis finer x, pow-suc 2 k, mul-le-mul_right (2 ^ k) le)

pub axis_bits_lt : (axis : ℕ) (mask : List ℕ) → axis_bits axis mask < 2 ^ length mask
axis_bits_lt axis [] = omega arith
axis_bits_lt axis (d ∷ finer) =
    let k : ℕ = length finer in
    let t : ℕ = cond (eqb d axis) 1 0 in
    let tb : t < 2 = cond_below (eqb d axis) 1 (omega arith) in
    let le : t ≤ 1 = omega arith in
    omega (arith, axis_bits_lt axis finer, pow-suc 2 k, mul-le-mul_right (2 ^ k) le)

pub spread_part : (axis : ℕ) (mask : List ℕ) (x : ℕ) → IsPart (axis_bits axis mask) (spread axis mask x)
spread_part axis [] x = and_zero_l 0
spread_part axis (d ∷ finer) x =
    let u : ℕ = bit_at x (bit_count axis finer) in
    let b : Bool = eqb d axis in
    and_block (length finer) (cond b u 0) (cond b 1 0) (spread axis finer x) (axis_bits axis finer) (spread_lt axis finer x) (axis_bits_lt axis finer)
    ∙ ap (λ t. t * 2 ^ length finer + bit_and (spread axis finer x) (axis_bits axis finer)) (cond_part b u (bit_at-lt x (bit_count axis finer)))
    ∙ ap (λ r. cond b u 0 * 2 ^ length finer + r) (spread_part axis finer x)

-- the low bits of a coordinate alone count, and greater ones give more
pub spread_rises : (axis : ℕ) (mask : List ℕ) (x y : ℕ) →
    x % 2 ^ bit_count axis mask < y % 2 ^ bit_count axis mask → spread axis mask x < spread axis mask y
spread_rises axis [] x y = λ lt. absurd (omega (arith, lt))
spread_rises axis (d ∷ finer) x y =
    let c : ℕ = bit_count axis finer in
    let k : ℕ = length finer in
    elim (eqb d axis) as (λ b. x % 2 ^ (cond b 1 0 + c) < y % 2 ^ (cond b 1 0 + c) →
    cond b (bit_at x c) 0 * 2 ^ k + spread axis finer x < cond b (bit_at y c) 0 * 2 ^ k + spread axis finer y) [
      | true ↦ λ lt.
          let ex : x % 2 ^ (1 + c) ≡ bit_at x c * 2 ^ c + x % 2 ^ c = mod-pow-add x 1 c in
          let ey : y % 2 ^ (1 + c) ≡ bit_at y c * 2 ^ c + y % 2 ^ c = mod-pow-add y 1 c in
          elim (cases_lt (bit_at x c) (bit_at y c)) [
            | inl less ↦
                let le : bit_at x c + 1 ≤ bit_at y c = omega arith in
                omega (arith, spread_lt axis finer x, mul-le-mul_right (2 ^ k) le)
            | inr ge ↦ elim (cases_lt (bit_at y c) (bit_at x c)) [
              | inl more ↦
                  let le : bit_at y c + 1 ≤ bit_at x c = omega arith in
                  let low : y % 2 ^ c < 2 ^ c = mod-lt y (pow_pos c) in
                  absurd (omega (arith, lt, ex, ey, low, mul-le-mul_right (2 ^ c) le))
              | inr le ↦
                  let same : bit_at x c ≡ bit_at y c = omega arith in
                  let below : x % 2 ^ c < y % 2 ^ c = omega (arith, lt, ex, ey, ap (λ t. t * 2 ^ c) same) in
                  omega (arith, ap (λ t. t * 2 ^ k) same, spread_rises axis finer x y below)
            ]
          ]
      | false ↦ λ lt.
          let e : 0 + c ≡ c = omega arith in
          let P : ℕ → Type 0 = λ n. x % 2 ^ n < y % 2 ^ n in
          omega (arith, spread_rises axis finer x y (subst P e lt))
    ]

-- coordinates with the same low bits give the same
pub spread_mod : (axis : ℕ) (mask : List ℕ) (x y : ℕ) →
    x % 2 ^ bit_count axis mask ≡ y % 2 ^ bit_count axis mask → spread axis mask x ≡ spread axis mask y
spread_mod axis [] x y = λ same. refl
spread_mod axis (d ∷ finer) x y =
    let c : ℕ = bit_count axis finer in
    let k : ℕ = length finer in
    elim (eqb d axis) as (λ b. x % 2 ^ (cond b 1 0 + c) ≡ y % 2 ^ (cond b 1 0 + c) →
    cond b (bit_at x c) 0 * 2 ^ k + spread axis finer x ≡ cond b (bit_at y c) 0 * 2 ^ k + spread axis finer y) [
      | true ↦ λ same.
          let both : bit_at x c * 2 ^ c + x % 2 ^ c ≡ bit_at y c * 2 ^ c + y % 2 ^ c =
          sym (mod-pow-add x 1 c) ∙ same ∙ mod-pow-add y 1 c in
          let parts : (bit_at x c ≡ bit_at y c) × (x % 2 ^ c ≡ y % 2 ^ c) =
          same_from_place (bit_at x c) (x % 2 ^ c) (bit_at y c) (y % 2 ^ c) (2 ^ c) (mod-lt x (pow_pos c)) (mod-lt y (pow_pos c)) both in
          omega (arith, ap (λ t. t * 2 ^ k) parts.0, spread_mod axis finer x y parts.1)
      | false ↦ λ same.
          let e : 0 + c ≡ c = omega arith in
          let P : ℕ → Type 0 = λ n. x % 2 ^ n ≡ y % 2 ^ n in
          omega (arith, spread_mod axis finer x y (subst P e same))
    ]

onto_digit : (axis : ℕ) (finer : List ℕ) (w : ℕ) (b : Bool) (x : ℕ) → x < 2 ^ bit_count axis finer →
    spread axis finer x ≡ w % 2 ^ length finer → w / 2 ^ length finer ≤ cond b 1 0 →
    w / 2 ^ length finer * 2 ^ length finer + w % 2 ^ length finer ≡ w →
    (y : ℕ) × (y < 2 ^ (cond b 1 0 + bit_count axis finer)) ×
    (cond b (bit_at y (bit_count axis finer)) 0 * 2 ^ length finer + spread axis finer y ≡ w)
onto_digit axis finer w true x lt e below whole =
    let c : ℕ = bit_count axis finer in
    let k : ℕ = length finer in
    let t : ℕ = w / 2 ^ k in
    let y : ℕ = t * 2 ^ c + x in
    let p : 2 ^ (1 + c) ≡ 2 ^ c * 2 = ap (λ n. 2 ^ n) (omega arith) ∙ pow-suc 2 c in
    let bit : bit_at y c ≡ t = ap (λ q. q % 2) (shr_high t c x lt) ∙ mod-eq_of_lt (omega arith) in
    let same : spread axis finer y ≡ spread axis finer x =
    spread_mod axis finer y x (mod_low t c x lt ∙ sym (mod-eq_of_lt lt)) in
    (y, omega (arith, p, mul-le-mul_right (2 ^ c) below), omega (arith, ap (λ q. q * 2 ^ k) bit, same, e, whole))
onto_digit axis finer w false x lt e below whole =
    let c : ℕ = bit_count axis finer in
    let k : ℕ = length finer in
    let z : 0 + c ≡ c = omega arith in
    let P : ℕ → Type 0 = λ n. x < 2 ^ n in
    let none : w / 2 ^ k ≡ 0 = omega arith in
    (x, subst P (sym z) lt, omega (arith, e, whole, ap (λ q. q * 2 ^ k) none))

-- each part of the axis's bits is what a coordinate gives
pub spread_onto : (axis : ℕ) (mask : List ℕ) (w : ℕ) → IsPart (axis_bits axis mask) w →
    (x : ℕ) × (x < 2 ^ bit_count axis mask) × (spread axis mask x ≡ w)
spread_onto axis [] w h =
    let none : w ≡ 0 = omega (arith, part_le 0 w h) in
    (0, omega arith, sym none)
spread_onto axis (d ∷ finer) w h =
    let c : ℕ = bit_count axis finer in
    let k : ℕ = length finer in
    let m1 : ℕ = cond (eqb d axis) 1 0 in
    let rest : ℕ = axis_bits axis finer in
    let low_bits : (m1 * 2 ^ k + rest) % 2 ^ k ≡ rest = mod_low m1 k rest (axis_bits_lt axis finer) in
    let high_bits : (m1 * 2 ^ k + rest) / 2 ^ k ≡ m1 = shr_high m1 k rest (axis_bits_lt axis finer) in
    let low : IsPart rest (w % 2 ^ k) =
    ap (λ t. bit_and (w % 2 ^ k) t) (sym low_bits) ∙ sym (and_mod w (m1 * 2 ^ k + rest) k) ∙ ap (λ t. t % 2 ^ k) h in
    let high : IsPart m1 (w / 2 ^ k) =
    ap (λ t. bit_and (w / 2 ^ k) t) (sym high_bits) ∙ sym (and_shr w (m1 * 2 ^ k + rest) k) ∙ ap (λ t. t / 2 ^ k) h in
    let below : w / 2 ^ k ≤ m1 = part_le m1 (w / 2 ^ k) high in
    let whole : w / 2 ^ k * 2 ^ k + w % 2 ^ k ≡ w = div-add-mod' w (2 ^ k) in
    let found : (x : ℕ) × (x < 2 ^ c) × (spread axis finer x ≡ w % 2 ^ k) = spread_onto axis finer (w % 2 ^ k) low in
    onto_digit axis finer w (eqb d axis) found.0 found.1 found.2 below whole

-- the next coordinate gives the next part
pub spread_next : (axis : ℕ) (mask : List ℕ) (x : ℕ) → x + 1 < 2 ^ bit_count axis mask →
    IsNextPart (axis_bits axis mask) (spread axis mask x) (spread axis mask (x + 1))
spread_next axis mask x room =
    let n : ℕ = 2 ^ bit_count axis mask in
    let here : x % n ≡ x = mod-eq_of_lt (omega arith) in
    let there : (x + 1) % n ≡ x + 1 = mod-eq_of_lt room in
    record {
      part = spread_part axis mask (x + 1);
      above = spread_rises axis mask x (x + 1) (omega (arith, here, there));
      least = λ w pw gt.
          let found : (y : ℕ) × (y < n) × (spread axis mask y ≡ w) = spread_onto axis mask w pw in
          let own : found.0 % n ≡ found.0 = mod-eq_of_lt found.1 in
          elim (cases_lt (x + 1) found.0) [
            | inl more ↦ omega (arith, found.2, spread_rises axis mask (x + 1) found.0 (omega (arith, there, own)))
            | inr le ↦ elim (cases_lt found.0 (x + 1)) [
              | inl less ↦ elim (cases_lt found.0 x) [
                | inl under ↦ absurd (omega (arith, gt, found.2, spread_rises axis mask found.0 x (omega (arith, here, own))))
                | inr ge ↦
                    let same : found.0 ≡ x = omega arith in
                    absurd (omega (arith, gt, found.2, ap (spread axis mask) same))
              ]
              | inr ge ↦
                  let same : found.0 ≡ x + 1 = omega arith in
                  omega (arith, found.2, ap (spread axis mask) same)
            ]
          ];
    }

-- ---- the steps of a walk

pub spread_zero : (axis : ℕ) (mask : List ℕ) → spread axis mask 0 ≡ 0
spread_zero axis [] = refl
spread_zero axis (d ∷ finer) =
    let none : cond (eqb d axis) (bit_at 0 (bit_count axis finer)) 0 ≡ 0 =
    elim (eqb d axis) as (λ b. cond b (bit_at 0 (bit_count axis finer)) 0 ≡ 0) [ true ↦ bit_at-zero (bit_count axis finer) | false ↦ refl ] in
    omega (arith, ap (λ t. t * 2 ^ length finer) none, spread_zero axis finer)

-- the greatest coordinate gives all bits
spread_last : (axis : ℕ) (mask : List ℕ) (x : ℕ) → x + 1 ≡ 2 ^ bit_count axis mask → spread axis mask x ≡ axis_bits axis mask
spread_last axis mask x last =
    let n : ℕ = 2 ^ bit_count axis mask in
    let m : ℕ = axis_bits axis mask in
    let found : (y : ℕ) × (y < n) × (spread axis mask y ≡ m) = spread_onto axis mask m (and_self m) in
    let own : found.0 % n ≡ found.0 = mod-eq_of_lt found.1 in
    let here : x % n ≡ x = mod-eq_of_lt (omega arith) in
    let most : spread axis mask x ≤ m = part_le m (spread axis mask x) (spread_part axis mask x) in
    elim (cases_lt found.0 x) [
      | inl less ↦ absurd (omega (arith, found.2, most, spread_rises axis mask found.0 x (omega (arith, own, here))))
      | inr ge ↦ let same : found.0 ≡ x = omega (arith, found.1) in ap (spread axis mask) (sym same) ∙ found.2
    ]

mod_next : (x n : ℕ) → 0 < n → x % n + 1 < n → (x + 1) % n ≡ x % n + 1
mod_next x n some room =
    let split : x + 1 ≡ x / n * n + (x % n + 1) = omega (arith, div-add-mod' x n) in
    ap (λ t. t % n) split ∙ mod-mul-add (x / n) n (x % n + 1) room

mod_last : (x n : ℕ) → 0 < n → x % n + 1 ≡ n → (x + 1) % n ≡ 0
mod_last x n some last =
    let split : x + 1 ≡ (x / n + 1) * n + 0 = omega (arith, div-add-mod' x n, one_more (x / n) n) in
    ap (λ t. t % n) split ∙ mod-mul-add (x / n + 1) n 0 some
  where
    one_more : (a n : ℕ) → (a + 1) * n ≡ a * n + n
    one_more a n = grind arith

-- one step leads from what a coordinate gives to what the next one gives
pub next_part-spread : (axis : ℕ) (mask : List ℕ) (x : ℕ) → length mask ≤ 64 → next_part (axis_bits axis mask) (spread axis mask x) ≡ spread axis mask (x + 1)
next_part-spread axis mask x few =
    let n : ℕ = 2 ^ bit_count axis mask in
    let m : ℕ = axis_bits axis mask in
    let some : 0 < n = pow_pos (bit_count axis mask) in
    let below : x % n < n = mod-lt x some in
    let rest : x % n % n ≡ x % n = mod-eq_of_lt below in
    let z : ℕ = spread axis mask (x % n) in
    let low : spread axis mask x ≡ z = spread_mod axis mask x (x % n) (sym rest) in
    let power : 2 ^ length mask ≤ 2 ^ 64 = pow_mono few in
    let small : m < 2 ^ 64 = omega (arith, axis_bits_lt axis mask, power) in
    ap (next_part m) low ∙
    elim (cases_lt (x % n + 1) n) [
      | inl room ↦
          let step : IsNextPart m z (spread axis mask (x % n + 1)) = spread_next axis mask (x % n) room in
          let less : z < m = omega (arith, step.above, part_le m (spread axis mask (x % n + 1)) step.part) in
          let word : (z + (2 ^ 64 - m)) % 2 ^ 64 ≡ z + (2 ^ 64 - m) = mod-eq_of_lt (omega (arith, less, small)) in
          ap (λ t. bit_and t m) word
          ∙ next_unique m z (next_at 64 m z) (spread axis mask (x % n + 1)) (next_law 64 m z small (spread_part axis mask (x % n)) less) step
          ∙ spread_mod axis mask (x % n + 1) (x + 1) (mod-eq_of_lt room ∙ sym (mod_next x n some room))
      | inr ge ↦
          let last : x % n + 1 ≡ n = omega (arith, below) in
          let all : z ≡ m = spread_last axis mask (x % n) last in
          let whole : z + (2 ^ 64 - m) ≡ 2 ^ 64 = omega (arith, all, small) in
          let none : (z + (2 ^ 64 - m)) % 2 ^ 64 ≡ 0 = ap (λ t. t % 2 ^ 64) whole in
          ap (λ t. bit_and t m) none ∙ and_zero_l m
          ∙ sym (spread_mod axis mask (x + 1) 0 (mod_last x n some last ∙ sym (zero-mod n)) ∙ spread_zero axis mask)
    ]

pub part_after-spread : (axis : ℕ) (mask : List ℕ) (x k : ℕ) → length mask ≤ 64 → part_after (axis_bits axis mask) (spread axis mask x) k ≡ spread axis mask (x + k)
part_after-spread axis mask x zero few = ap (spread axis mask) (omega arith)
part_after-spread axis mask x (suc k) few =
    let next : x + k + 1 ≡ x + suc k = omega arith in
    ap (next_part (axis_bits axis mask)) (part_after-spread axis mask x k few)
    ∙ next_part-spread axis mask (x + k) few
    ∙ ap (spread axis mask) next
