-- Numbers by their bits.
use Rattle.std.proofs.Common.{◌≡◌, ℕ, ◌+◌, ◌*◌, ◌/◌, ◌%◌, ◌^◌, ◌<◌, ◌≤◌, List, sym, ap, ◌∙◌, ⊎_elim, arith}
use Rattle.std.specs.Int.{bit_at}
use Rattle.std.proofs.Math.Nat.{mod-add-div'}
use Rattle.std.proofs.lemmas.Bool.{cases_lt}
use Rattle.std.proofs.lemmas.Nat.{pow_pos, mod_below}
use Rattle.std.proofs.lemmas.Nat.Bits.{bit_at_above, bit_at_cat_low, same_from_bits, same_from_bits_below}
use Rattle.idx_rowmajor.specs.Bits.{ArePlaces, Carries}

-- a number without bits from w on is below 2^w
pub lt_from_bits : (n w : ℕ) → ((i : ℕ) → w ≤ i → bit_at n i ≡ 0) → n < 2 ^ w
lt_from_bits n w none =
    let low : n % 2 ^ w < 2 ^ w = mod_below n (2 ^ w) (pow_pos w) in
    let parts : n ≡ n / 2 ^ w * 2 ^ w + n % 2 ^ w = omega (arith, mod-add-div' n (2 ^ w)) in
    let same : n ≡ n % 2 ^ w = same_from_bits n (n % 2 ^ w) (λ i. ⊎_elim
    (λ (inside : i < w). ap (λ k. bit_at k i) parts ∙ bit_at_cat_low (n / 2 ^ w) w (n % 2 ^ w) i inside)
    (λ (beyond : w ≤ i). none i beyond ∙ sym (bit_at_above (n % 2 ^ w) w i low beyond))
    (cases_lt i w)) in
    omega arith

-- a number is known by the bits at the targets
pub same_carried : (bits : ℕ) (places : List ℕ) (from u v : ℕ) → ArePlaces bits places → Carries bits places from u → Carries bits places from v → u ≡ v
same_carried bits places from u v are carried_u carried_v = same_from_bits_below bits u v carried_u.small carried_v.small (λ m within.
    let at = are.onto m within in
    ap (bit_at u) (sym at.2) ∙ carried_u.each at.0 at.1 ∙ sym (carried_v.each at.0 at.1) ∙ ap (bit_at v) at.2)
