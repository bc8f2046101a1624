-- Numbers that differ in their lowest binary digits alone, and those of them with one highest digit.
use Rattle.std.proofs.Common.{◌≡◌, ◌≢◌, ℕ, zero, suc, ◌+◌, ◌-◌, ◌*◌, ◌/◌, ◌^◌, ◌<◌, ◌≤◌, ◌↔◌, refl, sym, ap, ◌∙◌, subst, ⊎_elim, arith}
use Rattle.std.specs.Prelude.{min, max}
use Rattle.std.specs.Int.{bit_at}
use Rattle.std.proofs.Math.Nat.{div-div-eq-div-mul, div-lt_iff_lt-mul, mul-le-mul_right, pow-suc}
use Rattle.std.proofs.Math.Pow.{pow_mono}
use Rattle.std.proofs.lemmas.Nat.{div-add-mod', div-mul-add, pow_pos}
use Rattle.std.proofs.lemmas.Bool.{cases_lt}
use Rattle.std.proofs.lemmas.Nat.Bits.{bit_at-lt}
use Rattle.idx_plan.specs.Parts.{IsFrom, IsSpan}

-- a number from a multiple on and before the next one
quotient : (n c w : ℕ) → c * w ≤ n → n < c * w + w → n / w ≡ c
quotient n c w low high =
    let whole : n ≡ c * w + (n - c * w) = omega arith in
    ap (λ m. m / w) whole ∙ div-mul-add c w (n - c * w) (omega arith)

-- a multiple of a power by twice as much
twice : (c b : ℕ) → c * 2 ^ suc b ≡ c * 2 * 2 ^ b
twice c b = ap (λ n. c * n) (pow-suc 2 b) ∙ moved c (2 ^ b)
  where
    moved : (n x : ℕ) → n * (x * 2) ≡ n * 2 * x
    moved n x = grind arith

next : (c x : ℕ) → (c + 1) * x ≡ c * x + x
next c x = grind arith

-- of such a number the other digits are known
pub high_digits : (n first end b : ℕ) → first ≤ n → n < end → end ≤ (first / 2 ^ suc b + 1) * 2 ^ suc b → n / 2 ^ b ≡ first / 2 ^ suc b * 2 + bit_at n b
high_digits n first end b low high whole =
    let c : ℕ = first / 2 ^ suc b in
    let begins : c * 2 ^ suc b ≤ first = omega (arith, div-add-mod' first (2 ^ suc b)) in
    let same : n / 2 ^ suc b ≡ c = quotient n c (2 ^ suc b) (omega (arith, begins)) (omega (arith, whole, next c (2 ^ suc b))) in
    let half : n / 2 ^ b / 2 ≡ c = div-div-eq-div-mul n (2 ^ b) 2 ∙ ap (λ m. n / m) (sym (pow-suc 2 b)) ∙ same in
    sym (div-add-mod' (n / 2 ^ b) 2) ∙ ap (λ m. m * 2 + bit_at n b) half

-- it is before the middle where its highest digit is 0
pub below_middle : (n first end b : ℕ) → first ≤ n → n < end → end ≤ (first / 2 ^ suc b + 1) * 2 ^ suc b → (n < (first / 2 ^ suc b * 2 + 1) * 2 ^ b) ↔ (bit_at n b ≡ 0)
below_middle n first end b low high whole =
    let c : ℕ = first / 2 ^ suc b in
    let digits : n / 2 ^ b ≡ c * 2 + bit_at n b = high_digits n first end b low high whole in
    let cut = div-lt_iff_lt-mul {k = 2 ^ b} {x = n} {y = c * 2 + 1} (pow_pos b) in (
      λ less. omega (arith, digits, cut.1 less),
      λ none. cut.0 (omega (arith, digits, none)),
    )

-- the middle fits
pub middle_small : (first end b : ℕ) → first < end → end ≤ 2 ^ 41 → suc b ≤ 40 → (first / 2 ^ suc b * 2 + 1) * 2 ^ b ≤ 2 ^ 42
middle_small first end b some small few =
    let c : ℕ = first / 2 ^ suc b in
    let begins : c * 2 ^ suc b ≤ first = omega (arith, div-add-mod' first (2 ^ suc b)) in
    let le : b ≤ 40 = omega arith in
    let most : 2 ^ b ≤ 2 ^ 40 = pow_mono le in
    omega (arith, begins, twice c b, next (c * 2) (2 ^ b), most)

-- ---- the halves

-- what lies before the middle
pub lower_half : (first end left b cut stop bit : ℕ) → left ≡ suc b → IsSpan first end left → cut ≡ (first / 2 ^ left * 2 + 1) * 2 ^ b → stop ≡ min end cut → bit ≡ 0 →
    (n : ℕ) → IsFrom first stop n ↔ (IsFrom first end n × (bit_at n b ≡ bit))
lower_half first end left b cut stop bit is span at stops none n =
    let whole : end ≤ (first / 2 ^ suc b + 1) * 2 ^ suc b = subst (λ (l : ℕ). end ≤ (first / 2 ^ l + 1) * 2 ^ l) is span.whole in
    let middle : cut ≡ (first / 2 ^ suc b * 2 + 1) * 2 ^ b = at ∙ ap (λ (l : ℕ). (first / 2 ^ l * 2 + 1) * 2 ^ b) is in (
      λ w.
          let before : n < end = omega (arith, w.1, stops) in
          let below : n < (first / 2 ^ suc b * 2 + 1) * 2 ^ b = omega (arith, w.1, stops, middle) in
          ((w.0, before), (below_middle n first end b w.0 before whole).0 below ∙ sym none),
      λ w.
          let below : n < (first / 2 ^ suc b * 2 + 1) * 2 ^ b = (below_middle n first end b w.0.0 w.0.1 whole).1 (w.1 ∙ none) in
          let before : n < end = w.0.1 in
          (w.0.0, omega (arith, before, below, stops, middle)),
    )

-- and what does not
pub upper_half : (first end left b cut start bit : ℕ) → left ≡ suc b → IsSpan first end left → cut ≡ (first / 2 ^ left * 2 + 1) * 2 ^ b → start ≡ max first cut → bit ≡ 1 →
    (n : ℕ) → IsFrom start end n ↔ (IsFrom first end n × (bit_at n b ≡ bit))
upper_half first end left b cut start bit is span at starts one n =
    let whole : end ≤ (first / 2 ^ suc b + 1) * 2 ^ suc b = subst (λ (l : ℕ). end ≤ (first / 2 ^ l + 1) * 2 ^ l) is span.whole in
    let middle : cut ≡ (first / 2 ^ suc b * 2 + 1) * 2 ^ b = at ∙ ap (λ (l : ℕ). (first / 2 ^ l * 2 + 1) * 2 ^ b) is in (
      λ w.
          let low : first ≤ n = omega (arith, w.0, starts) in
          let from : cut ≤ n = omega (arith, w.0, starts) in
          let some : bit_at n b ≢ 0 = λ e. let below : n < (first / 2 ^ suc b * 2 + 1) * 2 ^ b = (below_middle n first end b low w.1 whole).1 e in omega (arith, below, middle, from) in
          ((low, w.1), bit_one (bit_at n b) (bit_at-lt n b) some ∙ sym one),
      λ w.
          let low : first ≤ n = w.0.0 in
          let from : cut ≤ n = ⊎_elim
          (λ (less : n < cut). let below : n < (first / 2 ^ suc b * 2 + 1) * 2 ^ b = omega (arith, less, middle) in
          absurd (omega (arith, (below_middle n first end b w.0.0 w.0.1 whole).0 below, w.1, one)))
          (λ (le : cut ≤ n). le)
          (cases_lt n cut) in
          (omega (arith, low, from, starts), w.0.1),
    )
  where
    bit_one : (x : ℕ) → x < 2 → x ≢ 0 → x ≡ 1
    bit_one zero small some = absurd (some refl)
    bit_one (suc x) small some = omega arith

-- both differ in one digit less
pub lower_whole : (first end left b cut stop : ℕ) → left ≡ suc b → cut ≡ (first / 2 ^ left * 2 + 1) * 2 ^ b → stop ≡ min end cut → IsSpan first end left → stop ≤ (first / 2 ^ b + 1) * 2 ^ b
lower_whole first end left b cut stop is at stops span =
    let whole : end ≤ (first / 2 ^ suc b + 1) * 2 ^ suc b = subst (λ (l : ℕ). end ≤ (first / 2 ^ l + 1) * 2 ^ l) is span.whole in
    let middle : cut ≡ (first / 2 ^ suc b * 2 + 1) * 2 ^ b = at ∙ ap (λ (l : ℕ). (first / 2 ^ l * 2 + 1) * 2 ^ b) is in
    let digits : first / 2 ^ b ≡ first / 2 ^ suc b * 2 + bit_at first b = high_digits first first end b (omega arith) span.some whole in
    let most : (first / 2 ^ suc b * 2 + 1) * 2 ^ b ≤ (first / 2 ^ b + 1) * 2 ^ b = mul-le-mul_right (2 ^ b) (omega (arith, digits)) in
    omega (arith, stops, middle, most)

pub upper_whole : (first end left b cut start : ℕ) → left ≡ suc b → cut ≡ (first / 2 ^ left * 2 + 1) * 2 ^ b → start ≡ max first cut → IsSpan first end left → end ≤ (start / 2 ^ b + 1) * 2 ^ b
upper_whole first end left b cut start is at starts span =
    let c : ℕ = first / 2 ^ suc b in
    let whole : end ≤ (c + 1) * 2 ^ suc b = subst (λ (l : ℕ). end ≤ (first / 2 ^ l + 1) * 2 ^ l) is span.whole in
    let middle : cut ≡ (c * 2 + 1) * 2 ^ b = at ∙ ap (λ (l : ℕ). (first / 2 ^ l * 2 + 1) * 2 ^ b) is in
    let from : c * 2 + 1 ≤ start / 2 ^ b = ⊎_elim
    (λ (less : start / 2 ^ b < c * 2 + 1). absurd (omega (arith, (div-lt_iff_lt-mul {k = 2 ^ b} {x = start} {y = c * 2 + 1} (pow_pos b)).0 less, middle, starts)))
    (λ (le : c * 2 + 1 ≤ start / 2 ^ b). le)
    (cases_lt (start / 2 ^ b) (c * 2 + 1)) in
    let most : ((c + 1) * 2) * 2 ^ b ≤ (start / 2 ^ b + 1) * 2 ^ b = mul-le-mul_right (2 ^ b) (omega (arith, from)) in
    omega (arith, whole, twice (c + 1) b, most)
