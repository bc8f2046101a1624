-- The bits below the highest 1 reversed, by way of all bits reversed.
use Rattle.std.proofs.Common.{◌≡◌, ℕ, suc, ◌+◌, ◌-◌, ◌*◌, ◌/◌, ◌^◌, ◌<◌, ◌≤◌, List, get_or, sym, ap, ◌∙◌, arith}
use Rattle.std.specs.Int.{bit_at}
use Rattle.std.proofs.Math.Nat.{pow-suc}
use Rattle.std.proofs.lemmas.Nat.{pow_pos, div-mul-add}
use Rattle.std.proofs.lemmas.Nat.Bits.{same_from_bits_below}
use Rattle.idx_rowmajor.specs.Bits.{Carries}
use Rattle.idx_rowmajor.specs.Involutions.{IsInvolution}
use Rattle.idx_rowmajor.specs.Reverse.{reversed, turned}
use Rattle.idx_rowmajor.proofs.ReverseLemmas.{reversed-lt, bit_at-reversed, reversed-highest, turned-at}

-- places in reverse order
abbrev pub IsMirror : ℕ → List ℕ → Type 0
IsMirror bits places = (j : ℕ) → j < bits → get_or places j 0 ≡ bits - 1 - j

pub IsInvolution-mirror : (bits : ℕ) (places : List ℕ) → IsMirror bits places → IsInvolution bits places
IsInvolution-mirror bits places is i inside =
    let low : get_or places i 0 < bits = omega (arith, is i inside) in
    let back : bits - 1 - (bits - 1 - i) ≡ i = omega arith in
    (low, ap (λ n. get_or places n 0) (is i inside) ∙ is (bits - 1 - i) (omega arith) ∙ back)

pub reversed-carried : (bits : ℕ) (places : List ℕ) (from to : ℕ) → IsMirror bits places → Carries bits places from to → to ≡ reversed bits from
reversed-carried bits places from to is carried = same_from_bits_below bits to (reversed bits from) carried.small (reversed-lt bits from) (λ m inside.
    let j : ℕ = bits - 1 - m in
    let low : j < bits = omega arith in
    let at : get_or places j 0 ≡ m = is j low ∙ (let h : bits - 1 - j ≡ m = omega arith in h) in
    ap (bit_at to) (sym at) ∙ carried.each j low ∙ sym (bit_at-reversed bits from m inside))

-- all bits are reversed, those behind the highest 1 taken, and the highest 1 set in front
pub turned-mirrored : (bits place k mirrored : ℕ) → place < 2 ^ bits → k < bits → 2 ^ k ≤ place → place < 2 * 2 ^ k → mirrored ≡ reversed bits place →
    2 ^ k + mirrored / 2 ^ (bits - 1 - k) / 2 ≡ turned bits place
turned-mirrored bits place k mirrored small inside from to is =
    let q : ℕ = bits - 1 - k in
    let y : ℕ = place - 2 ^ k in
    let few : y < 2 ^ k = omega arith in
    let digits : q + suc k ≡ bits = omega arith in
    let number : 2 ^ k + y ≡ place = omega arith in
    let whole : mirrored ≡ (2 * reversed k y + 1) * 2 ^ q + 0 =
    is ∙ ap (λ n. reversed n place) (sym digits) ∙ ap (reversed (q + suc k)) (sym number) ∙ reversed-highest q k y few ∙ omega arith in
    let front : mirrored / 2 ^ q ≡ 2 * reversed k y + 1 = ap (λ n. n / 2 ^ q) whole ∙ div-mul-add (2 * reversed k y + 1) (2 ^ q) 0 (pow_pos q) in
    let upper : place < 2 ^ suc k = omega (arith, pow-suc 2 k) in
    let is_turned : turned bits place ≡ 1 * 2 ^ k + reversed k y = ap (λ n. turned n place) (sym digits) ∙ turned-at k place 1 q from upper in
    omega (arith, front, is_turned)
