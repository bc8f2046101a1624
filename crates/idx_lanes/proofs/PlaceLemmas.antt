-- The digits of a block, one after another from the finest on.
use Rattle.std.proofs.Common.{◌≡◌, ℕ, suc, ◌+◌, ◌-◌, ◌*◌, ◌/◌, ◌%◌, ◌^◌, ◌<◌, ◌≤◌, Bool, true, false, cond, eqb, List, [], ◌∷◌, length, get_or, take, drop, refl, sym, ap, ◌∙◌, arith, length-drop}
use Rattle.std.proofs.lemmas.List.{drop_more, drop_all, get_or-drop, get_or-take}
use Rattle.std.proofs.Math.Nat.{pow-suc, div-div-eq-div-mul}
use Rattle.std.proofs.Math.Pow.{pow_mono}
use Rattle.std.specs.Int.{bit_at}
use Rattle.idx_hz.specs.Mask.{bit_count}
use Rattle.idx_lanes.specs.Lanes.{block_digits}
use Rattle.idx_lanes.specs.Spread.{axis_bits, spread}
use Rattle.idx_lanes.proofs.SpreadLemmas.{axis_bits_lt, spread_lt}

-- what the finest j digits give
pub record ArePlaces (digits : List ℕ) (axis x j unit bits first rest : ℕ) : Type 0 where
  pub within : j ≤ length digits
  pub is_unit : unit ≡ 2 ^ j
  pub is_bits : bits ≡ axis_bits axis (drop (length digits - j) digits)
  pub is_first : first ≡ spread axis (drop (length digits - j) digits) x
  pub is_rest : rest ≡ x / 2 ^ bit_count axis (drop (length digits - j) digits)

none-left : (digits : List ℕ) → drop (length digits - 0) digits ≡ []
none-left digits = drop_all (length digits - 0) digits (omega arith)

pub places-none : (digits : List ℕ) (axis x : ℕ) → ArePlaces digits axis x 0 1 0 0 x
places-none digits axis x = record {
  within = omega arith;
  is_unit = refl;
  is_bits = sym (ap (axis_bits axis) (none-left digits));
  is_first = sym (ap (λ ds. spread axis ds x) (none-left digits));
  is_rest = sym (ap (λ ds. x / 2 ^ bit_count axis ds) (none-left digits) ∙ omega arith);
}

pub places-small : (digits : List ℕ) (axis x j unit bits first rest : ℕ) → length digits ≤ 20 → j < length digits → ArePlaces digits axis x j unit bits first rest →
    (unit ≤ 2 ^ 20) × (bits < unit) × (first < unit)
places-small digits axis x j unit bits first rest few more are =
    let left : List ℕ = drop (length digits - j) digits in
    let size : length left ≡ j = length-drop (length digits - j) digits ∙ omega arith in
    let fits : j ≤ 20 = omega arith in
    let power : 2 ^ j ≤ 2 ^ 20 = pow_mono fits in
    let same : 2 ^ length left ≡ 2 ^ j = ap (λ n. 2 ^ n) size in
    (omega (arith, are.is_unit, power), omega (arith, are.is_unit, are.is_bits, same, axis_bits_lt axis left), omega (arith, are.is_unit, are.is_first, same, spread_lt axis left x))

-- one digit more
pub places-more : (digits : List ℕ) (axis x j unit bits first rest : ℕ) (own : Bool) (bits' first' rest' unit' : ℕ) → j < length digits → own ≡ eqb (get_or digits (length digits - (j + 1)) 0) axis →
    bits' ≡ cond own 1 0 * unit + bits → first' ≡ cond own (rest % 2) 0 * unit + first → rest' ≡ cond own (rest / 2) rest → unit' ≡ unit * 2 →
    ArePlaces digits axis x j unit bits first rest → ArePlaces digits axis x (j + 1) unit' bits' first' rest'
places-more digits axis x j unit bits first rest own bits' first' rest' unit' more is to_bits to_first to_rest to_unit are =
    let at : ℕ = length digits - (j + 1) in
    let d : ℕ = get_or digits at 0 in
    let left : List ℕ = drop (length digits - j) digits in
    let size : length left ≡ j = length-drop (length digits - j) digits ∙ omega arith in
    let next : at + 1 ≡ length digits - j = omega arith in
    let whole : drop at digits ≡ d ∷ left = drop_more digits at 0 (omega arith) ∙ ap (λ n. d ∷ drop n digits) next in
    let power : unit ≡ 2 ^ length left = are.is_unit ∙ ap (λ n. 2 ^ n) (sym size) in
    let one : j + 1 ≡ suc j = omega arith in
    let bit : rest % 2 ≡ bit_at x (bit_count axis left) = ap (λ n. n % 2) are.is_rest in
    record {
      within = omega arith;
      is_unit = to_unit ∙ ap (λ n. n * 2) are.is_unit ∙ sym (ap (λ n. 2 ^ n) one ∙ pow-suc 2 j);
      is_bits =
          to_bits
          ∙ ap (λ (b : Bool). cond b 1 0 * unit + bits) is
          ∙ ap (λ n. cond (eqb d axis) 1 0 * n + bits) power
          ∙ ap (λ n. cond (eqb d axis) 1 0 * 2 ^ length left + n) are.is_bits
          ∙ sym (ap (axis_bits axis) whole);
      is_first =
          to_first
          ∙ ap (λ (b : Bool). cond b (rest % 2) 0 * unit + first) is
          ∙ ap (λ n. cond (eqb d axis) n 0 * unit + first) bit
          ∙ ap (λ n. cond (eqb d axis) (bit_at x (bit_count axis left)) 0 * n + first) power
          ∙ ap (λ n. cond (eqb d axis) (bit_at x (bit_count axis left)) 0 * 2 ^ length left + n) are.is_first
          ∙ sym (ap (λ ds. spread axis ds x) whole);
      is_rest =
          to_rest
          ∙ ap (λ (b : Bool). cond b (rest / 2) rest) is
          ∙ halved (eqb d axis) rest x (bit_count axis left) are.is_rest
          ∙ sym (ap (λ ds. x / 2 ^ bit_count axis ds) whole);
    }
  where
    halved : (b : Bool) (rest x c : ℕ) → rest ≡ x / 2 ^ c → cond b (rest / 2) rest ≡ x / 2 ^ (cond b 1 0 + c)
    halved true rest x c is =
        let twice : 2 ^ c * 2 ≡ 2 ^ (1 + c) = let one : 1 + c ≡ suc c = omega arith in sym (ap (λ n. 2 ^ n) one ∙ pow-suc 2 c) in
        ap (λ n. n / 2) is ∙ div-div-eq-div-mul x (2 ^ c) 2 ∙ ap (λ n. x / n) twice
    halved false rest x c is = let same : c ≡ 0 + c = omega arith in is ∙ ap (λ n. x / 2 ^ n) same

-- all of them
pub places-all : (digits : List ℕ) (axis x j unit bits first rest : ℕ) → length digits ≤ j → ArePlaces digits axis x j unit bits first rest →
    (bits ≡ axis_bits axis digits) × (first ≡ spread axis digits x)
places-all digits axis x j unit bits first rest all are =
    let none : length digits - j ≡ 0 = omega arith in
    (are.is_bits ∙ ap (λ n. axis_bits axis (drop n digits)) none, are.is_first ∙ ap (λ n. spread axis (drop n digits) x) none)

-- a digit of a block is one of the mask's
pub block_digit : (mask : List ℕ) (k bits i : ℕ) → i < bits → get_or (block_digits mask k bits) i 0 ≡ get_or mask (k + i) 0
block_digit mask k bits i within = get_or-drop k (take (bits + k) mask) i 0 ∙ get_or-take (bits + k) mask (k + i) 0 (omega arith)
