-- The digits of a block's number, and the places of its levels.
use Rattle.std.proofs.Common.{◌≡◌, ℕ, suc, ◌+◌, ◌-◌, ◌*◌, ◌^◌, ◌<◌, ◌≤◌, ⊎_elim, refl, sym, ap, ◌∙◌, arith}
use Rattle.std.proofs.lemmas.Bool.{cases_lt}
use Rattle.std.proofs.lemmas.Nat.{pow-add, pow_pos}
use Rattle.std.proofs.Math.Nat.{mul-le-mul_left, mul-le-mul_right, pow-suc}
use Rattle.std.proofs.Math.Pow.{pow_mono}

-- an address of a block is below the number of addresses
pub address-in_block : (digits bits block count k : ℕ) → bits ≤ digits → digits ≤ 40 → block < 2 ^ (digits - bits) → count ≡ 2 ^ bits → k < count →
    (block * count + k < 2 ^ digits) × (2 ^ digits ≤ 2 ^ 40)
address-in_block digits bits block count k within few exists is below =
    let split : digits - bits + bits ≡ digits = omega arith in
    let whole : 2 ^ digits ≡ 2 ^ (digits - bits) * 2 ^ bits = ap (λ n. 2 ^ n) (sym split) ∙ pow-add 2 (digits - bits) bits in
    let le : block + 1 ≤ 2 ^ (digits - bits) = omega (arith, exists) in
    let room : (block + 1) * 2 ^ bits ≤ 2 ^ (digits - bits) * 2 ^ bits = mul-le-mul_right (2 ^ bits) le in
    let same : block * count ≡ block * 2 ^ bits = ap (λ n. block * n) is in
    (omega (arith, whole, room, same, is, below, one_more block (2 ^ bits)), pow_mono few)
  where
    one_more : (n x : ℕ) → (n + 1) * x ≡ n * x + x
    one_more n x = grind arith

pow-cancel : (a b : ℕ) → 2 ^ a < 2 ^ b → a < b
pow-cancel a b less = ⊎_elim
    (λ (fits : a < b). fits)
    (λ (ge : b ≤ a). let power : 2 ^ b ≤ 2 ^ a = pow_mono ge in absurd (omega (arith, less, power)))
    (cases_lt a b)

-- how many digits a block's number has, by its level
pub record HasDigits (digits bits block level : ℕ) : Type 0 where
  pub deeper : bits < level
  pub within : bits + (level - 1 - bits) < digits
  pub same : suc (bits + (level - 1 - bits)) ≡ level
  pub exists : block * 2 ^ bits + 2 ^ bits ≤ 2 ^ digits

pub digits-of_level : (digits bits block level : ℕ) → bits ≤ digits → digits ≤ 40 → block < 2 ^ (digits - bits) → 1 ≤ block →
    (2 ^ (level - 1) ≤ block * 2 ^ bits) × (block * 2 ^ bits < 2 ^ level) → HasDigits digits bits block level
digits-of_level digits bits block level fits few exists other range =
    let some : 0 < 2 ^ bits = pow_pos bits in
    let first = address-in_block digits bits block (2 ^ bits) 0 fits few exists refl some in
    let last = address-in_block digits bits block (2 ^ bits) (2 ^ bits - 1) fits few exists refl (omega (arith, some)) in
    let wide : 1 * 2 ^ bits ≤ block * 2 ^ bits = mul-le-mul_right (2 ^ bits) other in
    let deeper : bits < level = pow-cancel bits level (omega (arith, wide, range.1)) in
    let before : level - 1 < digits = pow-cancel (level - 1) digits (omega (arith, range.0, first.0)) in
    record {
      deeper = deeper;
      within = omega (arith, deeper, before);
      same = omega (arith, deeper);
      exists = omega (arith, last.0, some);
    }

-- a level has as many places as all before it
pub double : (level : ℕ) → 2 ^ (level + 1) ≡ 2 ^ level + 2 ^ level
double level =
    let next : level + 1 ≡ suc level = omega arith in
    ap (λ n. 2 ^ n) next ∙ pow-suc 2 level ∙ omega arith

-- what comes next is within the block
pub level-fits : (size level filled bits room : ℕ) → filled ≡ size * 2 ^ level → level < bits → room ≡ size * 2 ^ bits → 2 * filled ≤ room
level-fits size level filled bits room front less whole =
    let le : level + 1 ≤ bits = omega arith in
    let power : 2 ^ (level + 1) ≤ 2 ^ bits = pow_mono le in
    let twice : size * (2 ^ level + 2 ^ level) ≡ size * 2 ^ level + size * 2 ^ level = grind arith in
    omega (arith, whole, mul-le-mul_left size power, ap (λ n. size * n) (double level), twice, front)
