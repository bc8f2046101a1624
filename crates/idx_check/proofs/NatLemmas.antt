-- Powers of two and quotients.
use Rattle.std.proofs.Common.{◌≡◌, ℕ, suc, ◌+◌, ◌-◌, ◌*◌, ◌/◌, ◌%◌, ◌^◌, ◌<◌, ◌≤◌, min, sym, ap, ◌∙◌, ⊎_elim, subst, arith}
use Rattle.std.proofs.Math.Nat.{mul-le-mul_right, mul_comm, div-mul-le_self, pow-suc}
use Rattle.std.proofs.Math.Pow.{pow_mono}
use Rattle.std.proofs.lemmas.Bool.{cases_lt}
use Rattle.std.proofs.lemmas.Grind.{div_ceil_times}
use Rattle.std.proofs.lemmas.Nat.{div-mul-add, pow-add, pow_pos, row_fits}

-- a quotient that is rounded up
pub rounded_up : (a b : ℕ) → 0 < b → a / b + min 1 (a % b) ≡ (a + b - 1) / b
rounded_up a b some =
    let q : ℕ = a / b + min 1 (a % b) in
    let bounds = div_ceil_times a b some in
    let rest : ℕ = a + b - 1 - q * b in
    let whole : a + b - 1 ≡ q * b + rest = omega (arith, bounds.0, bounds.1) in
    sym (ap (λ n. n / b) whole ∙ div-mul-add q b rest (omega (arith, bounds.0, bounds.1, some)))

-- an address of a run of 2^bits addresses that exists
pub below_all : (number i bits digits : ℕ) → bits ≤ digits → number < 2 ^ (digits - bits) → i < 2 ^ bits → number * 2 ^ bits + i < 2 ^ digits
below_all number i bits digits few exists within =
    let split : digits ≡ digits - bits + bits = omega arith in
    let all : 2 ^ digits ≡ 2 ^ (digits - bits) * 2 ^ bits = ap (λ n. 2 ^ n) split ∙ pow-add 2 (digits - bits) bits in
    let one : number + 1 ≤ 2 ^ (digits - bits) = omega (arith, exists) in
    let next : (number + 1) * 2 ^ bits ≤ 2 ^ (digits - bits) * 2 ^ bits = mul-le-mul_right (2 ^ bits) one in
    let more : (number + 1) * 2 ^ bits ≡ number * 2 ^ bits + 2 ^ bits = grind arith in
    omega (arith, all, next, more, within)

-- what a logarithm of a quotient gives
pub fits_in : (room size log bits : ℕ) → 1 ≤ size → 2 ^ log ≤ room / size → bits ≤ log → size * 2 ^ bits ≤ room
fits_in room size log bits some low few =
    let less : 2 ^ bits ≤ 2 ^ log = pow_mono few in
    let least : 2 ^ bits ≤ room / size = omega (arith, less, low) in
    let times : 2 ^ bits * size ≤ room / size * size = mul-le-mul_right size least in
    omega (arith, times, div-mul-le_self room size, mul_comm size (2 ^ bits))

-- a part, of so many, of a run of 2^bits addresses: it has `each` addresses, which is 2^fine
pub record IsPart (digits bits fine number parts each k : ℕ) : Type 0 where
  pub exists : number * parts + k < 2 ^ (digits - fine)
  pub small : number * parts + k < 2 ^ 40
  pub first : (number * parts + k) * 2 ^ fine ≡ number * 2 ^ bits + k * each
  pub all : (size : ℕ) → size * 2 ^ bits ≡ parts * (size * each)
  pub room : (size : ℕ) → k * (size * each) + size * each ≤ size * 2 ^ bits

-- all addresses of a run, by parts
pub all_parts : (bits fine parts each : ℕ) → fine ≤ bits → parts ≡ 2 ^ (bits - fine) → each ≡ 2 ^ fine → 2 ^ bits ≡ parts * each
all_parts bits fine parts each low is one =
    let split : bits ≡ bits - fine + fine = omega (arith, low) in
    ap (λ n. 2 ^ n) split ∙ pow-add 2 (bits - fine) fine ∙ ap (λ n. n * 2 ^ fine) (sym is) ∙ ap (λ n. parts * n) (sym one)

pub part_of : (digits bits fine number parts each k : ℕ) → fine ≤ bits → bits ≤ digits → digits ≤ 40 → number < 2 ^ (digits - bits) → parts ≡ 2 ^ (bits - fine) → each ≡ 2 ^ fine → k < parts →
    IsPart digits bits fine number parts each k
part_of digits bits fine number parts each k low few most exists is one within =
    record {
      exists = below;
      small = omega (arith, below, power);
      first = ap (λ n. (number * parts + k) * n) (sym one) ∙ first;
      all = λ size. grind (arith, whole);
      room = λ size. room size;
    }
  where
    whole : 2 ^ bits ≡ parts * each
    whole = all_parts bits fine parts each low is one

    first : (number * parts + k) * each ≡ number * 2 ^ bits + k * each
    first = grind (arith, whole)

    rest : digits - fine - (bits - fine) ≡ digits - bits
    rest = omega (arith, low, few)

    below : number * parts + k < 2 ^ (digits - fine)
    below =
        subst (λ (n : ℕ). number * n + k < 2 ^ (digits - fine)) (sym is)
        (below_all number k (bits - fine) (digits - fine) (omega (arith, few)) (subst (λ (n : ℕ). number < 2 ^ n) (sym rest) exists) (omega (arith, within, is)))

    power : 2 ^ (digits - fine) ≤ 2 ^ 40
    power = let few_digits : digits - fine ≤ 40 = omega (arith, most) in pow_mono few_digits

    room : (size : ℕ) → k * (size * each) + size * each ≤ size * 2 ^ bits
    room size =
        let fits = row_fits k (size * each) parts (size * each) within (omega arith) in
        let all : size * 2 ^ bits ≡ parts * (size * each) = grind (arith, whole) in
        omega (arith, fits, all)

-- so many samples have a byte
pub some_bytes : (size bits n : ℕ) → 1 ≤ size → n ≡ size * 2 ^ bits → 0 < n
some_bytes size bits n some is =
    let times : 1 * 2 ^ bits ≤ size * 2 ^ bits = mul-le-mul_right (2 ^ bits) some in
    omega (arith, times, is, pow_pos bits)

-- the halves of a run of 2^bits addresses: each has so many
pub record IsHalved (size bits number count : ℕ) : Type 0 where
  pub low : (2 * number + 0) * 2 ^ (bits - 1) ≡ number * 2 ^ bits
  pub high : (2 * number + 1) * 2 ^ (bits - 1) ≡ number * 2 ^ bits + count
  pub whole : size * 2 ^ bits ≡ size * count + size * count

pub halved_of : (size bits number count : ℕ) → 1 ≤ bits → count ≡ 2 ^ (bits - 1) → IsHalved size bits number count
halved_of size bits number count some is =
    let next : suc (bits - 1) ≡ bits = omega (arith, some) in
    let double : 2 ^ bits ≡ count * 2 = ap (λ n. 2 ^ n) (sym next) ∙ pow-suc 2 (bits - 1) ∙ ap (λ n. n * 2) (sym is) in
    record {
      low = ap (λ n. (2 * number + 0) * n) (sym is) ∙ twice number count ∙ ap (λ n. number * n) (sym double);
      high = ap (λ n. (2 * number + 1) * n) (sym is) ∙ more number count ∙ ap (λ n. number * n + count) (sym double);
      whole = ap (λ n. size * n) double ∙ both size count;
    }
  where
    twice : (x n : ℕ) → (2 * x + 0) * n ≡ x * (n * 2)
    twice x n = grind arith

    more : (x n : ℕ) → (2 * x + 1) * n ≡ x * (n * 2) + n
    more x n = grind arith

    both : (x n : ℕ) → x * (n * 2) ≡ x * n + x * n
    both x n = grind arith

-- how many digits a run's number has, at most
pub digits_within : (digits bits all number : ℕ) → bits ≤ all → 2 ^ digits ≤ number → number < 2 ^ (all - bits) → bits + digits < all
digits_within digits bits all number few low high = ⊎_elim
    (λ (less : digits < all - bits). omega (arith, less))
    (λ (more : all - bits ≤ digits).
    let large : 2 ^ (all - bits) ≤ 2 ^ digits = pow_mono more in
    absurd (omega (arith, low, high, large)))
    (cases_lt digits (all - bits))

-- there is a run that has the number 1
pub one_exists : (all bits : ℕ) → 1 ≤ bits → bits ≤ all → 1 < 2 ^ (all - (bits - 1))
one_exists all bits some few =
    let le : 1 ≤ all - (bits - 1) = omega (arith, some, few) in
    let power : 2 ^ 1 ≤ 2 ^ (all - (bits - 1)) = pow_mono le in
    omega (arith, power)
