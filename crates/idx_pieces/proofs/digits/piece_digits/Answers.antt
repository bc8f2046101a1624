use Rattle.std.proofs.Common.{◌≡◌, ℕ, ◌+◌, ◌-◌, ◌*◌, ◌%◌, ◌^◌, ◌≤◌, Bool, true, false, sym, ap, ◌∙◌, arith}
use Rattle.std.specs.Prelude.{nat_le}
use Rattle.idx_header.specs.Header.{HeaderValue}
use Rattle.idx_pieces.specs.Digits.{greatest, point_bytes}
use Rattle.idx_pieces.proofs.DigitLemmas.{few_bytes, fits, fits_not, four_points, greatest_below, greatest_here, word_points}
use Rattle.idx_pieces.proofs.digits.piece_digits.Goals as goal

pub overflow_mul-e : goal.overflow_mul-e
overflow_mul-e c =
    let e : ℕ = c.max_level-digits.result - c.min.result - c.loop-less.less in
    let few : e ≤ 34 = omega (arith, c.max_level-digits.ensures.few, c.min.ensures) in
    omega (arith, four_points e few)

pub overflow_mul-e-in-loop-less : goal.overflow_mul-e-in-loop-less
overflow_mul-e-in-loop-less c =
    let e : ℕ = c.max_level-digits.result - c.min.result - c.loop-less.less in
    let few : e ≤ 34 = omega (arith, c.max_level-digits.ensures.few, c.min.ensures) in
    omega (arith, few_bytes e c.point_bytes-size.result few c.point_bytes-size.ensures.few)

-- the bytes of four pieces are what the test names
same : (h : HeaderValue) (e size : ℕ) → e ≤ 34 → size ≡ point_bytes h → 4 * (1 * 2 ^ e % 18446744073709551616) * size ≡ 4 * 2 ^ e * point_bytes h
same h e size few is = ap (λ n. 4 * n * size) (word_points e few) ∙ ap (λ n. 4 * 2 ^ e * n) is

pub returns-then-e-size-clause-digits : goal.returns-then-e-size-clause-digits
returns-then-e-size-clause-digits c =
    let h = c.args.header.now in
    let e : ℕ = c.max_level-digits.result - c.min.result - c.loop-less.less in
    let few : e ≤ 34 = omega (arith, c.max_level-digits.ensures.few, c.min.ensures) in
    let test : ℕ → Bool = λ e. nat_le (4 * 2 ^ e * point_bytes h) c.args.room in
    let passes : test e ≡ true =
    fits (4 * (1 * 2 ^ e % 18446744073709551616) * c.point_bytes-size.result) (4 * 2 ^ e * point_bytes h) c.args.room (same h e c.point_bytes-size.result few c.point_bytes-size.ensures.bytes) c.if-e-size.true in
    sym (greatest_here test e (omega (arith, c.loop-less-test.true)) passes) ∙ c.loop-less.invariant

pub loop-less-preserved : goal.loop-less-preserved
loop-less-preserved c =
    let h = c.args.header.now in
    let most : ℕ = c.max_level-digits.result - c.min.result in
    let e : ℕ = most - c.loop-less.less in
    let few : e ≤ 34 = omega (arith, c.max_level-digits.ensures.few, c.min.ensures) in
    let test : ℕ → Bool = λ e. nat_le (4 * 2 ^ e * point_bytes h) c.args.room in
    let fails : test e ≡ false =
    fits_not (4 * (1 * 2 ^ e % 18446744073709551616) * c.point_bytes-size.result) (4 * 2 ^ e * point_bytes h) c.args.room (same h e c.point_bytes-size.result few c.point_bytes-size.ensures.bytes) c.if-e-size.false in
    let at : most - (c.loop-less.less + 1) ≡ e - 1 = omega (arith, c.loop-less-test.true) in
    ap (greatest test) at ∙ greatest_below test e (omega (arith, c.loop-less-test.true)) fails ∙ c.loop-less.invariant
