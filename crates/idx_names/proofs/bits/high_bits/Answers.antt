use Rattle.std.proofs.Common.{◌≤◌, ◌<◌, ◌^◌, arith, lit<, sym}
use Rattle.std.proofs.Math.Nat.{div-eq_of_lt, pow-le-pow_right}
use Rattle.idx_names.proofs.bits.high_bits.Goals as goal

pub returns-else-bits-lt-BITS : goal.returns-else-bits-lt-BITS
returns-else-bits-lt-BITS c =
    let most : 2 ^ 64 ≤ 2 ^ c.args.bits = pow-le-pow_right (lit< tt) {i = 64} {j = c.args.bits} (omega arith) in
    let below : c.args.number < 2 ^ c.args.bits = omega arith in
    sym (div-eq_of_lt below)
