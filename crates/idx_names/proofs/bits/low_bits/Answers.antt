use Rattle.std.proofs.Common.{◌≤◌, ◌<◌, ◌^◌, arith, lit<, sym, mod-eq_of_lt}
use Rattle.std.proofs.Math.Nat.{pow-le-pow_right}
use Rattle.idx_names.proofs.bits.low_bits.Goals as goal

pub returns-else-bits-lt-BITS : goal.returns-else-bits-lt-BITS
returns-else-bits-lt-BITS c =
    let most : 2 ^ 64 ≤ 2 ^ c.args.bits = pow-le-pow_right (lit< tt) {i = 64} {j = c.args.bits} (omega arith) in
    let below : c.args.number < 2 ^ c.args.bits = omega arith in
    sym (mod-eq_of_lt below)
