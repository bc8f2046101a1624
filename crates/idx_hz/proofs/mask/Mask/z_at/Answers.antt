use Rattle.std.proofs.Common.{◌≤◌, ◌^◌, length, arith}
use Rattle.std.proofs.Math.Pow.{pow_mono}
use Rattle.idx_hz.proofs.ShiftLemmas.{digits-le, shifted-le, IsInverse-shifted}
use Rattle.idx_hz.proofs.mask.Mask.z_at.Goals as goal

pub overflow_mul-result : goal.overflow_mul-result
overflow_mul-result c =
    let power : 2 ^ length c.args.self.now ≤ 2 ^ 40 = pow_mono c.len-digits.ensures.valid.few in
    omega (arith, c.requires)

pub overflow_add-result : goal.overflow_add-result
overflow_add-result c =
    let power : 2 ^ length c.args.self.now ≤ 2 ^ 40 = pow_mono c.len-digits.ensures.valid.few in
    omega (arith, c.requires)

pub overflow_sub-result : goal.overflow_sub-result
overflow_sub-result c = rw (c.len-digits.ensures.count) (digits-le (length c.args.self.now) c.args.address c.len-digits.ensures.valid.few c.requires)

pub overflow_sub-result-2 : goal.overflow_sub-result-2
overflow_sub-result-2 c = rw (c.len-digits.ensures.count) (shifted-le (length c.args.self.now) c.args.address c.len-digits.ensures.valid.few c.requires)

pub returns-clause-small : goal.returns-clause-small
returns-clause-small c = rw (c.len-digits.ensures.count) (IsInverse-shifted (length c.args.self.now) c.args.address c.len-digits.ensures.valid.few c.requires).small

pub returns-clause-inverse : goal.returns-clause-inverse
returns-clause-inverse c = rw (c.len-digits.ensures.count) (IsInverse-shifted (length c.args.self.now) c.args.address c.len-digits.ensures.valid.few c.requires).address
