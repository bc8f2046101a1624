use Rattle.std.proofs.Common.{arith}
use Rattle.idx_hz.proofs.MaskLemmas.{read_all_small, read_small, used_small}
use Rattle.idx_hz.proofs.mask.Mask.z_of.Goals as goal

pub bit_of-bit-requires-clause-number : goal.bit_of-bit-requires-clause-number
bit_of-bit-requires-clause-number c = omega (arith, used_small c.digits-digits.result.now c.args.p.now c.loop-place.place c.loop-place.z c.loop-place.used c.digits-digits.ensures.valid (omega arith) (omega arith) c.loop-place.invariant)

pub with_bit-z-requires-clause-digits : goal.with_bit-z-requires-clause-digits
with_bit-z-requires-clause-digits c = read_small c.digits-digits.result.now c.args.p.now c.loop-place.place c.loop-place.z c.loop-place.used c.digits-digits.ensures.valid (omega arith) (omega arith) c.loop-place.invariant

pub overflow_add-used : goal.overflow_add-used
overflow_add-used c = omega (arith, used_small c.digits-digits.result.now c.args.p.now c.loop-place.place c.loop-place.z c.loop-place.used c.digits-digits.ensures.valid (omega arith) (omega arith) c.loop-place.invariant)

pub returns-clause-small : goal.returns-clause-small
returns-clause-small c = rw (← c.digits-digits.ensures.same) (read_all_small c.digits-digits.result.now c.args.p.now c.loop-place.place c.loop-place.z c.loop-place.used (omega arith) c.loop-place.invariant)
