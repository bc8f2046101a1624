use Rattle.std.proofs.Common.{length, arith}
use Rattle.idx_hz.proofs.HzLemmas.{twos_in-zero}
use Rattle.idx_hz.proofs.MaskLemmas.{level_value, level_origin, level_divides, level_greatest}
use Rattle.idx_hz.proofs.mask.Mask.level_of.Goals as goal

pub overflow_sub-result : goal.overflow_sub-result
overflow_sub-result c = omega (arith, (level_value (length c.args.self.now) 64 c.args.z (omega arith) (omega arith) c.requires).0)

pub returns-then-z-eq0-clause-value : goal.returns-then-z-eq0-clause-value
returns-then-z-eq0-clause-value c = rw c.if-z-eq0.true (omega (arith, twos_in-zero (length c.args.self.now)))

pub returns-else-z-eq0-clause-value : goal.returns-else-z-eq0-clause-value
returns-else-z-eq0-clause-value c = rw c.len-digits.ensures.count ((level_value (length c.args.self.now) 64 c.args.z (omega arith) (omega arith) c.requires).1)

pub returns-else-z-eq0-clause-origin : goal.returns-else-z-eq0-clause-origin
returns-else-z-eq0-clause-origin c = level_origin (length c.args.self.now) c.args.z _ c.requires (returns-else-z-eq0-clause-value c)

pub returns-else-z-eq0-clause-divides : goal.returns-else-z-eq0-clause-divides
returns-else-z-eq0-clause-divides c = level_divides (length c.args.self.now) c.args.z _ (returns-else-z-eq0-clause-value c)

pub returns-else-z-eq0-clause-greatest : goal.returns-else-z-eq0-clause-greatest
returns-else-z-eq0-clause-greatest c = level_greatest (length c.args.self.now) c.args.z _ c.requires (returns-else-z-eq0-clause-value c)
