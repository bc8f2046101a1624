use Rattle.std.proofs.Common.{arith}
use Rattle.idx_rowmajor.proofs.passes.exchange_by_copy.Goals as goal

pub whole_as_front-copy : goal.whole_as_front-copy
whole_as_front-copy g c = (c.requires.few_bytes, omega (arith, c.requires.small))
