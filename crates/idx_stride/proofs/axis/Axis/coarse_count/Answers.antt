use Rattle.std.proofs.Common.{arith}
use Rattle.idx_stride.proofs.CoarseLemmas.{count-coarse, coarse-le-count}
use Rattle.idx_stride.proofs.axis.Axis.coarse_count.Goals as goal

pub returns-clause-count : goal.returns-clause-count
returns-clause-count c = omega (arith, c.div_ceil.ensures, c.div_ceil-2.ensures, count-coarse c.args.self.now c.requires.paced)

pub returns-clause-some : goal.returns-clause-some
returns-clause-some c = omega (arith, c.div_ceil.ensures, c.div_ceil-2.ensures, count-coarse c.args.self.now c.requires.paced, coarse-le-count c.args.self.now)
