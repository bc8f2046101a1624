use Rattle.std.proofs.Common.{arith}
use Rattle.idx_grid.proofs.GridLemmas.{lower_at, upper_at}
use Rattle.idx_lanes.proofs.axis.bounds.Goals as goal

pub returns-clause-ordered : goal.returns-clause-ordered
returns-clause-ordered c =
    let bs = c.args.region.now in
    let axis = c.args.axis in
    omega (
      arith,
      c.requires.valid.ordered axis (0, 0) c.requires.axis,
      lower_at bs c.lo.result axis c.get.result c.requires.axis c.lo.ensures c.get.ensures.value,
      upper_at bs c.hi.result axis c.get-2.result c.requires.axis c.hi.ensures c.get-2.ensures.value,
    )
