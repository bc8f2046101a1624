use Rattle.std.proofs.Common.{◌≡◌, ◌+◌, arith}
use Rattle.idx_geom.specs.Region.{extent}
use Rattle.idx_grid.proofs.GridLemmas.{axis_count, axis_count-append}
use Rattle.idx_grid.proofs.grid.count_between.Goals as goal
use Rattle.idx_grid.proofs.grid.count_between.Goals.{After-count_below-2}

-- those below the end behind the upper bound are those below the lower bound, and those between
split : (c : After-count_below-2) → c.count_below.result ≡ c.count_below-2.result + axis_count c.args.first c.args.step c.args.lo (extent (c.args.lo, c.args.hi))
split c =
    omega (arith, c.count_below.ensures, c.count_below-2.ensures, axis_count-append c.args.first c.args.step 0 c.args.lo (extent (c.args.lo, c.args.hi)) (c.args.hi + 1) c.args.lo (omega arith) (omega arith))

pub overflow_sub-result : goal.overflow_sub-result
overflow_sub-result c = omega (arith, split c)

pub returns : goal.returns
returns c = omega (arith, split c)
