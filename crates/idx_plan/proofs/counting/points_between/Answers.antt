use Rattle.idx_plan.proofs.CountingLemmas.{counted_between}
use Rattle.idx_plan.proofs.counting.points_between.Goals as goal

pub returns-clause-count : goal.returns-clause-count
returns-clause-count c =
    (counted_between c.args.header.now.mask c.args.region.now c.args.lo c.args.hi c.points_up_to-fine.result c.points_up_to.result c.if-lo-eq0.false c.requires.ordered c.points_up_to-fine.ensures.count c.points_up_to.ensures.count).1

pub overflow_sub-result : goal.overflow_sub-result
overflow_sub-result c =
    (counted_between c.args.header.now.mask c.args.region.now c.args.lo c.args.hi c.points_up_to-fine.result c.points_up_to.result c.if-lo-eq0.false c.requires.ordered c.points_up_to-fine.ensures.count c.points_up_to.ensures.count).0
