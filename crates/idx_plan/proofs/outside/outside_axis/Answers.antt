use Rattle.std.proofs.Common.{arith}
use Rattle.idx_plan.proofs.OutsideLemmas.{ends-at_end}
use Rattle.idx_plan.proofs.outside.outside_axis.Goals as goal

pub returns-clause-lower : goal.returns-clause-lower
returns-clause-lower c =
    (ends-at_end c.args.region.now c.region-volume.result c.args.header.now.box c.loop-axis.axis c.requires
    c.axes-axis-end.ensures.valid.ordered c.region-volume.ensures.value (omega (arith, c.axes-axis-end.ensures.count, c.loop-axis-test.false)) c.loop-axis.invariant).0

pub returns-clause-upper : goal.returns-clause-upper
returns-clause-upper c =
    (ends-at_end c.args.region.now c.region-volume.result c.args.header.now.box c.loop-axis.axis c.requires
    c.axes-axis-end.ensures.valid.ordered c.region-volume.ensures.value (omega (arith, c.axes-axis-end.ensures.count, c.loop-axis-test.false)) c.loop-axis.invariant).1
