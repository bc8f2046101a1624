use Rattle.std.proofs.Common.{◌+◌, ◌-◌, arith}
use Rattle.idx_pieces.proofs.RankLemmas.{cut_before, cut_kept, ends_at}
use Rattle.idx_pieces.proofs.regions.cut_of.Goals as goal

pub overflow_sub-extent : goal.overflow_sub-extent
overflow_sub-extent c =
    let ends = ends_at c.args.region.now c.lo-lo.result c.hi-hi.result (c.loop-axis.axis - 1) c.get-in-loop-axis.result c.get.result
    (omega arith) c.axes.ensures.valid.ordered c.lo-lo.ensures c.hi-hi.ensures c.get-in-loop-axis.ensures.value c.get.ensures.value in
    omega (arith, ends.ordered)

pub loop-axis-preserved-then-cut-extent : goal.loop-axis-preserved-then-cut-extent
loop-axis-preserved-then-cut-extent c =
    let ends = ends_at c.args.region.now c.lo-lo.result c.hi-hi.result (c.loop-axis.axis - 1) c.get-in-loop-axis.result c.get.result
    (omega arith) c.axes.ensures.valid.ordered c.lo-lo.ensures c.hi-hi.ensures c.get-in-loop-axis.ensures.value c.get.ensures.value in
    cut_before c.args.region.now (c.loop-axis.axis - 1) c.loop-axis.axis c.loop-axis.cut.axis c.loop-axis.cut.extent (c.get.result + 1 - c.get-in-loop-axis.result)
    (omega arith) (omega arith) ends.wide c.loop-axis.invariant c.if-cut-extent.true

pub loop-axis-preserved : goal.loop-axis-preserved
loop-axis-preserved c =
    let ends = ends_at c.args.region.now c.lo-lo.result c.hi-hi.result (c.loop-axis.axis - 1) c.get-in-loop-axis.result c.get.result
    (omega arith) c.axes.ensures.valid.ordered c.lo-lo.ensures c.hi-hi.ensures c.get-in-loop-axis.ensures.value c.get.ensures.value in
    cut_kept c.args.region.now (c.loop-axis.axis - 1) c.loop-axis.axis c.loop-axis.cut.axis c.loop-axis.cut.extent (c.get.result + 1 - c.get-in-loop-axis.result)
    (omega arith) (omega arith) ends.wide c.loop-axis.invariant c.if-cut-extent.false
