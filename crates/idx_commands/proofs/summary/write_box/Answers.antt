use Rattle.std.proofs.Common.{◌++◌, codes, arith}
use Rattle.idx_commands.specs.Summary.{ends_text}
use Rattle.idx_commands.proofs.SummaryLemmas.{axis_more}
use Rattle.idx_commands.proofs.summary.write_box.Goals as goal

pub loop-axis-preserved : goal.loop-axis-preserved
loop-axis-preserved c =
    axis_more ends_text c.args.region.now c.loop-axis.axis (c.args.out.now ++ codes "box") c.loop-axis.out c.write_ends.new.out
    c.lo-lo.result c.hi-hi.result c.get.result c.get-in-loop-axis.result (omega arith) c.lo-lo.ensures c.hi-hi.ensures
    c.get.ensures.value c.get-in-loop-axis.ensures.value c.loop-axis.invariant c.in_ok-write_ends.ensures
