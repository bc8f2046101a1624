use Rattle.std.proofs.Common.{arith}
use Rattle.idx_stride.proofs.AxesLemmas.{reach-drop}
use Rattle.idx_stride.proofs.axes.reach.Goals as goal

pub overflow_sub-reach : goal.overflow_sub-reach
overflow_sub-reach c = (c.requires.axes c.loop-axis.axis-index (record { step = 0; count = 0; phase = 0; ratio = 0 }) c.loop-axis-test.true).counted

pub overflow_mul-reach : goal.overflow_mul-reach
overflow_mul-reach c = omega (arith, reach-drop c.args.axes.now c.loop-axis.axis-index (record { step = 0; count = 0; phase = 0; ratio = 0 }) c.loop-axis-test.true)

pub overflow_add-reach : goal.overflow_add-reach
overflow_add-reach c = omega (arith, reach-drop c.args.axes.now c.loop-axis.axis-index (record { step = 0; count = 0; phase = 0; ratio = 0 }) c.loop-axis-test.true)

pub loop-axis-preserved : goal.loop-axis-preserved
loop-axis-preserved c = omega (arith, reach-drop c.args.axes.now c.loop-axis.axis-index (record { step = 0; count = 0; phase = 0; ratio = 0 }) c.loop-axis-test.true)
