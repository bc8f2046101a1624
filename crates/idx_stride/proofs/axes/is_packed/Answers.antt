use Rattle.std.proofs.Common.{arith}
use Rattle.idx_stride.specs.declared.axis.Axis.{Axis}
use Rattle.idx_stride.proofs.AxesLemmas.{product_fits}
use Rattle.idx_stride.proofs.axes.is_packed.Goals as goal

pub overflow_mul-width : goal.overflow_mul-width
overflow_mul-width c =
    let none : Axis = record { step = 0; count = 0; phase = 0; ratio = 0 } in
    omega (arith, c.requires.small, product_fits c.args.axes.now c.loop-axis.axis-index none c.loop-axis.width _ c.requires.axes c.loop-axis-test.true c.loop-axis.invariant.filled)
