use Rattle.std.proofs.Common.{◌+◌, ◌*◌, drop, get_or, ap, ◌∙◌, arith}
use Rattle.std.proofs.lemmas.Nat.{mul-le}
use Rattle.idx_stride.specs.declared.axis.Axis.{Axis}
use Rattle.idx_stride.specs.Counts.{coarse_points}
use Rattle.idx_stride.proofs.AxesLemmas.{product_fits, product-next, grid_points-drop, coarse_points-drop}
use Rattle.idx_stride.proofs.axes.points.Goals as goal

abbrev none : Axis
none = record { step = 0; count = 0; phase = 0; ratio = 0 }

pub overflow_mul-all : goal.overflow_mul-all
overflow_mul-all c =
    omega (arith, c.requires.few, product_fits c.args.axes.now c.loop-axis.axis-index none c.loop-axis.all _ c.requires.axes c.loop-axis-test.true c.loop-axis.invariant.all)

pub overflow_mul-coarse : goal.overflow_mul-coarse
overflow_mul-coarse c =
    omega (
      arith,
      c.requires.few,
      product_fits c.args.axes.now c.loop-axis.axis-index none c.loop-axis.all _ c.requires.axes c.loop-axis-test.true c.loop-axis.invariant.all,
      mul-le c.loop-axis.coarse c.coarse_count-coarse.result c.loop-axis.all (get_or c.args.axes.now c.loop-axis.axis-index none).count c.loop-axis.invariant.fewer c.coarse_count-coarse.ensures.some,
    )

pub loop-axis-preserved : goal.loop-axis-preserved
loop-axis-preserved c = record {
  all = product-next c.loop-axis.all _ _ _ _ c.loop-axis.invariant.all (grid_points-drop c.args.axes.now c.loop-axis.axis-index none c.loop-axis-test.true);
  coarse =
      ap (λ n. c.loop-axis.coarse * n * coarse_points (drop (c.loop-axis.axis-index + 1) c.args.axes.now)) c.coarse_count-coarse.ensures.count
      ∙ product-next c.loop-axis.coarse _ _ _ _ c.loop-axis.invariant.coarse (coarse_points-drop c.args.axes.now c.loop-axis.axis-index none c.loop-axis-test.true);
  fewer = mul-le c.loop-axis.coarse c.coarse_count-coarse.result c.loop-axis.all
      (get_or c.args.axes.now c.loop-axis.axis-index none).count c.loop-axis.invariant.fewer c.coarse_count-coarse.ensures.some;
}
