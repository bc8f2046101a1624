use Rattle.std.proofs.Common.{◌≡◌, ◌+◌, ◌-◌, ap, ◌∙◌, arith, get_or, drop}
use Rattle.std.proofs.lemmas.List.{length-drop}
use Rattle.idx_hz.proofs.MaskLemmas.{bit_count-le}
use Rattle.idx_plan.proofs.RootLemmas.{counts_more}
use Rattle.idx_plan.proofs.counts.counts_behind.Goals as goal

pub overflow_add-counts : goal.overflow_add-counts
overflow_add-counts c =
    omega (arith, c.loop-at.invariant.counted.each c.axis.result c.axis.ensures.small, bit_count-le c.axis.result (drop c.loop-at.at c.args.mask.now), length-drop c.loop-at.at c.args.mask.now, c.axis.ensures.valid.few)

pub loop-at-preserved : goal.loop-at-preserved
loop-at-preserved c =
    let place = c.loop-at.at - 1 in
    let same : place + 1 - 1 ≡ place = omega arith in
    record {
      counted = counts_more c.args.mask.now c.loop-at.counts c.loop-at.at place c.axis.result (omega arith) (omega arith)
          (c.axis.ensures.value ∙ ap (λ n. get_or c.args.mask.now n 0) same) c.axis.ensures.small c.loop-at.invariant.counted;
      from = omega arith;
    }
