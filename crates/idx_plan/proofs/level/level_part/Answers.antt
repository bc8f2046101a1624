use Rattle.std.proofs.lemmas.List.{length-set}
use Rattle.std.proofs.Common.{ap, ◌∙◌, ℕ, ◌-◌, ◌<◌, length, get_or, arith}
use Rattle.idx_plan.proofs.NumberLemmas.{fewer_behind}
use Rattle.idx_plan.proofs.RootLemmas.{all_axes, axes_more, is_on, no_point, numbers_between, step_on}
use Rattle.idx_plan.proofs.level.level_part.Goals as goal

pub numbers_below-from-requires-clause-few : goal.numbers_below-from-requires-clause-few
numbers_below-from-requires-clause-few c =
    let k : ℕ = c.loop-axis.axis in
    let few : k < 5 = omega (arith, c.axes-axis-end.ensures.count, c.axes-axis-end.ensures.valid.axes.1, c.loop-axis-test.true) in
    (step_on c.args.mask.now c.args.level k c.first_on-first.result (get_or c.args.behind.now k 0) c.requires.mask.few c.requires.coarsest c.requires.deepest c.first_on-first.ensures (c.requires.behind.each k few)).0

pub numbers_below-from-requires-clause-first : goal.numbers_below-from-requires-clause-first
numbers_below-from-requires-clause-first c =
    let k : ℕ = c.loop-axis.axis in
    let few : k < 5 = omega (arith, c.axes-axis-end.ensures.count, c.axes-axis-end.ensures.valid.axes.1, c.loop-axis-test.true) in
    (step_on c.args.mask.now c.args.level k c.first_on-first.result (get_or c.args.behind.now k 0) c.requires.mask.few c.requires.coarsest c.requires.deepest c.first_on-first.ensures (c.requires.behind.each k few)).1

pub numbers_below-end-requires-clause-few : goal.numbers_below-end-requires-clause-few
numbers_below-end-requires-clause-few c =
    let k : ℕ = c.loop-axis.axis in
    let few : k < 5 = omega (arith, c.axes-axis-end.ensures.count, c.axes-axis-end.ensures.valid.axes.1, c.loop-axis-test.true) in
    (step_on c.args.mask.now c.args.level k c.first_on-first.result (get_or c.args.behind.now k 0) c.requires.mask.few c.requires.coarsest c.requires.deepest c.first_on-first.ensures (c.requires.behind.each k few)).0

pub numbers_below-end-requires-clause-first : goal.numbers_below-end-requires-clause-first
numbers_below-end-requires-clause-first c =
    let k : ℕ = c.loop-axis.axis in
    let few : k < 5 = omega (arith, c.axes-axis-end.ensures.count, c.axes-axis-end.ensures.valid.axes.1, c.loop-axis-test.true) in
    (step_on c.args.mask.now c.args.level k c.first_on-first.result (get_or c.args.behind.now k 0) c.requires.mask.few c.requires.coarsest c.requires.deepest c.first_on-first.ensures (c.requires.behind.each k few)).1

pub returns-then-end-from : goal.returns-then-end-from
returns-then-end-from c =
    let k : ℕ = c.loop-axis.axis in
    let inside : k < length c.args.region.now = omega (arith, c.axes-axis-end.ensures.count, c.loop-axis-test.true) in
    let few : k < 5 = omega (arith, inside, c.axes-axis-end.ensures.valid.axes.1) in
    no_point c.args.mask.now c.args.region.now c.args.level k c.numbers_below-from.result c.numbers_below-end.result inside c.if-end-from.true
    (numbers_between c.args.mask.now c.args.region.now c.args.level k c.first_on-first.result (get_or c.args.behind.now k 0) c.numbers_below-from.result c.numbers_below-end.result c.get.result c.get-in-loop-axis.result c.lo-lo.result c.hi-hi.result
    inside c.first_on-first.ensures (c.requires.behind.each k few) c.lo-lo.ensures c.hi-hi.ensures c.get.ensures.value c.get-in-loop-axis.ensures.value c.numbers_below-from.ensures c.numbers_below-end.ensures)

pub overflow_sub-digits : goal.overflow_sub-digits
overflow_sub-digits c =
    let k : ℕ = c.loop-axis.axis in
    let few : k < 5 = omega (arith, c.axes-axis-end.ensures.count, c.axes-axis-end.ensures.valid.axes.1, c.loop-axis-test.true) in
    omega (arith, c.requires.digits.each k few, c.requires.behind.each k few, fewer_behind c.args.mask.now k 0 (c.args.level - 1) (omega arith))

pub loop-axis-preserved : goal.loop-axis-preserved
loop-axis-preserved c =
    let k : ℕ = c.loop-axis.axis in
    let inside : k < length c.args.region.now = omega (arith, c.axes-axis-end.ensures.count, c.loop-axis-test.true) in
    let few : k < 5 = omega (arith, inside, c.axes-axis-end.ensures.valid.axes.1) in
    let numbers = numbers_between c.args.mask.now c.args.region.now c.args.level k c.first_on-first.result (get_or c.args.behind.now k 0) c.numbers_below-from.result c.numbers_below-end.result c.get.result c.get-in-loop-axis.result c.lo-lo.result c.hi-hi.result
    inside c.first_on-first.ensures (c.requires.behind.each k few) c.lo-lo.ensures c.hi-hi.ensures c.get.ensures.value c.get-in-loop-axis.ensures.value c.numbers_below-from.ensures c.numbers_below-end.ensures in
    let from : ℕ = c.numbers_below-from.result in
    let end : ℕ = c.numbers_below-end.result in
    let left : ℕ = get_or c.args.digits.now k 0 - get_or c.args.behind.now k 0 in
    record {
      first = ap length c.with-part.ensures.first ∙ length-set c.loop-axis.part.first k from ∙ c.loop-axis.invariant.first;
      end = ap length c.with-part.ensures.end ∙ length-set c.loop-axis.part.end k end ∙ c.loop-axis.invariant.end;
      left = ap length c.with-part.ensures.left ∙ length-set c.loop-axis.part.left k left ∙ c.loop-axis.invariant.left;
      known = axes_more c.args.mask.now c.args.region.now c.args.level c.loop-axis.part c.with-part.result k c.numbers_below-from.result c.numbers_below-end.result (get_or c.args.digits.now k 0 - get_or c.args.behind.now k 0)
          (omega (arith, few, c.loop-axis.invariant.first)) (omega (arith, few, c.loop-axis.invariant.end)) (omega (arith, few, c.loop-axis.invariant.left)) c.with-part.ensures.first c.with-part.ensures.end c.with-part.ensures.left
          (is_on c.args.mask.now c.args.region.now c.args.level k c.numbers_below-from.result c.numbers_below-end.result c.get-in-loop-axis.result (get_or c.args.digits.now k 0) (get_or c.args.behind.now k 0) c.hi-hi.result
          c.requires.mask.few c.requires.address inside c.hi-hi.ensures c.get-in-loop-axis.ensures.value c.if-end-from.false (c.requires.digits.each k few) (c.requires.behind.each k few) numbers)
          c.loop-axis.invariant.known;
    }

pub returns : goal.returns
returns c =
    all_axes c.args.mask.now c.args.region.now c.args.level c.loop-axis.part (λ a inside. c.loop-axis.invariant.known a (omega (arith, inside, c.axes-axis-end.ensures.count, c.loop-axis-test.false)))
