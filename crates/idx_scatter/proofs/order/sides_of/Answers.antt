use Rattle.std.proofs.Common.{length-set, ◌≡◌, ℕ, ◌+◌, ◌<◌, ◌≤◌, length, take, drop, get_or, sym, ◌∙◌, subst, inl, inr, arith}
use Rattle.std.proofs.lemmas.Bool.{cases_lt}
use Rattle.std.proofs.lemmas.List.{get_or-set_other, get_or-set_same, get_or-take, length-take-le}
use Rattle.std.specs.Prelude.{slice_set}
use Rattle.idx_hz.specs.Mask.{bit_count}
use Rattle.idx_hz.specs.Stride.{stride}
use Rattle.idx_walk.proofs.LevelTests.{strides-at}
use Rattle.idx_scatter.specs.declared.side.Side.{Side}
use Rattle.idx_scatter.specs.Sides.{IsSide}
use Rattle.idx_scatter.proofs.OrderLemmas.{sides-from}
use Rattle.idx_scatter.proofs.SideLemmas.{no_side}
use Rattle.idx_scatter.proofs.order.sides_of.Goals as goal

pub side_of-requires-clause-power : goal.side_of-requires-clause-power
side_of-requires-clause-power c =
    let axis : ℕ = c.loop-axis.axis in
    let within : axis < c.axes.result = omega (arith, c.loop-axis-test.true, c.axes-axis-end.ensures.count, c.loop-axis.auto.axis-end, c.axes.ensures.count) in (
      bit_count axis (drop c.args.level c.args.mask.now),
      c.get.ensures.value ∙ strides-at c.args.mask.now c.args.level c.axes.result axis c.grid_up_to-strides.result.step c.grid_up_to-strides.ensures.value.step within,
    )

pub loop-axis-preserved : goal.loop-axis-preserved
loop-axis-preserved c =
    let axis : ℕ = c.loop-axis.axis in
    let within : axis < length c.args.region.now = omega (arith, c.loop-axis-test.true, c.axes-axis-end.ensures.count, c.loop-axis.auto.axis-end) in
    let room : axis < length c.loop-axis.sides = omega (arith, c.loop-axis.invariant.room, within, c.axes.ensures.valid.axes) in
    let value : c.get.result ≡ stride c.args.mask.now c.args.level axis =
    c.get.ensures.value ∙ strides-at c.args.mask.now c.args.level c.axes.result axis c.grid_up_to-strides.result.step c.grid_up_to-strides.ensures.value.step
    (omega (arith, within, c.axes.ensures.count)) in
    record {
      room = length-set c.loop-axis.sides axis c.side_of.result ∙ c.loop-axis.invariant.room;
      each = λ a less. elim (cases_lt a axis) [
        | inl before ↦
            subst (λ (s : Side). IsSide (stride c.args.mask.now c.args.level a) (get_or c.args.region.now a (0, 0)) s)
            (sym (get_or-set_other c.loop-axis.sides axis a c.side_of.result no_side (λ e. omega (arith, e, before)))) (c.loop-axis.invariant.each a before)
        | inr from ↦
            let last : axis ≡ a = omega (arith, less, from) in
            subst (λ (n : ℕ). IsSide (stride c.args.mask.now c.args.level n) (get_or c.args.region.now n (0, 0)) (get_or (slice_set c.loop-axis.sides axis c.side_of.result) n no_side)) last
            (subst (λ (s : Side). IsSide (stride c.args.mask.now c.args.level axis) (get_or c.args.region.now axis (0, 0)) s)
            (sym (get_or-set_same c.loop-axis.sides axis c.side_of.result no_side room))
            (subst (λ (n : ℕ). IsSide n (get_or c.args.region.now axis (0, 0)) c.side_of.result) value c.side_of.ensures))
      ];
    }

pub returns-clause-sides : goal.returns-clause-sides
returns-clause-sides c =
    let axes : ℕ = length c.args.region.now in
    let few : axes ≤ length c.loop-axis.sides = omega (arith, c.loop-axis.invariant.room, c.axes.ensures.valid.axes) in
    sides-from (stride c.args.mask.now c.args.level) 0 c.args.region.now (take axes c.loop-axis.sides) (length-take-le axes c.loop-axis.sides few) (λ a within.
    let same : a ≡ 0 + a = omega arith in
    subst (λ (n : ℕ). IsSide (stride c.args.mask.now c.args.level n) (get_or c.args.region.now a (0, 0)) (get_or (take axes c.loop-axis.sides) a no_side)) same
    (subst (λ (s : Side). IsSide (stride c.args.mask.now c.args.level a) (get_or c.args.region.now a (0, 0)) s) (sym (get_or-take axes c.loop-axis.sides a no_side within))
    (c.loop-axis.invariant.each a (omega (arith, within, c.loop-axis-test.false, c.axes-axis-end.ensures.count, c.loop-axis.auto.axis-end)))))
