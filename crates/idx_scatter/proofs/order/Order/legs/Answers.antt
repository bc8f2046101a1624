use Rattle.std.proofs.Common.{length-set, ◌≡◌, ℕ, ◌+◌, ◌-◌, ◌<◌, List, length, take, get_or, set, sym, ap, ◌∙◌, subst, inl, inr, arith}
use Rattle.std.proofs.lemmas.Bool.{cases_lt}
use Rattle.std.proofs.lemmas.List.{get_or-set_other, get_or-set_same, get_or-take}
use Rattle.idx_hz.specs.Stride.{stride}
use Rattle.idx_lanes.proofs.LanesLemmas.{same_axes-part}
use Rattle.idx_lanes.specs.declared.block_part.BlockPart.{BlockPart}
use Rattle.idx_scatter.specs.Asked.{Asked}
use Rattle.idx_scatter.specs.Legs.{IsLeg, no_leg}
use Rattle.idx_scatter.specs.Sides.{AreSides, IsSide}
use Rattle.idx_scatter.specs.declared.leg.Leg.{Leg}
use Rattle.idx_scatter.specs.declared.side.Side.{Side}
use Rattle.idx_scatter.proofs.OrderLemmas.{sides-at}
use Rattle.idx_scatter.proofs.SideLemmas.{no_side}
use Rattle.idx_scatter.proofs.order.Order.legs.Goals as goal

-- the side of an axis among those of all axes
side-taken : (s : ℕ → ℕ) (region asked : List (ℕ × ℕ)) (sides : List Side) (axis : ℕ) → region ≡ asked → axis < length asked → AreSides s 0 region (take (length region) sides) →
    IsSide (s axis) (get_or asked axis (0, 0)) (get_or sides axis no_side)
side-taken s region asked sides axis same within are =
    let there : axis < length region = omega (arith, within, ap length same) in
    let first : 0 + axis ≡ axis = omega arith in
    subst (λ (bs : List (ℕ × ℕ)). IsSide (s axis) (get_or bs axis (0, 0)) (get_or sides axis no_side)) same
    (subst (λ (side : Side). IsSide (s axis) (get_or region axis (0, 0)) side) (get_or-take (length region) sides axis no_side there)
    (subst (λ (n : ℕ). IsSide (s n) (get_or region axis (0, 0)) (get_or (take (length region) sides) axis no_side)) first (sides-at s 0 region (take (length region) sides) are axis there)))

pub loop-axis-preserved : goal.loop-axis-preserved
loop-axis-preserved c =
    let axis : ℕ = c.loop-axis.axis in
    let part : BlockPart = c.args.part.now in
    let within : axis < length part.region = omega (arith, c.loop-axis-test.true, c.axes-axis-end.ensures.count, same_axes-part part c.axes-axis-end.ensures.valid c.requires.inside) in
    let room : axis < length c.loop-axis.legs = omega (arith, c.loop-axis.invariant.room, c.loop-axis-test.true, c.axes-axis-end.ensures.count, c.axes-axis-end.ensures.valid.axes) in
    let same : c.self.inside.region ≡ part.region = ap (λ (a : Asked). a.region) c.self.view_is ∙ sym c.requires.region in
    let leg : Leg = record { fine = get_or c.self.inside.fine axis no_side; coarse = get_or c.self.inside.coarse axis no_side; here = c.leg_start-here.result.0; step = c.leg_start-here.result.1 } in
    let inside : Asked = record { mask = c.self.inside.mask; region = c.self.inside.region; lo = c.self.inside.lo; hi = c.self.inside.hi } in
    let leg_is : IsLeg c.args.self.now part axis leg = subst (λ (a : Asked). IsLeg a part axis leg) c.self.view_is (record {
      fine = side-taken (stride inside.mask inside.hi) inside.region part.region c.self.inside.fine axis same within c.self.invariant.2;
      coarse = side-taken (stride inside.mask (inside.lo - 1)) inside.region part.region c.self.inside.coarse axis same within c.self.invariant.3;
      here = c.leg_start-here.ensures.here;
      step = c.leg_start-here.ensures.step;
    }) in
    record {
      room = length-set c.loop-axis.legs axis leg ∙ c.loop-axis.invariant.room;
      each = λ a less. elim (cases_lt a axis) [
        | inl before ↦
            subst (λ (l : Leg). IsLeg c.args.self.now part a l)
            (sym (get_or-set_other c.loop-axis.legs axis a leg no_leg (λ e. omega (arith, e, before)))) (c.loop-axis.invariant.each a before)
        | inr from ↦
            let last : axis ≡ a = omega (arith, less, from) in
            subst (λ (n : ℕ). IsLeg c.args.self.now part n (get_or (set c.loop-axis.legs axis leg) n no_leg)) last
            (subst (λ (l : Leg). IsLeg c.args.self.now part axis l) (sym (get_or-set_same c.loop-axis.legs axis leg no_leg room)) leg_is)
      ];
    }

pub returns-clause-legs : goal.returns-clause-legs
returns-clause-legs c = λ axis within.
    c.loop-axis.invariant.each axis (omega (arith, within, c.loop-axis-test.false, c.axes-axis-end.ensures.count, same_axes-part c.args.part.now c.axes-axis-end.ensures.valid c.requires.inside))
