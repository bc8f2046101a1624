use Rattle.std.proofs.Common.{◌≡◌, ℕ, ◌-◌, ◌<◌, length, take, sym, ap, ◌∙◌, subst, arith}
use Rattle.idx_geom.specs.Region.{points}
use Rattle.idx_hz.specs.Stride.{stride}
use Rattle.idx_scatter.specs.Asked.{Asked, asked_before}
use Rattle.idx_scatter.specs.Sides.{AreSides}
use Rattle.idx_scatter.proofs.OrderLemmas.{all-sane, before-fine, before-split}
use Rattle.idx_scatter.proofs.order.Order.before.Goals as goal
use Rattle.idx_scatter.proofs.order.Order.before.Goals.{After-axes-axes}

-- the sides of the finest level, and those of the levels before the coarsest one
fine : (c : After-axes-axes) → AreSides (stride c.self.inside.mask c.self.inside.hi) 0 c.self.inside.region (take c.axes-axes.result c.self.inside.fine)
fine c = subst (λ (n : ℕ). AreSides (stride c.self.inside.mask c.self.inside.hi) 0 c.self.inside.region (take n c.self.inside.fine)) (sym c.axes-axes.ensures.count) c.self.invariant.2

coarse : (c : After-axes-axes) → AreSides (stride c.self.inside.mask (c.self.inside.lo - 1)) 0 c.self.inside.region (take c.axes-axes.result c.self.inside.coarse)
coarse c = subst (λ (n : ℕ). AreSides (stride c.self.inside.mask (c.self.inside.lo - 1)) 0 c.self.inside.region (take n c.self.inside.coarse)) (sym c.axes-axes.ensures.count) c.self.invariant.3

pub before-fine-requires : goal.before-fine-requires
before-fine-requires c =
    all-sane (stride c.self.inside.mask c.self.inside.hi) 0 c.self.inside.region (take c.axes-axes.result c.self.inside.fine) (fine (goal.at.before-fine-requires c).After-axes-axes)

pub before-requires : goal.before-requires
before-requires c = all-sane (stride c.self.inside.mask (c.self.inside.lo - 1)) 0 c.self.inside.region (take c.axes-axes.result c.self.inside.coarse)
    (coarse (goal.at.before-requires c).After-axes-axes)

-- the place is one of the region
inside_place : (c : After-axes-axes) → c.args.place < length (points c.self.inside.region)
inside_place c = subst (λ (a : Asked). c.args.place < length (points a.region)) (sym c.self.view_is) c.requires

abbrev asked_of : After-axes-axes → Asked
asked_of c = record { mask = c.self.inside.mask; region = c.self.inside.region; lo = c.self.inside.lo; hi = c.self.inside.hi }

pub overflow_sub-result : goal.overflow_sub-result
overflow_sub-result c =
    let at = (goal.at.overflow_sub-result c).After-axes-axes in
    let near = c.before-fine.ensures.value (stride c.self.inside.mask c.self.inside.hi) 0 c.self.inside.region (fine at) (inside_place at) in
    let far = c.before-else-self-eq0.ensures.value (stride c.self.inside.mask (c.self.inside.lo - 1)) 0 c.self.inside.region (coarse at) (inside_place at) in
    omega (arith, near.count, far.count, before-split (asked_of at) c.args.place c.self.invariant.0 (omega (arith, c.if-self-eq0.false)) c.self.invariant.1)

pub returns-then-self-eq0 : goal.returns-then-self-eq0
returns-then-self-eq0 c =
    let at = (goal.at.returns-then-self-eq0 c).After-axes-axes in
    let near = c.before-fine.ensures.value (stride c.self.inside.mask c.self.inside.hi) 0 c.self.inside.region (fine at) (inside_place at) in
    near.count ∙ sym (before-fine (asked_of at) c.args.place c.self.invariant.0 c.if-self-eq0.true) ∙ ap (λ (a : Asked). asked_before a c.args.place) c.self.view_is

pub returns-else-self-eq0 : goal.returns-else-self-eq0
returns-else-self-eq0 c =
    let at = (goal.at.returns-else-self-eq0 c).After-axes-axes in
    let near = c.before-fine.ensures.value (stride c.self.inside.mask c.self.inside.hi) 0 c.self.inside.region (fine at) (inside_place at) in
    let far = c.before-else-self-eq0.ensures.value (stride c.self.inside.mask (c.self.inside.lo - 1)) 0 c.self.inside.region (coarse at) (inside_place at) in
    let same : c.before-fine.result.count - c.before-else-self-eq0.result.count ≡ asked_before (asked_of at) c.args.place =
    omega (arith, near.count, far.count, before-split (asked_of at) c.args.place c.self.invariant.0 (omega (arith, c.if-self-eq0.false)) c.self.invariant.1) in
    same ∙ ap (λ (a : Asked). asked_before a c.args.place) c.self.view_is
