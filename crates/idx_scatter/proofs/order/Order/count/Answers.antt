use Rattle.std.proofs.Common.{◌≡◌, ℕ, ◌+◌, ◌-◌, ◌<◌, length, take, sym, ap, ◌∙◌, subst, arith}
use Rattle.idx_geom.specs.Region.{points}
use Rattle.idx_hz.specs.Stride.{stride}
use Rattle.idx_scatter.specs.Asked.{Asked, asked_before, asked_points}
use Rattle.idx_scatter.specs.Sides.{AreSides}
use Rattle.idx_scatter.proofs.OrderLemmas.{all-before, all-sane, before-fine, before-split}
use Rattle.idx_scatter.proofs.order.Order.count.Goals as goal
use Rattle.idx_scatter.proofs.order.Order.count.Goals.{After-count-last}

-- the sides of the finest level, and those of the levels before the coarsest one
fine : (c : After-count-last) → AreSides (stride c.self.inside.mask c.self.inside.hi) 0 c.self.inside.region (take c.axes-axes.result c.self.inside.fine)
fine c = subst (λ (n : ℕ). AreSides (stride c.self.inside.mask c.self.inside.hi) 0 c.self.inside.region (take n c.self.inside.fine)) (sym c.axes-axes.ensures.count) c.self.invariant.2

coarse : (c : After-count-last) → AreSides (stride c.self.inside.mask (c.self.inside.lo - 1)) 0 c.self.inside.region (take c.axes-axes.result c.self.inside.coarse)
coarse c = subst (λ (n : ℕ). AreSides (stride c.self.inside.mask (c.self.inside.lo - 1)) 0 c.self.inside.region (take n c.self.inside.coarse)) (sym c.axes-axes.ensures.count) c.self.invariant.3

pub up_to-fine-requires-clause-sane : goal.up_to-fine-requires-clause-sane
up_to-fine-requires-clause-sane c =
    all-sane (stride c.self.inside.mask c.self.inside.hi) 0 c.self.inside.region (take c.axes-axes.result c.self.inside.fine) (fine (goal.at.up_to-fine-requires-clause-sane c).After-count-last)

pub up_to-requires-clause-sane : goal.up_to-requires-clause-sane
up_to-requires-clause-sane c =
    all-sane (stride c.self.inside.mask (c.self.inside.lo - 1)) 0 c.self.inside.region (take c.axes-axes.result c.self.inside.coarse) (coarse (goal.at.up_to-requires-clause-sane c).After-count-last)

abbrev asked_of : After-count-last → Asked
asked_of c = record { mask = c.self.inside.mask; region = c.self.inside.region; lo = c.self.inside.lo; hi = c.self.inside.hi }

-- the last place is one of the region, and behind it there is none
last_within : (c : After-count-last) → c.count-last.result - 1 < length (points c.self.inside.region)
last_within c = omega (arith, c.count-last.ensures.count, c.count-last.ensures.some)

last : (c : After-count-last) → c.count-last.result - 1 + 1 ≡ length (points c.self.inside.region)
last c = omega (arith, c.count-last.ensures.count, c.count-last.ensures.some)

-- all of the region's points
total : (c : After-count-last) → asked_before (asked_of c) (c.count-last.result - 1 + 1) ≡ length (asked_points c.args.self.now)
total c = ap (asked_before (asked_of c)) (last c) ∙ all-before (asked_of c) ∙ ap (λ (a : Asked). length (asked_points a)) c.self.view_is

pub overflow_sub-result : goal.overflow_sub-result
overflow_sub-result c =
    let at = (goal.at.overflow_sub-result c).After-count-last in
    let near = c.up_to-fine.ensures.value (stride c.self.inside.mask c.self.inside.hi) 0 c.self.inside.region (fine at) (last_within at) in
    let far = c.up_to.ensures.value (stride c.self.inside.mask (c.self.inside.lo - 1)) 0 c.self.inside.region (coarse at) (last_within at) in
    omega (arith, near, far, before-split (asked_of at) (c.count-last.result - 1 + 1) c.self.invariant.0 (omega (arith, c.if-self-eq0.false)) c.self.invariant.1)

pub returns-then-self-eq0-clause-count : goal.returns-then-self-eq0-clause-count
returns-then-self-eq0-clause-count c =
    let at = (goal.at.returns-then-self-eq0-clause-count c).After-count-last in
    let near = c.up_to-fine.ensures.value (stride c.self.inside.mask c.self.inside.hi) 0 c.self.inside.region (fine at) (last_within at) in
    near ∙ sym (before-fine (asked_of at) (c.count-last.result - 1 + 1) c.self.invariant.0 c.if-self-eq0.true) ∙ total at

pub returns-else-self-eq0-clause-count : goal.returns-else-self-eq0-clause-count
returns-else-self-eq0-clause-count c =
    let at = (goal.at.returns-else-self-eq0-clause-count c).After-count-last in
    let near = c.up_to-fine.ensures.value (stride c.self.inside.mask c.self.inside.hi) 0 c.self.inside.region (fine at) (last_within at) in
    let far = c.up_to.ensures.value (stride c.self.inside.mask (c.self.inside.lo - 1)) 0 c.self.inside.region (coarse at) (last_within at) in
    let same : c.up_to-fine.result - c.up_to.result ≡ asked_before (asked_of at) (c.count-last.result - 1 + 1) =
    omega (arith, near, far, before-split (asked_of at) (c.count-last.result - 1 + 1) c.self.invariant.0 (omega (arith, c.if-self-eq0.false)) c.self.invariant.1) in
    same ∙ total at
