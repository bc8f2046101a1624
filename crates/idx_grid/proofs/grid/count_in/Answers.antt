use Rattle.std.proofs.Common.{◌≡◌, ℕ, ◌+◌, ◌*◌, ◌<◌, ◌≤◌, drop, get_or, length, refl, sym, ap, ◌∙◌, ◌^◌, arith}
use Rattle.std.proofs.Math.Nat.{mul_assoc}
use Rattle.std.proofs.lemmas.List.{drop_more, drop_all}
use Rattle.std.proofs.lemmas.List.Elements.{All-drop}
use Rattle.idx_geom.specs.Region.{extent}
use Rattle.idx_geom.proofs.EndsLemmas.{size-positive}
use Rattle.idx_geom.proofs.PointsLemmas.{size, length-points}
use Rattle.idx_grid.proofs.GridLemmas.{axis_count, axis_count-le, grid_count, grid_count-drop, length-filter_points, lower_at, upper_at, within_limit, within_limit_here}
use Rattle.idx_grid.proofs.grid.count_in.Goals as goal
use Rattle.idx_grid.proofs.grid.count_in.Goals.{After-count_between-count}

-- what is left of the region
rest : After-count_between-count → ℕ
rest c = size (drop (c.loop-axis.axis + 1) c.args.region.now)

size_here : (c : After-count_between-count) → size (drop c.loop-axis.axis c.args.region.now) ≡ extent (get_or c.args.region.now c.loop-axis.axis (0, 0)) * rest c
unfolding rest
size_here c =
    let inside : c.loop-axis.axis < length c.args.region.now = omega arith in
    ap size (drop_more c.args.region.now c.loop-axis.axis (0, 0) inside)

rest_some : (c : After-count_between-count) → 1 ≤ rest c
unfolding rest
rest_some c = size-positive (drop (c.loop-axis.axis + 1) c.args.region.now) (All-drop (λ b. b.0 ≤ b.1) (c.loop-axis.axis + 1) c.args.region.now c.axes-axis-end.ensures.valid.ordered)

-- how many coordinates lie on the grid
counted : (c : After-count_between-count) → c.count_between-count.result ≡ axis_count (get_or c.args.grid.now.first c.loop-axis.axis 0) (get_or c.args.grid.now.step c.loop-axis.axis 0) (get_or c.args.region.now c.loop-axis.axis (0, 0)).0 (extent (get_or c.args.region.now c.loop-axis.axis (0, 0)))
counted c =
    let inside : c.loop-axis.axis < length c.args.region.now = omega arith in
    let lower : c.get.result ≡ (get_or c.args.region.now c.loop-axis.axis (0, 0)).0 = lower_at c.args.region.now c.lo-lo.result c.loop-axis.axis c.get.result inside c.lo-lo.ensures c.get.ensures.value in
    let upper : c.get-in-loop-axis.result ≡ (get_or c.args.region.now c.loop-axis.axis (0, 0)).1 = upper_at c.args.region.now c.hi-hi.result c.loop-axis.axis c.get-in-loop-axis.result inside c.hi-hi.ensures c.get-in-loop-axis.ensures.value in
    c.count_between-count.ensures
    ∙ (λ i. axis_count (c.get-first.ensures.value i) (c.get-step.ensures.value i) (lower i) (extent (lower i, upper i)))

few : (c : After-count_between-count) → c.loop-axis.count * c.count_between-count.result * rest c ≤ 2 ^ 40
few c =
    let b = get_or c.args.region.now c.loop-axis.axis (0, 0) in
    let narrow : c.count_between-count.result ≤ extent b = omega (arith, counted c, axis_count-le (get_or c.args.grid.now.first c.loop-axis.axis 0) (get_or c.args.grid.now.step c.loop-axis.axis 0) b.0 (extent b)) in
    within_limit c.loop-axis.count c.count_between-count.result (extent b) (rest c) narrow (omega (arith, c.loop-axis.invariant.few, ap (λ n. c.loop-axis.count * n) (size_here c)))

pub loop-axis-init : goal.loop-axis-init
loop-axis-init c = record { whole = omega arith; few = omega (arith, length-points c.args.region.now, c.axes-axis-end.ensures.valid.few) }

pub count_between-count-requires-clause-ordered : goal.count_between-count-requires-clause-ordered
count_between-count-requires-clause-ordered c =
    let inside : c.loop-axis.axis < length c.args.region.now = omega arith in
    omega (arith, lower_at c.args.region.now c.lo-lo.result c.loop-axis.axis c.get.result inside c.lo-lo.ensures c.get.ensures.value, upper_at c.args.region.now c.hi-hi.result c.loop-axis.axis c.get-in-loop-axis.result inside c.hi-hi.ensures c.get-in-loop-axis.ensures.value, c.axes-axis-end.ensures.valid.ordered c.loop-axis.axis (0, 0) inside)

pub overflow_mul-count : goal.overflow_mul-count
overflow_mul-count c = omega (arith, within_limit_here (c.loop-axis.count * c.count_between-count.result) (rest c) (rest_some c) (few c))

pub loop-axis-preserved : goal.loop-axis-preserved
unfolding rest
loop-axis-preserved c =
    let k = c.loop-axis.axis in
    let first = c.args.grid.now.first in
    let step = c.args.grid.now.step in
    let region = c.args.region.now in
    let left = grid_count (drop (k + 1) first) (drop (k + 1) step) (drop (k + 1) region) in
    let here : grid_count (drop k first) (drop k step) (drop k region) ≡ c.count_between-count.result * left =
    grid_count-drop first step region k (get_or region k (0, 0)) (omega arith) (omega arith) (omega arith) refl ∙ ap (λ n. n * left) (sym (counted c)) in
    record {
      whole = mul_assoc c.loop-axis.count c.count_between-count.result left ∙ ap (λ n. c.loop-axis.count * n) (sym here) ∙ c.loop-axis.invariant.whole;
      few = few c;
    }

pub returns-clause-count : goal.returns-clause-count
returns-clause-count c =
    let k = c.loop-axis.axis in
    let first = c.args.grid.now.first in
    let step = c.args.grid.now.step in
    let region = c.args.region.now in
    let none : grid_count (drop k first) (drop k step) (drop k region) ≡ 1 = ap (λ t. grid_count t (drop k step) (drop k region)) (drop_all k first (omega arith)) in
    omega (arith, c.loop-axis.invariant.whole, ap (λ n. c.loop-axis.count * n) none, length-filter_points first step region c.requires.first c.requires.step)
