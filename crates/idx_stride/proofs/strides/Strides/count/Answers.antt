use Rattle.std.proofs.Common.{◌≡◌, cond, sym, ap, ◌∙◌, arith}
use Rattle.idx_stride.specs.Counts.{coarse_points}
use Rattle.idx_stride.specs.Strides.{Walk, grid_points}
use Rattle.idx_stride.proofs.CountLemmas.{length-offsets, coarse-le-grid}
use Rattle.idx_stride.proofs.strides.Strides.count.Goals as goal

pub overflow_sub-result : goal.overflow_sub-result
overflow_sub-result c =
    omega (arith, c.points-all.ensures.all, c.points-all.ensures.coarse, coarse-le-grid c.axes.result.now)

pub returns-then-leaves_out_coarse-clause-count : goal.returns-then-leaves_out_coarse-clause-count
returns-then-leaves_out_coarse-clause-count c =
    let w : Walk = c.args.self.now in
    let all : c.points-all.result.0 ≡ grid_points w.axes = c.points-all.ensures.all ∙ ap grid_points c.axes.ensures.axes in
    let coarse : c.points-all.result.1 ≡ coarse_points w.axes = c.points-all.ensures.coarse ∙ ap coarse_points c.axes.ensures.axes in
    let out : cond w.coarse (coarse_points w.axes) 0 ≡ coarse_points w.axes = ap (λ b. cond b (coarse_points w.axes) 0) (sym c.leaves_out_coarse.ensures ∙ c.if-leaves_out_coarse.true) in
    omega (arith, length-offsets w.base w.coarse w.axes)

pub returns-else-leaves_out_coarse-clause-count : goal.returns-else-leaves_out_coarse-clause-count
returns-else-leaves_out_coarse-clause-count c =
    let w : Walk = c.args.self.now in
    let all : c.points-all.result.0 ≡ grid_points w.axes = c.points-all.ensures.all ∙ ap grid_points c.axes.ensures.axes in
    let out : cond w.coarse (coarse_points w.axes) 0 ≡ 0 = ap (λ b. cond b (coarse_points w.axes) 0) (sym c.leaves_out_coarse.ensures ∙ c.if-leaves_out_coarse.false) in
    omega (arith, length-offsets w.base w.coarse w.axes)
