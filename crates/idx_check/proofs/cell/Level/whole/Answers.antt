use Rattle.std.proofs.Common.{◌≡◌, ℕ, ◌+◌, ◌<◌, List, length, get_or, sym, ap, ◌∙◌, arith}
use Rattle.idx_hz.specs.Stride.{stride}
use Rattle.idx_grid.proofs.LevelGridLemmas.{get_or-first_of, get_or-strides}
use Rattle.idx_check.proofs.CellLemmas.{cell_whole}
use Rattle.idx_check.proofs.cell.Level.whole.Goals as goal

pub returns-clause-cell : goal.returns-clause-cell
returns-clause-cell c =
    let l = c.args.self.now in
    let known = c.loop-axis.invariant in
    cell_whole l c.args.bits c.loop-axis.starts c.loop-axis.ends c.requires.within c.requires.ends known.first known.end c.requires.step
    (λ a inside.
    let past : a < c.loop-axis.axis = omega (arith, inside, c.axes-axes.ensures.count, c.loop-axis-test.false) in
    known.starts a past ∙ ap (λ (xs : List ℕ). get_or xs a 0) c.requires.first ∙ get_or-first_of l.mask (c.args.bits + 1) (length l.region) a inside)
    (λ a inside.
    let past : a < c.loop-axis.axis = omega (arith, inside, c.axes-axes.ensures.count, c.loop-axis-test.false) in
    let axis : a < c.axes-axes.result = omega (arith, inside, c.axes-axes.ensures.count) in
    let size : get_or c.grid_up_to-size.result.step a 0 ≡ stride l.mask 0 a = ap (λ (xs : List ℕ). get_or xs a 0) c.grid_up_to-size.ensures.value.step ∙ get_or-strides l.mask 0 c.axes-axes.result a axis in
    known.ends a past ∙ ap (λ n. get_or c.args.first.now a 0 + n) size ∙ ap (λ n. n + stride l.mask 0 a) (sym (known.starts a past)))
