use Rattle.std.proofs.Common.{◌-◌, ◌/◌, sym, ap, arith}
use Rattle.std.proofs.Math.Nat.{div-zero}
use Rattle.idx_grid.proofs.GridLemmas.{axis_count-before, axis_count-past}
use Rattle.idx_grid.proofs.grid.count_below.Goals as goal

pub returns-then-end-first : goal.returns-then-end-first
returns-then-end-first c = sym (axis_count-before c.args.first c.args.step c.args.end c.if-end-first.true)

pub returns-then-step-eq0 : goal.returns-then-step-eq0
returns-then-step-eq0 c =
    let m = c.args.end - c.args.first - 1 in
    omega (arith, axis_count-past c.args.first c.args.step m c.args.end (omega arith), ap (λ s. m / s) c.if-step-eq0.true, div-zero m)

pub returns-else-step-eq0 : goal.returns-else-step-eq0
returns-else-step-eq0 c = sym (axis_count-past c.args.first c.args.step (c.args.end - c.args.first - 1) c.args.end (omega arith))
