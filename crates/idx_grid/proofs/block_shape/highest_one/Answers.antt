use Rattle.std.proofs.Common.{◌≡◌, suc, ◌+◌, ◌-◌, ◌^◌, ◌<◌, ◌≤◌, sym, subst, arith}
use Rattle.std.specs.Int.Count.{count_leading_zeros}
use Rattle.idx_grid.proofs.BlockShapeLemmas.{IsHighestOne, IsHighestOne-leading}
use Rattle.idx_grid.proofs.block_shape.highest_one.Goals as goal
use Rattle.idx_grid.proofs.block_shape.highest_one.Goals.{Start}

found : (c : Start) → IsHighestOne c.args.n c.args.digits (count_leading_zeros 64 c.args.n)
found c = IsHighestOne-leading c.args.n c.args.digits c.requires.some c.requires.few c.requires.small (omega arith)

pub overflow_sub-zeros-2 : goal.overflow_sub-zeros-2
overflow_sub-zeros-2 c = omega (arith, (found c).more)

pub returns-clause-from : goal.returns-clause-from
returns-clause-from c =
    let place : c.args.digits - 1 - (count_leading_zeros 64 c.args.n - (64 - c.args.digits)) ≡ 63 - count_leading_zeros 64 c.args.n = omega (arith, (found c).more, (found c).some, c.requires.few) in
    subst (λ k. 2 ^ k ≤ c.args.n) (sym place) (found c).from

pub returns-clause-to : goal.returns-clause-to
returns-clause-to c =
    let place : c.args.digits - 1 - (count_leading_zeros 64 c.args.n - (64 - c.args.digits)) + 1 ≡ suc (63 - count_leading_zeros 64 c.args.n) = omega (arith, (found c).more, (found c).some, c.requires.few) in
    subst (λ k. c.args.n < 2 ^ k) (sym place) (found c).to
