use Rattle.std.proofs.Common.{◌+◌, ◌-◌, ◌≤◌, arith}
use Rattle.idx_scatter.proofs.SideLemmas.{div-mono, multiples-few, shifted}
use Rattle.idx_scatter.proofs.side.Side.multiples.Goals as goal

pub overflow_sub-result : goal.overflow_sub-result
overflow_sub-result c =
    let side = c.args.self.now in
    let less : side.lo + side.stride - 1 ≤ side.lo + c.args.count + side.stride - 1 = omega arith in
    omega (
      arith,
      shifted side c.args.count c.requires.sane,
      c.requires.sane.below,
      div-mono side.stride (side.lo + side.stride - 1) (side.lo + c.args.count + side.stride - 1) c.requires.sane.paced less,
    )

pub returns-clause-value : goal.returns-clause-value
returns-clause-value c =
    omega (arith, shifted c.args.self.now c.args.count c.requires.sane, c.requires.sane.below)

pub returns-clause-few : goal.returns-clause-few
returns-clause-few c =
    let side = c.args.self.now in
    omega (arith, shifted side c.args.count c.requires.sane, c.requires.sane.below, multiples-few side.stride side.lo c.args.count c.requires.sane.paced)
