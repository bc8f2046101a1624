use Rattle.std.proofs.Common.{arith}
use Rattle.std.specs.Prelude.{length}
use Rattle.idx_check.proofs.NatLemmas.{digits_within}
use Rattle.idx_check.proofs.stray.stray_in_level.Goals as goal

pub grid_at-grid-requires-clause-deepest : goal.grid_at-grid-requires-clause-deepest
grid_at-grid-requires-clause-deepest c =
    omega (arith, digits_within c.ilog2-digits.result c.args.bits (length c.args.mask.now) c.args.number c.requires.bits c.ilog2-digits.ensures.power_le c.requires.exists)

pub cell_of-cell-requires-clause-within : goal.cell_of-cell-requires-clause-within
cell_of-cell-requires-clause-within c = digits_within c.ilog2-digits.result c.args.bits (length c.args.mask.now) c.args.number c.requires.bits c.ilog2-digits.ensures.power_le c.requires.exists
