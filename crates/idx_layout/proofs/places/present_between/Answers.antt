use Rattle.std.proofs.Common.{◌-◌, arith}
use Rattle.idx_layout.specs.Placing.{has_point_in}
use Rattle.idx_layout.proofs.ListLemmas.{count-le}
use Rattle.idx_layout.proofs.places.present_between.Goals as goal

pub returns-clause-few : goal.returns-clause-few
returns-clause-few c =
    let h = c.args.header.now in
    omega (arith, c.blocks_with_points.ensures, count-le (has_point_in c.mask.result c.region.result c.bits_per_block.result) c.args.first (c.args.end - c.args.first))
