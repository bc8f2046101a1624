use Rattle.std.proofs.Common.{◌≡◌, ◌-◌, length, ap, arith, inl}
use Rattle.std.specs.Prelude.{filter}
use Rattle.std.specs.List.{range_with_len}
use Rattle.idx_layout.specs.Placing.{has_point_in}
use Rattle.idx_layout.proofs.ListLemmas.{count-le}
use Rattle.idx_layout.proofs.points.blocks_with_points.Goals as goal

pub count-requires-clause-fits : goal.count-requires-clause-fits
count-requires-clause-fits c =
    let few = count-le (has_point_in c.args.mask.now c.args.region.now c.args.bits) c.args.first (c.args.end - c.args.first) in
    let count : length c.blocks_in.result ≡ length (filter
    (has_point_in c.args.mask.now c.args.region.now c.args.bits)
    (range_with_len c.args.first (c.args.end - c.args.first))) = ap length c.blocks_in.ensures in
    inl (omega (arith, few, count, c.ranges.end.fits))
