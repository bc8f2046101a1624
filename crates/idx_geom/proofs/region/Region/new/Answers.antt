use Rattle.std.proofs.Common.{◌≡◌, length, arith, rules}
use Rattle.idx_geom.proofs.EndsLemmas.{IsRegion-zip}
use Rattle.idx_geom.proofs.region.Region.new.Goals as goal

pub invariant_of-result : goal.invariant_of-result
invariant_of-result c =
    let same : length c.args.lo ≡ length c.args.hi = omega arith in
    record {
      same_axes = same;
      region = IsRegion-zip c.args.lo c.args.hi same c.axes.ensures.valid c.axes-2.ensures.valid
          (c.is_ordered.ensures.0 (search rules))
          (c.in_ok-point_count.ensures.0);
    }
