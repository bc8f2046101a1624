use Rattle.std.proofs.Common.{◌<◌, length, sym, ap, arith}
use Rattle.std.proofs.lemmas.Slice.Zip.{get_or-zip}
use Rattle.idx_geom.proofs.EndsLemmas.{length-zip_ends, zip_ordered_at}
use Rattle.idx_geom.proofs.region.Region.bounds.Goals as goal

pub get-requires : goal.get-requires
get-requires c =
    omega (arith, ap length c.self.view_is, length-zip_ends c.self.inside.lo c.self.inside.hi c.self.invariant.same_axes)

pub get-requires-2 : goal.get-requires-2
get-requires-2 c =
    omega (arith, ap length c.self.view_is, length-zip_ends c.self.inside.lo c.self.inside.hi c.self.invariant.same_axes, c.self.invariant.same_axes)

pub returns-clause-value : goal.returns-clause-value
returns-clause-value c =
    let inside : c.args.axis < length c.self.inside.lo =
    omega (arith, ap length c.self.view_is, length-zip_ends c.self.inside.lo c.self.inside.hi c.self.invariant.same_axes) in
    let inside_hi : c.args.axis < length c.self.inside.hi = omega (arith, c.self.invariant.same_axes) in
    rw (← c.self.view_is, c.get.ensures.value, c.get-2.ensures.value)
    (sym (get_or-zip c.self.inside.lo c.self.inside.hi c.args.axis (0, 0) inside inside_hi))

pub returns-clause-ordered : goal.returns-clause-ordered
returns-clause-ordered c =
    let inside : c.args.axis < length c.self.inside.lo =
    omega (arith, ap length c.self.view_is, length-zip_ends c.self.inside.lo c.self.inside.hi c.self.invariant.same_axes) in
    omega (arith, zip_ordered_at c.self.inside.lo c.self.inside.hi c.self.invariant.same_axes c.self.invariant.region.ordered c.args.axis inside)
