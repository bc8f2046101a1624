use Rattle.std.proofs.Common.{sym}
use Rattle.std.proofs.lemmas.Slice.Zip.{seconds-zip}
use Rattle.idx_geom.proofs.region.Region.hi.Goals as goal

pub returns : goal.returns
returns c = rw (← c.self.view_is) (sym (seconds-zip c.self.inside.lo c.self.inside.hi (sym c.self.invariant.same_axes)))
