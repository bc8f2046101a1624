use Rattle.std.proofs.Common.{◌≡◌, drop}
use Rattle.idx_geom.specs.Region.{place_of}
use Rattle.idx_geom.proofs.region.Region.rank_of.Given as goal

abbrev pub invariant-loop-axis : goal.invariant-loop-axis
invariant-loop-axis l = l.place ≡ place_of (drop l.axis l.self) (drop l.axis l.p)
