use Rattle.std.proofs.Common.{◌≡◌, take}
use Rattle.idx_geom.specs.Region.{lower_ends, upper_ends}
use Rattle.idx_header.proofs.space.region_of.Given as goal

abbrev pub invariant-loop-pair : goal.invariant-loop-pair
invariant-loop-pair l = record {
  lower : l.lower.items ≡ lower_ends (take l.pair-index l.pairs);
  upper : l.upper.items ≡ upper_ends (take l.pair-index l.pairs);
}
