use Rattle.idx_lanes.specs.Lanes.{block_digits}
use Rattle.idx_lanes.proofs.PlaceLemmas.{ArePlaces}
use Rattle.idx_lanes.proofs.axis_places.axis_places.Given as goal

-- what the digits so far give
abbrev pub invariant-loop-j : goal.invariant-loop-j
invariant-loop-j l = ArePlaces (block_digits l.mask l.k l.bits) l.axis l.x l.j l.unit l.places.bits l.places.first l.places.rest
