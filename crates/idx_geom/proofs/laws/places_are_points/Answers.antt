use Rattle.std.proofs.Common.{arith}
use Rattle.idx_geom.proofs.PointsLemmas.{slice_get-place_of, LiesIn-slice_get, place_of-lt, length-points}
use Rattle.idx_geom.proofs.laws.places_are_points.Goals as goal

pub returns-clause-found : goal.returns-clause-found
returns-clause-found c = slice_get-place_of

pub returns-clause-only : goal.returns-clause-only
returns-clause-only c = LiesIn-slice_get

pub returns-clause-below : goal.returns-clause-below
returns-clause-below c = λ r p h. omega (arith, place_of-lt r p h, length-points r)
