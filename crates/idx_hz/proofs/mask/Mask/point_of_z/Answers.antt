use Rattle.std.proofs.Common.{◌≡◌, ◌<◌, ◌^◌, ◌∙◌, take, length, arith}
use Rattle.std.proofs.lemmas.List.{length-take-le}
use Rattle.std.proofs.lemmas.List.Elements.{All-take}
use Rattle.idx_geom.specs.Point.{IsCoordinates}
use Rattle.idx_hz.specs.Coordinate.{point_at}
use Rattle.idx_hz.proofs.PointLemmas.{IsPointOf, IsPointOf-point_at, Some-from_SomeIff, value-from_SomeIff, take-coordinates}
use Rattle.idx_hz.proofs.mask.Mask.point_of_z.Goals as goal
use Rattle.idx_hz.proofs.mask.Mask.point_of_z.Goals.{After-unwrap}

-- the point is the one at the Z address
is_point : (c : After-unwrap) → IsPointOf c.args.self.now c.args.axes c.args.z c.unwrap.result
is_point c =
    let made = value-from_SomeIff c.new.result (IsCoordinates (take c.args.axes c.coordinates_at-coordinates.result)) (take c.args.axes c.coordinates_at-coordinates.result) c.unwrap.result c.new.ensures c.unwrap.ensures in
    let is : c.unwrap.result ≡ point_at c.args.self.now c.args.axes c.args.z = made ∙ take-coordinates c.args.self.now c.args.axes c.args.z c.coordinates_at-coordinates.result c.coordinates_at-coordinates.ensures.room (omega (arith, c.requires.axes)) c.coordinates_at-coordinates.ensures.value in
    rw is (IsPointOf-point_at c.args.self.now c.args.axes c.args.z c.requires.named c.requires.small)

pub unwrap-requires : goal.unwrap-requires
unwrap-requires c =
    let size : length (take c.args.axes c.coordinates_at-coordinates.result) ≡ c.args.axes = length-take-le c.args.axes c.coordinates_at-coordinates.result (omega (arith, c.requires.axes, c.coordinates_at-coordinates.ensures.room)) in
    Some-from_SomeIff c.new.result (IsCoordinates (take c.args.axes c.coordinates_at-coordinates.result)) (take c.args.axes c.coordinates_at-coordinates.result) c.new.ensures
    (record { axes = rw size c.requires.axes; small = All-take (λ x. x < 2 ^ 40) c.args.axes c.coordinates_at-coordinates.result c.coordinates_at-coordinates.ensures.small })

pub returns-clause-below : goal.returns-clause-below
returns-clause-below c = (is_point c).below

pub returns-clause-address : goal.returns-clause-address
returns-clause-address c = (is_point c).address

pub returns-clause-only : goal.returns-clause-only
returns-clause-only c = (is_point c).only
