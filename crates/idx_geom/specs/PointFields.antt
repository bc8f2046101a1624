-- How a point is stored: its coordinates stand in front, and zeros behind them.
use Rattle.std.specs.Prelude.{◌≡◌, ℕ, List, length, take}
use Rattle.idx_geom.specs.Padded.{IsPadded, padded, length_again, padded_again}
use Rattle.idx_geom.specs.Point.{IsPoint}
use Rattle.idx_geom.specs.declared.point.Point.TheInside.{Inside}

pub record IsStored (p : Inside) : Type 0 where
  pub array : IsPadded 5 p.axes p.coordinates
  pub point : IsPoint (take p.axes p.coordinates)

abbrev pub fields : List ℕ → Inside
fields p = record { coordinates = padded 5 p; axes = length p }

pub fields_again : (p : Inside) → IsStored p → fields (take p.axes p.coordinates) ≡ p
fields_again p h =
    λ i. record { coordinates = padded_again 5 p.axes p.coordinates h.array i; axes = length_again 5 p.axes p.coordinates h.array i }
