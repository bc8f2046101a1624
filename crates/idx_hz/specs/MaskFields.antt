-- How a mask is stored: its digits stand in front, and zeros behind them.
use Rattle.std.specs.Prelude.{◌≡◌, ℕ, List, length, take}
use Rattle.idx_geom.specs.Padded.{IsPadded, padded, length_again, padded_again}
use Rattle.idx_hz.specs.Mask.{IsMask}
use Rattle.idx_hz.specs.declared.mask.Mask.TheInside.{Inside}

pub record IsStored (m : Inside) : Type 0 where
  pub array : IsPadded 40 m.len m.digits
  pub mask : IsMask (take m.len m.digits)

abbrev pub fields : List ℕ → Inside
fields mask = record { digits = padded 40 mask; len = length mask }

pub fields_again : (m : Inside) → IsStored m → fields (take m.len m.digits) ≡ m
fields_again m h =
    λ i. record { digits = padded_again 40 m.len m.digits h.array i; len = length_again 40 m.len m.digits h.array i }
