-- Where the samples of a region between two levels lie in a row-major raw volume.
use Rattle.std.specs.Prelude.{ℕ, ◌*◌, nat_le, List, [], map, filter, Option, Some, None}
use Rattle.idx_geom.specs.Region.{points, place_of}
use Rattle.idx_hz.specs.Address.{level}
use Rattle.idx_hz.specs.Answer.{has_level}
use Rattle.idx_stride.specs.Strides.{Walk, offsets_of}

-- the byte places of the region's points whose level is lo to hi, in row-major order, in a raw volume of one field
abbrev pub wanted_places : List ℕ → List (ℕ × ℕ) → ℕ → List (ℕ × ℕ) → ℕ → ℕ → List ℕ
wanted_places mask extent size region lo hi =
    map (λ p. size * place_of extent p) (filter (has_level mask lo hi) (points region))

-- the region's points whose level is at most h
abbrev pub points_up_to : List ℕ → List (ℕ × ℕ) → ℕ → List (List ℕ)
points_up_to mask region h = filter (λ p. nat_le (level mask p) h) (points region)

-- the places that a walk visits; where there is no walk, none
abbrev pub places_of : Option Walk → List ℕ
places_of None = []
places_of (Some w) = offsets_of w
