-- A volume out of the blocks of a step.
use Rattle.std.specs.Prelude.{ℕ, ◌*◌, ◌/◌, ◌%◌, ◌^◌, List, length, map, take, drop, slice_index}
use Rattle.std.specs.List.{range_with_len}
use Rattle.idx_geom.specs.Region.{points}
use Rattle.idx_hz.specs.Address.{hz_address}
use Rattle.idx_layout.specs.Placing.{Placing}

-- A content gives the bytes of the block of a field and a number.

-- the sample of a field at a point: it stands in the block of the point's address, at the place of that address in it
abbrev pub sample_in : Placing → (ℕ → ℕ → List ℕ) → ℕ → List ℕ → List ℕ
sample_in l content field p =
    take (slice_index l.sizes field)
    (drop (slice_index l.sizes field * (hz_address l.mask p % 2 ^ l.bits)) (content field (hz_address l.mask p / 2 ^ l.bits)))

-- the samples of a field: those of the box's points in row-major order
abbrev pub field_in : Placing → (ℕ → ℕ → List ℕ) → ℕ → List (List ℕ)
field_in l content field = map (sample_in l content field) (points l.region)

-- the volume: the samples of each field
abbrev pub volume_in : Placing → (ℕ → ℕ → List ℕ) → List (List (List ℕ))
volume_in l content = map (field_in l content) (range_with_len 0 (length l.sizes))
