-- The samples of a block by what decides them: a mask, a box, and the raw samples of one field.
use Rattle.std.specs.Prelude.{ℕ, [], List, length}
use Rattle.idx_geom.specs.Region.{points}
use Rattle.idx_geom.specs.Volume.{samples_of}
use Rattle.idx_layout.specs.Placing.{Placing, stored_sample}

-- a layout of which only the mask and the box matter
abbrev pub bare : List ℕ → List (ℕ × ℕ) → Placing
bare mask box = record { mask = mask; region = box; bits = 0; per_file = 0; sizes = [] }

-- the sample with an address, where `raw` has one sample of `size` bytes for each point of the box, in row-major order
unfoldable pub stored : List ℕ → List (ℕ × ℕ) → ℕ → List ℕ → ℕ → List ℕ
stored mask box size raw address = stored_sample (bare mask box) size (samples_of size (length (points box)) raw) address
