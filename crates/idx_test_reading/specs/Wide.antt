-- Steps of large blocks.
use Rattle.std.specs.Prelude.{[], ◌∷◌}
use Rattle.idx_outside.specs.Shape.{Shape}

-- eight blocks of one field, each of 2^24 bytes
abbrev pub wide_blocks : Shape
wide_blocks = record { blocks = 8; lengths = 16777216 ∷ [] }
