-- The point of a Z address.
use Rattle.std.specs.Prelude.{ℕ, ◌+◌, ◌*◌, ◌^◌, ◌==◌, if◌then◌else◌, List, [], ◌∷◌, length, map}
use Rattle.std.specs.List.{range_with_len}
use Rattle.std.specs.Int.{bit_at}
use Rattle.idx_hz.specs.Mask.{bit_count}

-- a coordinate: each digit of its axis gives it the address's bit at the digit's place
abbrev pub coordinate_at : List ℕ → ℕ → ℕ → ℕ
coordinate_at [] axis z = 0
coordinate_at (d ∷ finer) axis z =
    (if d == axis then bit_at z (length finer) * 2 ^ bit_count axis finer else 0) + coordinate_at finer axis z

-- the point of so many axes
abbrev pub point_at : List ℕ → ℕ → ℕ → List ℕ
point_at mask axes z = map (λ axis. coordinate_at mask axis z) (range_with_len 0 axes)
