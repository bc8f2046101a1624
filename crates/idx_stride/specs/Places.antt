-- The places of the samples of a grid in a row-major volume. An axis has the bytes from one coordinate to the next
-- (step), how many coordinates there are (count), and which of them are coarse (phase and ratio). Axis 0 is the fastest.
use Rattle.std.specs.Prelude.{ℕ, ◌+◌, ◌*◌, ◌%◌, ◌==◌, ◌&&◌, not, Bool, List, [], ◌∷◌, filter, map, take, drop}
use Rattle.std.specs.List.{flat_map, range_with_len}
use Rattle.idx_stride.specs.declared.axis.Axis.{Axis}

-- this coordinate of the axis, counted from 0, lies on the coarser grid
abbrev pub is_coarse : Axis → ℕ → Bool
is_coarse a k = (a.phase + k) % a.ratio == 0

-- The place of each grid point, and whether it is coarse on all axes, from a place and the same of what is fixed.
abbrev pub places : ℕ → Bool → List Axis → List (ℕ × Bool)
places base coarse [] = (base, coarse) ∷ []
places base coarse (a ∷ slower) =
    flat_map (λ p. map (λ k. (p.0 + k * a.step, p.1 && is_coarse a k)) (range_with_len 0 a.count)) (places base coarse slower)

-- The places of the samples: a point that is coarse on all axes is left out, and none is where `coarse` is false.
abbrev pub offsets : ℕ → Bool → List Axis → List ℕ
offsets base coarse axes = map (λ p. p.0) (filter (λ p. not p.1) (places base coarse axes))

-- the samples of so many bytes at these places
abbrev pub samples_at : ℕ → List ℕ → List ℕ → List ℕ
samples_at size bytes offsets = flat_map (λ o. take size (drop o bytes)) offsets

-- so many places, each the step behind the one before
abbrev pub progression : ℕ → ℕ → ℕ → List ℕ
progression first step count = map (λ k. first + k * step) (range_with_len 0 count)
