-- The points of a level form a grid: how far apart they lie on each axis.
use Rattle.std.specs.Prelude.{◌≡◌, ℕ, ◌%◌, ◌^◌, List, drop, slice_index, EachIndex}
use Rattle.idx_hz.specs.Mask.{bit_count}

-- the stride of level h on an axis: 2 to the number of the axis's digits in the places behind h
abbrev pub stride : List ℕ → ℕ → ℕ → ℕ
stride mask h axis = 2 ^ bit_count axis (drop h mask)

-- each coordinate of a point is a multiple of its axis's stride
abbrev pub LiesOnStrides : List ℕ → ℕ → List ℕ → Type 0
LiesOnStrides mask h p = EachIndex p (λ axis. slice_index p axis % stride mask h axis ≡ 0)
