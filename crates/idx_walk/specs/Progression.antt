-- The multiples of a stride between two bounds, and the axis of a walk that they make.
use Rattle.std.specs.Prelude.{ℕ, ◌+◌, ◌-◌, ◌/◌}
use Rattle.idx_lanes.specs.Axis.{step_of}
use Rattle.idx_stride.specs.declared.axis.Axis.{Axis}

-- how many strides the first multiple from a lower end on has
abbrev pub phase_of : ℕ → ℕ → ℕ
phase_of stride lo = (lo + stride - 1) / stride

-- how many multiples lie between two bounds, both among them
abbrev pub count_of : ℕ → ℕ × ℕ → ℕ
count_of stride b = b.1 / stride + 1 - phase_of stride b.0

-- the axis of the multiples between two bounds: each multiple whose number the ratio divides is coarse
abbrev pub axis_at : ℕ → ℕ → ℕ → ℕ × ℕ → Axis
axis_at weight stride ratio b =
    let count = count_of stride b in
    record { step = step_of weight stride count; count = count; phase = phase_of stride b.0; ratio = ratio }
