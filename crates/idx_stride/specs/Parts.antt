-- Parts of a walk along its slowest axis.
use Rattle.std.specs.Prelude.{◌≡◌, ℕ, ◌+◌, ◌*◌, ◌<◌, ◌≤◌, List, [], ◌∷◌, ◌++◌}
use Rattle.idx_stride.specs.declared.axis.Axis.{Axis}
use Rattle.idx_stride.specs.Strides.{Walk, offsets_of, end_of, grid_points}

-- so many coordinates of an axis, from this one on
abbrev pub axis_part : Axis → ℕ → ℕ → Axis
axis_part a from count = record { step = a.step; count = count; phase = a.phase + from; ratio = a.ratio }

-- the walk along these axes and so many coordinates of the slowest one, from this one on
abbrev pub walk_part : Walk → List Axis → Axis → ℕ → ℕ → Walk
walk_part w faster slowest from count = record {
  base = w.base + from * slowest.step;
  size = w.size;
  coarse = w.coarse;
  axes = faster ++ axis_part slowest from count ∷ [];
}

-- a part of a walk: it has fewer points, and does not pass its end
pub record IsPart (whole part : Walk) : Type 0 where
  pub size : part.size ≡ whole.size
  pub behind : whole.base ≤ part.base
  pub within : end_of part ≤ end_of whole
  pub fewer : grid_points part.axes < grid_points whole.axes

-- two parts, one behind the other, that have the places of the whole
pub record AreHalves (whole first second : Walk) : Type 0 where
  pub places : offsets_of whole ≡ offsets_of first ++ offsets_of second
  pub first_part : IsPart whole first
  pub second_part : IsPart whole second
