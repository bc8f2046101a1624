-- Walks without the axes of one coordinate.
use Rattle.std.specs.Prelude.{◌≡◌, ℕ, ◌*◌, ◌<◌, Bool, false, ◌||◌, List, [], ◌∷◌, All, filter, nat_lt}
use Rattle.idx_stride.specs.declared.axis.Axis.{Axis}
use Rattle.idx_stride.specs.Places.{is_coarse}
use Rattle.idx_stride.specs.Strides.{Walk, IsStrides, offsets_of, end_of, grid_points}

-- the axis has more than one coordinate
abbrev pub is_wide : Axis → Bool
is_wide a = nat_lt 1 a.count

-- the axis has more than one coordinate, or one that is coarse
abbrev pub is_wide_or_coarse : Axis → Bool
is_wide_or_coarse a = is_wide a || is_coarse a 0

-- the same places along axes of more than one coordinate each
pub record IsCompact (whole compact : Walk) : Type 0 where
  pub valid : IsStrides compact
  pub base : compact.base ≡ whole.base
  pub size : compact.size ≡ whole.size
  pub places : offsets_of compact ≡ offsets_of whole
  pub end : end_of compact ≡ end_of whole
  pub points : grid_points compact.axes ≡ grid_points whole.axes
  pub wide : All (λ a. 1 < a.count) compact.axes
  pub axes : compact.axes ≡ filter is_wide whole.axes
  pub whole_kept : whole.coarse ≡ false → compact.coarse ≡ false

-- each axis steps over what the faster ones fill, the fastest one over so many bytes
abbrev pub IsPacked : ℕ → List Axis → Type 0
IsPacked width [] = Unit {0}
IsPacked width (a ∷ slower) = (a.step ≡ width) × IsPacked (width * a.count) slower
