-- How a walk is stored: its axes stand in front, and axes of one coordinate behind them.
use Rattle.std.specs.Prelude.{◌≡◌, ◌-◌, ◌≤◌, ◌++◌, length, take, drop, replicate}
use Rattle.std.proofs.Common.{arith, ap, sym, ◌∙◌, take-append-drop, length-take-le}
use Rattle.idx_stride.specs.declared.axis.Axis.{Axis}
use Rattle.idx_stride.specs.Strides.{Walk, IsStrides}
use Rattle.idx_stride.specs.declared.strides.Strides.TheInside.{Inside}

abbrev pub no_axis : Axis
no_axis = record { step = 0; count = 1; phase = 0; ratio = 1 }

abbrev pub walk_of : Inside → Walk
walk_of s = record { base = s.base; size = s.size; coarse = s.coarse; axes = take s.number s.axes }

pub record IsStored (s : Inside) : Type 0 where
  pub room : length s.axes ≡ 5
  pub strides : IsStrides (walk_of s)
  pub within : s.number ≤ 5
  pub rest : drop s.number s.axes ≡ replicate (5 - s.number) no_axis

abbrev pub fields : Walk → Inside
fields w = record {
  base = w.base;
  size = w.size;
  coarse = w.coarse;
  axes = w.axes ++ replicate (5 - length w.axes) no_axis;
  number = length w.axes;
}

pub fields_again : (s : Inside) → IsStored s → fields (walk_of s) ≡ s
fields_again s h =
    let front : length (take s.number s.axes) ≡ s.number = length-take-le s.number s.axes (omega (arith, h.room, h.within)) in
    let whole : take s.number s.axes ++ replicate (5 - length (take s.number s.axes)) no_axis ≡ s.axes =
    rw front (ap (λ t. take s.number s.axes ++ t) (sym h.rest) ∙ take-append-drop s.number s.axes) in
    λ i. record { base = s.base; size = s.size; coarse = s.coarse; axes = whole i; number = front i }
