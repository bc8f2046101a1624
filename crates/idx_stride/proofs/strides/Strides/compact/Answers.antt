use Rattle.std.proofs.Common.{◌≡◌, ℕ, ◌+◌, Bool, ◌&&◌, List, take, map, sym, ap, ◌∙◌, subst, arith}
use Rattle.std.specs.List.{filter, list_all}
use Rattle.std.proofs.lemmas.List.Elements.{All-filter}
use Rattle.std.proofs.Math.Bool.{and_comm}
use Rattle.std.proofs.lemmas.Bool.{and_right}
use Rattle.idx_stride.specs.declared.axis.Axis.{Axis}
use Rattle.idx_stride.specs.Compact.{IsCompact, is_wide, is_wide_or_coarse}
use Rattle.idx_stride.specs.Strides.{Walk, IsAxis, IsStrides}
use Rattle.idx_stride.proofs.PlacesLemmas.{place, is_kept}
use Rattle.idx_stride.proofs.WideLemmas.{places-wide, reach-wide, grid_points-wide, length-wide, All-wide}
use Rattle.idx_stride.proofs.strides.Strides.compact.Goals as goal

-- the walk without its narrow axes
abbrev compacted : Walk → Walk
compacted w = record { base = w.base; size = w.size; coarse = (list_all is_wide_or_coarse w.axes && w.coarse); axes = filter is_wide w.axes }

IsStrides-compacted : (w : Walk) → IsStrides w → IsStrides (compacted w)
IsStrides-compacted w h = record {
  few_axes = omega (arith, h.few_axes, length-wide w.axes);
  axes = All-filter is_wide IsAxis w.axes h.axes;
  some_bytes = h.some_bytes;
  few_bytes = h.few_bytes;
  within = omega (arith, h.within, reach-wide w.axes h.axes);
  few_points = omega (arith, h.few_points, grid_points-wide w.axes h.axes);
}

IsCompact-compacted : (w : Walk) → IsStrides w → IsCompact w (compacted w)
IsCompact-compacted w h = record {
  valid = IsStrides-compacted w h;
  base = λ i. w.base;
  size = λ i. w.size;
  places = ap (λ ps. map place (filter is_kept ps)) (places-wide w.base w.coarse w.axes h.axes);
  end = ap (λ n. w.base + n + w.size) (reach-wide w.axes h.axes);
  points = grid_points-wide w.axes h.axes;
  wide = All-wide w.axes;
  axes = λ i. filter is_wide w.axes;
  whole_kept = λ none. and_right (list_all is_wide_or_coarse w.axes) w.coarse none;
}

-- what the body puts together
together : (w : Walk) (base size : ℕ) (coarse leaves_out : Bool) (axes now again : List Axis) → base ≡ w.base → size ≡ w.size → leaves_out ≡ w.coarse →
    coarse ≡ (leaves_out && list_all is_wide_or_coarse again) → again ≡ w.axes → now ≡ w.axes → axes ≡ filter is_wide now →
    (let made : Walk = record { base = base; size = size; coarse = coarse; axes = axes } in made) ≡ compacted w
together w base size coarse leaves_out axes now again same_base same_size same_coarse both same_again same_now kept =
    let all : coarse ≡ (list_all is_wide_or_coarse w.axes && w.coarse) =
    both ∙ (λ i. same_coarse i && list_all is_wide_or_coarse (same_again i)) ∙ and_comm w.coarse (list_all is_wide_or_coarse w.axes) in
    let wide : axes ≡ filter is_wide w.axes = kept ∙ ap (filter is_wide) same_now in
    λ i. record { base = same_base i; size = same_size i; coarse = all i; axes = wide i }

pub new-requires : goal.new-requires
new-requires c =
    let w : Walk = c.args.self.now in
    subst IsStrides
    (sym (together w c.first.result c.size.result c.stay_coarse-coarse.result c.leaves_out_coarse.result (take c.wide-number.result.1 c.wide-number.result.0) c.axes.result.now c.axes-2.result.now
    c.first.ensures.base c.size.ensures.bytes c.leaves_out_coarse.ensures c.stay_coarse-coarse.ensures c.axes-2.ensures.axes c.axes.ensures.axes c.wide-number.ensures.axes))
    (IsStrides-compacted w c.axes.ensures.valid)

pub returns : goal.returns
returns c =
    let w : Walk = c.args.self.now in
    subst (IsCompact w)
    (sym (c.new.ensures
    ∙ together w c.first.result c.size.result c.stay_coarse-coarse.result c.leaves_out_coarse.result (take c.wide-number.result.1 c.wide-number.result.0) c.axes.result.now c.axes-2.result.now
    c.first.ensures.base c.size.ensures.bytes c.leaves_out_coarse.ensures c.stay_coarse-coarse.ensures c.axes-2.ensures.axes c.axes.ensures.axes c.wide-number.ensures.axes))
    (IsCompact-compacted w c.axes.ensures.valid)
