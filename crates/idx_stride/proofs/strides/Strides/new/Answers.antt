use Rattle.std.proofs.Common.{◌≡◌, List, ◌++◌, length, take, drop, replicate, sym, ap, ◌∙◌, subst}
use Rattle.idx_stride.specs.declared.axis.Axis.{Axis}
use Rattle.idx_stride.specs.Strides.{IsStrides}
use Rattle.idx_stride.specs.StridesFields.{no_axis}
use Rattle.idx_stride.proofs.StoredLemmas.{front_stored, rest_stored, length_stored}
use Rattle.idx_stride.proofs.strides.Strides.new.Goals as goal

pub invariant_of-result : goal.invariant_of-result
invariant_of-result c =
    let axes : List Axis = c.args.axes.now in
    let stored : c.copy_from_slice.new.self ++ drop (length axes) (replicate 5 no_axis) ≡ axes ++ drop (length axes) (replicate 5 no_axis) =
    ap (λ t. t ++ drop (length axes) (replicate 5 no_axis)) c.copy_from_slice.ensures.after in
    record {
      room = ap length stored ∙ length_stored axes 5 no_axis c.requires.few_axes;
      strides = subst (λ (t : List Axis). IsStrides (record { base = c.args.base; size = c.args.size; coarse = c.args.coarse; axes = t }))
          (sym (ap (take (length axes)) stored ∙ front_stored axes 5 no_axis c.requires.few_axes)) c.requires;
      within = c.requires.few_axes;
      rest = ap (drop (length axes)) stored ∙ rest_stored axes 5 no_axis c.requires.few_axes;
    }
