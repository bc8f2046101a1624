use Rattle.std.proofs.Common.{◌≡◌, ℕ, false, List, length, sym, ap, ◌∙◌, subst}
use Rattle.idx_stride.specs.declared.axis.Axis.{Axis}
use Rattle.idx_stride.specs.Compact.{IsCompact, IsPacked}
use Rattle.idx_stride.specs.Places.{offsets, progression}
use Rattle.idx_stride.specs.Strides.{Walk, offsets_of}
use Rattle.idx_stride.proofs.DenseLemmas.{offsets-packed}
use Rattle.idx_stride.proofs.strides.Strides.is_dense.Goals as goal

-- a compact walk that leaves nothing out and is packed has the places of a dense one
dense : (w v : Walk) → IsCompact w v → v.coarse ≡ false → IsPacked v.size v.axes → offsets_of w ≡ progression w.base w.size (length (offsets_of w))
dense w v h all packed =
    let same : offsets_of w ≡ offsets v.base false v.axes = sym h.places ∙ ap (λ b. offsets v.base b v.axes) all in
    same
    ∙ offsets-packed v.base v.size v.axes packed
    ∙ (λ i. progression (h.base i) (h.size i) (length (sym same i)))

pub returns-then-not-leaves_out_coarse-clause-dense : goal.returns-then-not-leaves_out_coarse-clause-dense
returns-then-not-leaves_out_coarse-clause-dense c = λ yes.
    let v : Walk = c.compact-walk.result in
    let packed : IsPacked c.size.result c.axes.result.now = c.is_packed.ensures.0 yes in
    let sized : IsPacked v.size c.axes.result.now = subst (λ (n : ℕ). IsPacked n c.axes.result.now) c.size.ensures.bytes packed in
    dense c.args.self.now v c.compact-walk.ensures (sym c.leaves_out_coarse.ensures ∙ c.if-not-leaves_out_coarse.true)
    (subst (λ (axes : List Axis). IsPacked v.size axes) c.axes.ensures.axes sized)
