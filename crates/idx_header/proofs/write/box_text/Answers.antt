use Rattle.std.proofs.Common.{[], ◌∷◌, ◌++◌, ◌<◌, ℕ, List, length, take, sym, ap, ◌∙◌, arith, append_assoc}
use Rattle.std.specs.List.{slice_index_or}
use Rattle.idx_header.specs.Written.{box_text}
use Rattle.idx_header.proofs.WriteLemmas.{box-more}
use Rattle.idx_header.proofs.write.box_text.Goals as goal

pub loop-axis-preserved : goal.loop-axis-preserved
loop-axis-preserved c =
    let r : List (ℕ × ℕ) = c.args.region.now in
    let i : ℕ = c.loop-axis.axis in
    let axis : List ℕ = box_text (slice_index_or r i (0, 0) ∷ []) in
    let within : i < length r = omega (arith, c.axes-axes.ensures.count, c.loop-axis-test.true) in
    c.in_ok-write_axis-2.ensures ∙ ap (λ text. text ++ axis) (c.in_ok-push.ensures.ok ∙ ap (λ text. text ++ 32 ∷ []) c.loop-axis.invariant)
    ∙ append_assoc (box_text (take i r)) (32 ∷ []) axis ∙ sym (box-more r i c.loop-axis.auto.axis within)
