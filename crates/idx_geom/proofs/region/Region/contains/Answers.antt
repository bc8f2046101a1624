use Rattle.std.proofs.Common.{ℕ, ◌<◌, length, get_or, sym, arith, refl, subst}
use Rattle.idx_geom.proofs.LiesInLemmas.{IsBetween, LiesIn-from_axes, LiesIn-at_axis}
use Rattle.idx_geom.proofs.region.Region.contains.Goals.{then-coordinate-lo-via-then-coordinate-lo, then-coordinate-lo-via-else-coordinate-lo+then-hi-coordinate}
use Rattle.idx_geom.proofs.region.Region.contains.Goals as goal

pub returns-then-coordinate-lo : goal.returns-then-coordinate-lo
returns-then-coordinate-lo c =
    let inside : c.loop-axis.axis < length c.args.self.now = omega arith in (
      (λ false_is_true. absurd (cc false_is_true)),
      (λ lies.
          let P : ℕ × ℕ → Type 0 = λ b. IsBetween b (get_or c.args.p.now c.loop-axis.axis 0) in
          let here : IsBetween c.bounds-lo.result c.get-coordinate.result =
          rw c.get-coordinate.ensures.value (subst P (sym c.bounds-lo.ensures.value) (LiesIn-at_axis c.args.self.now c.args.p.now lies c.loop-axis.axis inside)) in
          absurd (elim c.then-coordinate-lo.branch [
            | then-coordinate-lo-via-then-coordinate-lo w ↦ omega (arith, here.0)
            | then-coordinate-lo-via-else-coordinate-lo+then-hi-coordinate w ↦ omega (arith, here.1)
          ])),
    )

pub returns : goal.returns
returns c = (
  (λ _. LiesIn-from_axes c.args.self.now c.args.p.now c.requires
      (λ k h. c.loop-axis.invariant k (let inside : k < length c.args.self.now = h in omega arith))),
  (λ _. refl),
)
