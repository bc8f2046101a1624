use Rattle.std.proofs.Common.{◌<◌, ◌≤◌, length, get_or, arith, refl}
use Rattle.idx_geom.proofs.EndsLemmas.{IsOrdered-zip, zip_ordered_at}
use Rattle.idx_geom.proofs.region.is_ordered.Goals as goal

pub returns-then-get : goal.returns-then-get
returns-then-get c = (
  (λ false_is_true. absurd (cc false_is_true)),
  (λ ordered.
      let inside : c.loop-axis.axis < length c.args.lo.now = omega arith in
      let here : get_or c.args.lo.now c.loop-axis.axis 0 ≤ get_or c.args.hi.now c.loop-axis.axis 0 =
      zip_ordered_at c.args.lo.now c.args.hi.now c.requires ordered c.loop-axis.axis inside in
      absurd (omega arith)),
)

pub returns : goal.returns
returns c = (
  (λ _. IsOrdered-zip c.args.lo.now c.args.hi.now c.requires
      (λ k h. c.loop-axis.invariant k (let inside : k < length c.args.lo.now = h in omega arith))),
  (λ _. refl),
)
