use Rattle.std.proofs.Common.{ℕ, ◌+◌, sym, subst, arith}
use Rattle.idx_rowmajor.specs.declared.involutions.Involutions.{Involutions}
use Rattle.idx_rowmajor.proofs.SplitLemmas.{AreSplitTo, AreSplitTo-none, AreSplitTo-kept, AreSplitTo-more, AreInvolutions-all}
use Rattle.idx_rowmajor.proofs.involutions.split.Goals as goal
use Rattle.idx_rowmajor.proofs.involutions.split.Goals.{then-halves-start-eq-NO_PLACE, else-halves-start-eq-NO_PLACE}

pub loop-start-init : goal.loop-start-init
loop-start-init c = AreSplitTo-none c.args.bits c.args.targets.now c.inverse-inverse.result c.requires.bits

pub loop-start-preserved : goal.loop-start-preserved
loop-start-preserved c =
    let start : ℕ = c.loop-start.start in
    elim c.if-halves-start-eq-NO_PLACE.branch [
      | then-halves-start-eq-NO_PLACE w ↦
          subst (λ (halves : Involutions). AreSplitTo c.args.bits (start + 1) c.args.targets.now c.inverse-inverse.result halves.first halves.second) (sym w.halves-is)
          (AreSplitTo-more c.args.bits start c.args.targets.now c.inverse-inverse.result c.loop-start.halves.first c.loop-start.halves.second
          w.split_cycle.new.halves.first w.split_cycle.new.halves.second w.split_cycle.ensures.here w.split_cycle.ensures.after w.split_cycle.ensures.kept c.loop-start.invariant)
      | else-halves-start-eq-NO_PLACE w ↦
          subst (λ (halves : Involutions). AreSplitTo c.args.bits (start + 1) c.args.targets.now c.inverse-inverse.result halves.first halves.second) (sym w.halves-is)
          (AreSplitTo-kept c.args.bits start c.args.targets.now c.inverse-inverse.result c.loop-start.halves.first c.loop-start.halves.second
          w.if-halves-start-eq-NO_PLACE.false c.loop-start.invariant)
    ]

pub returns : goal.returns
returns c =
    AreInvolutions-all c.args.bits c.args.targets.now c.inverse-inverse.result c.loop-start.halves.first c.loop-start.halves.second c.loop-start.invariant.split
    (λ i inside. c.loop-start.invariant.all i (omega (arith, c.loop-start-test.false)) inside)
