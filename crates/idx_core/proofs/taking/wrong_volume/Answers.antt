use Rattle.std.proofs.Common.{arith, below_more, length, refl, subst, sym, take, ◌∙◌}
use Rattle.std.proofs.lemmas.Bool.{false≢true}
use Rattle.std.proofs.lemmas.Option.{get_or_from_slice_get, slice_get_read}
use Rattle.idx_core.specs.NewWorld.{IsRightAt, IsRightVolume, times_of}
use Rattle.idx_core.proofs.taking.wrong_volume.Goals as goal

pub returns-then-not-is_right : goal.returns-then-not-is_right
returns-then-not-is_right c = record {
  there = c.loop-i-test.true;
  before = c.loop-i.invariant;
  lacks = λ right. false≢true (sym c.if-not-is_right.true ∙ c.is_right.ensures.1
      (right c.index-volumes-i.result (slice_get_read c.args.volumes.now (length c.args.volumes.now) c.loop-i.i c.index-volumes-i.result refl c.loop-i-test.true c.index-volumes-i.is)));
}

pub loop-i-preserved : goal.loop-i-preserved
loop-i-preserved c = below_more (IsRightAt c.args.header.now c.args.volumes.now) c.loop-i.i c.loop-i.invariant
    (λ v at. subst (IsRightVolume c.args.header.now (times_of (take c.loop-i.i c.args.volumes.now))) (c.index-volumes-i.is ∙ get_or_from_slice_get c.args.volumes.now c.loop-i.i v c.index-volumes-i.result at)
    (c.is_right.ensures.0 c.if-not-is_right.false))

pub returns : goal.returns
returns c = λ i within. c.loop-i.invariant i (omega (arith, within, c.loop-i-test.false))
