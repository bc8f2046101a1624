use Rattle.std.proofs.Common.{sym, ap, ◌∙◌}
use Rattle.idx_rowmajor.specs.Reverse.{turned}
use Rattle.idx_rowmajor.proofs.ReverseLemmas.{turned-zero, IsTurning-more, IsTurning-all}
use Rattle.idx_rowmajor.proofs.turned.turned.Goals as goal

pub returns-then-place-eq0 : goal.returns-then-place-eq0
returns-then-place-eq0 c = sym (ap (turned c.args.bits) c.if-place-eq0.true ∙ turned-zero c.args.bits 1)

pub loop-left-preserved : goal.loop-left-preserved
loop-left-preserved c = IsTurning-more c.args.bits c.args.place c.loop-left.left c.loop-left.turned c.loop-left-test.true c.loop-left.invariant

pub returns : goal.returns
returns c = IsTurning-all c.args.bits c.args.place c.loop-left.left c.loop-left.turned c.requires.some c.loop-left-test.false c.loop-left.invariant
