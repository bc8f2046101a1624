use Rattle.std.proofs.Common.{◌-◌, length}
use Rattle.idx_dock.specs.Next.{IsPassed}
use Rattle.idx_dock.proofs.next.pass.Given as goal

abbrev pub invariant-loop-place : goal.invariant-loop-place
invariant-loop-place l = IsPassed l.header l.field l.from l.runs l.place

abbrev pub decreases-loop-place : goal.decreases-loop-place
decreases-loop-place l = length l.runs - l.place
