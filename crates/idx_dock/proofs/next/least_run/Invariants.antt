use Rattle.std.proofs.Common.{take}
use Rattle.std.specs.Option.{option_copied}
use Rattle.idx_dock.specs.Content.{runs_in}
use Rattle.idx_dock.specs.Next.{ArePassed, IsNext}
use Rattle.idx_dock.proofs.next.least_run.Given as goal

-- the next run of the pieces so far
abbrev pub invariant-loop-i : goal.invariant-loop-i
invariant-loop-i l = record {
  next : IsNext l.header l.field l.from (runs_in (take l.i l.awaited)) (option_copied l.next);
  passed : ArePassed l.header l.field l.from l.awaited l.passed;
}
