use Rattle.std.proofs.Common.{◌-◌, ◌^◌, ◌≤◌}
use Rattle.idx_layout.specs.Runs.{NoneBetween, first_of_run}
use Rattle.idx_layout.proofs.next_block.next_run.Given as goal

-- no block before the run has a point
abbrev pub invariant-loop-run : goal.invariant-loop-run
invariant-loop-run l = record {
  height : l.run.height ≤ l.digits;
  from : l.from ≤ first_of_run l.run;
  before : NoneBetween l.mask l.region l.bits l.from (first_of_run l.run);
}

-- the blocks from the run on
abbrev pub decreases-loop-run : goal.decreases-loop-run
decreases-loop-run l = 2 ^ l.digits - first_of_run l.run
