use Rattle.std.proofs.Common.{◌≤◌}
use Rattle.idx_plan.specs.Parts.{AreCounts}
use Rattle.idx_plan.proofs.counts.counts_behind.Given as goal

-- the digits so far are counted
abbrev pub invariant-loop-at : goal.invariant-loop-at
invariant-loop-at l = record {
  counted : AreCounts l.mask l.at l.counts;
  from : l.place ≤ l.at;
}
