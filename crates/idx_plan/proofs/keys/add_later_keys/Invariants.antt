use Rattle.std.proofs.Common.{◌≡◌, ◌-◌, ◌++◌}
use Rattle.idx_plan.specs.Parts.{AreCounts}
use Rattle.idx_plan.proofs.LevelsLemmas.{keys_before}
use Rattle.idx_plan.proofs.keys.add_later_keys.Given as goal

-- the keys of the levels so far are there, and the digits of the next one are counted
abbrev pub invariant-loop-level : goal.invariant-loop-level
invariant-loop-level l = record {
  counted : AreCounts l.mask (l.level - 1) l.behind;
  keys : l.keys.items ≡ l.fn.keys.items ++ keys_before l.mask l.ask l.bits l.level;
}
