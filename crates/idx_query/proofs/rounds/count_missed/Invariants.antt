use Rattle.std.proofs.Common.{◌≡◌, ◌≤◌, take}
use Rattle.idx_query.proofs.MissLemmas.{nones}
use Rattle.idx_query.proofs.rounds.count_missed.Given as goal

-- so often nothing was found among the first i
abbrev pub invariant-loop-i : goal.invariant-loop-i
invariant-loop-i g l = record {
  count : l.count ≡ nones (take l.i l.looked.found);
  few : l.count ≤ l.i;
}
