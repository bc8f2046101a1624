use Rattle.std.proofs.Common.{◌≤◌}
use Rattle.idx_layout.specs.Runs.{first_of_run}
use Rattle.idx_layout.proofs.RunLemmas.{Descends}
use Rattle.idx_layout.proofs.next_block.first_block.Given as goal

-- the half run so far has a point, and no block of the run before it has
abbrev pub invariant-loop-height : goal.invariant-loop-height
invariant-loop-height l = record {
  half : Descends l.mask l.region l.bits (first_of_run l.run) l.height l.number;
  height : l.height ≤ l.run.height;
}
