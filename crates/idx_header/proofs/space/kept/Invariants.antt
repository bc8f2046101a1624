use Rattle.std.proofs.Common.{◌≡◌, ◌≤◌, drop, length, true}
use Rattle.idx_header.specs.Box.{spare_from}
use Rattle.idx_header.proofs.space.kept.Given as goal

abbrev pub invariant-loop-kept : goal.invariant-loop-kept
invariant-loop-kept l = record {
  few : l.kept ≤ length l.pairs;
  spare : spare_from l.kept (drop l.kept l.pairs) l.mask ≡ true;
}

abbrev pub decreases-loop-kept : goal.decreases-loop-kept
decreases-loop-kept l = l.kept
