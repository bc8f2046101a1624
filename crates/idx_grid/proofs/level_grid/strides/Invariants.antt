use Rattle.std.proofs.Common.{◌≤◌}
use Rattle.idx_grid.proofs.LevelGridLemmas.{AreStridesFrom}
use Rattle.idx_grid.proofs.level_grid.strides.Given as goal

abbrev pub invariant-loop-place : goal.invariant-loop-place
invariant-loop-place l = record {
  known : AreStridesFrom l.mask l.strides l.place;
  from : l.h ≤ l.place;
}
