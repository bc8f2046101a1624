use Rattle.std.proofs.Common.{ℕ, ◌<◌}
use Rattle.idx_core.specs.NewWorld.{IsRightAt}
use Rattle.idx_core.proofs.taking.wrong_volume.Given as goal

-- the volumes so far are right
abbrev pub invariant-loop-i : goal.invariant-loop-i
invariant-loop-i l = (k : ℕ) → k < l.i → IsRightAt l.header l.volumes k
