use Rattle.std.proofs.Common.{◌≡◌, ℕ, ◌<◌, get_or, length}
use Rattle.idx_plan.proofs.RootLemmas.{IsOn}
use Rattle.idx_plan.proofs.level.level_part.Given as goal

-- the numbers on the axes so far are known
abbrev pub invariant-loop-axis : goal.invariant-loop-axis
invariant-loop-axis l = record {
  first : length l.part.first ≡ 5;
  end : length l.part.end ≡ 5;
  left : length l.part.left ≡ 5;
  known : (a : ℕ) → a < l.axis → IsOn l.mask l.region l.level a (get_or l.part.first a 0) (get_or l.part.end a 0) (get_or l.part.left a 0);
}
