use Rattle.std.proofs.Common.{◌≡◌, ℕ, ◌+◌, ◌<◌, get_or, length}
use Rattle.idx_check.proofs.cell.Level.whole.Given as goal

-- the axes so far are known
abbrev pub invariant-loop-axis : goal.invariant-loop-axis
invariant-loop-axis l = record {
  first : length l.starts ≡ 5;
  end : length l.ends ≡ 5;
  starts : (a : ℕ) → a < l.axis → get_or l.starts a 0 ≡ get_or l.first a 0;
  ends : (a : ℕ) → a < l.axis → get_or l.ends a 0 ≡ get_or l.first a 0 + get_or l.size a 0;
}
