use Rattle.std.proofs.Common.{ℕ, ◌+◌, ◌<◌, ◌≤◌, get_or}
use Rattle.idx_check.proofs.cell.Level.holds.Given as goal

-- the box has the ends on the axes so far
abbrev pub invariant-loop-axis : goal.invariant-loop-axis
invariant-loop-axis l = (a : ℕ) → a < l.axis →
    (get_or l.self.lo a 0 ≤ get_or l.cell.first a 0) × (get_or l.cell.end a 0 ≤ get_or l.self.hi a 0 + get_or l.self.step a 0)
