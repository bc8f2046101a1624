use Rattle.std.proofs.Common.{◌≤◌, ◌^◌}
use Rattle.idx_raw.proofs.plan.window_size.Given as goal

-- at least a sample, and no more than a window
abbrev pub invariant-loop-axis : goal.invariant-loop-axis
invariant-loop-axis l = record { some : l.strides.size ≤ l.needed; few : l.needed ≤ 2 ^ 18 }
