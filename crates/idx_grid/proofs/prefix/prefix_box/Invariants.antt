use Rattle.std.proofs.Common.{◌≡◌, ℕ, ◌+◌, ◌-◌, ◌<◌, ◌≤◌, length, get_or, All, ◌^◌}
use Rattle.idx_hz.specs.Stride.{stride}
use Rattle.idx_grid.proofs.prefix.prefix_box.Given as goal

-- the upper ends so far are known
abbrev pub invariant-loop-axis : goal.invariant-loop-axis
invariant-loop-axis l = record {
  room : length l.upper ≡ 5;
  known : (a : ℕ) → a < l.axis → get_or l.upper a 0 ≡ get_or l.lo a 0 + stride l.mask l.digits a - 1;
  small : All (λ x. x ≤ 2 ^ 40) l.upper;
}
