use Rattle.std.proofs.Common.{◌≡◌, ◌≤◌, length, take}
use Rattle.std.specs.List.{filter}
use Rattle.idx_stride.specs.Compact.{is_wide}
use Rattle.idx_stride.proofs.axes.wide.Given as goal

-- the wide axes so far stand in front
abbrev pub invariant-loop-axis : goal.invariant-loop-axis
invariant-loop-axis l = record {
  room : length l.wide ≡ 5;
  few : l.number ≤ l.axis-index;
  kept : take l.number l.wide ≡ filter is_wide (take l.axis-index l.axes);
}
