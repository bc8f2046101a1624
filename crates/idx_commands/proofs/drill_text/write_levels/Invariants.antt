use Rattle.std.proofs.Common.{◌≡◌, ◌++◌, take}
use Rattle.std.specs.List.{flat_map}
use Rattle.idx_commands.specs.DrillRun.{level_line}
use Rattle.idx_commands.proofs.drill_text.write_levels.Given as goal

abbrev pub invariant-loop-level : goal.invariant-loop-level
invariant-loop-level l = l.out ≡ l.fn.out ++ flat_map level_line (take l.level-index l.levels)
