use Rattle.std.proofs.Common.{◌≡◌, map}
use Rattle.std.specs.List.{range_with_len}
use Rattle.idx_drill.specs.Drilled.{drill_level}
use Rattle.idx_drill.proofs.level.levels_of.Given as goal

abbrev pub invariant-loop-level : goal.invariant-loop-level
invariant-loop-level l = l.levels.items ≡ map (drill_level l.number) (range_with_len 0 l.level)
