use Rattle.std.proofs.Common.{◌≡◌, ◌++◌, map}
use Rattle.std.specs.List.{range_with_len}
use Rattle.idx_drill_events.specs.Lists.{all_asked}
use Rattle.idx_drill.specs.Drilled.{drill_asking}
use Rattle.idx_drill.proofs.events.ask_all.Given as goal

abbrev pub invariant-loop-level : goal.invariant-loop-level
invariant-loop-level l = l.events.items ≡ l.fn.events.items ++ all_asked 0 (map (drill_asking l.number) (range_with_len 0 l.level))
