use Rattle.std.proofs.Common.{◌≡◌, map}
use Rattle.std.specs.List.{range_with_len}
use Rattle.idx_drill_model.specs.Drill.{drill_ask}
use Rattle.idx_drill.proofs.questions.drill_asks.Given as goal

abbrev pub invariant-loop-level : goal.invariant-loop-level
invariant-loop-level l = l.asks.items ≡ map (drill_ask l.number) (range_with_len 0 l.level)
