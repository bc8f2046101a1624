use Rattle.std.proofs.Common.{◌≡◌, map}
use Rattle.std.specs.List.{range_with_len}
use Rattle.idx_drill_model.specs.Drill.{drill_byte}
use Rattle.idx_drill.proofs.dataset.drill_volume.Given as goal

abbrev pub invariant-loop-place : goal.invariant-loop-place
invariant-loop-place l = l.volume ≡ map (drill_byte l.number) (range_with_len 0 l.place)
