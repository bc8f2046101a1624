use Rattle.std.proofs.Common.{◌≡◌, ◌++◌, ◌-◌, map}
use Rattle.std.specs.List.{range_with_len}
use Rattle.idx_events.specs.declared.event.Event.TheVariants.{Read}
use Rattle.idx_drill.proofs.events.load_blocks.Given as goal

abbrev pub invariant-loop-block : goal.invariant-loop-block
invariant-loop-block l = l.events.items ≡ l.fn.events.items ++ map (λ b. Read l.query b) (range_with_len l.first (l.block - l.first))
