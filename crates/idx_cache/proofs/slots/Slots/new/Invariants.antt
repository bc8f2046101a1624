use Rattle.std.proofs.Common.{◌≡◌}
use Rattle.idx_cache.specs.Slotted.{IsVacant}
use Rattle.idx_cache.proofs.slots.Slots.new.Given as goal

abbrev pub invariant-loop-slot : goal.invariant-loop-slot
invariant-loop-slot g l = IsVacant l.contents.items l.order.entries l.slot × (l.order.cap ≡ l.capacity)
