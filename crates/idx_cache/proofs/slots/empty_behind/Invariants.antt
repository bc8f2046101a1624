use Rattle.idx_cache.specs.Slotted.{contents_emptied}
use Rattle.idx_cache.proofs.Evictions.{Emptying}
use Rattle.idx_cache.proofs.slots.empty_behind.Given as goal

abbrev pub invariant-loop-slot : goal.invariant-loop-slot
invariant-loop-slot g l = Emptying g.row.K.Denot g.row.V.Denot (Unit {0}) l.left l.slot-iterator l.contents.items (contents_emptied l.kept l.order.entries l.initial.contents.items)
