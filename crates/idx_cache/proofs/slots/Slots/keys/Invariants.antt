use Rattle.std.proofs.Common.{◌≡◌, ◌++◌}
use Rattle.std.specs.Map.{keys_of}
use Rattle.idx_cache.specs.Slotted.{filled, placed}
use Rattle.idx_cache.proofs.slots.Slots.keys.Given as goal

-- the keys so far and those of the slots that are left are all keys
abbrev pub invariant-loop-slot : goal.invariant-loop-slot
invariant-loop-slot g l = l.keys.items ++ keys_of (filled (placed l.self-inside.contents.items l.slot-iterator)) ≡ keys_of (filled l.self)
