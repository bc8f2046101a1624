use Rattle.std.proofs.Common.{◌≡◌, take}
use Rattle.std.specs.List.{filter_map}
use Rattle.idx_core_steps.proofs.step.files_of.Given as goal

abbrev pub invariant-loop-slot : goal.invariant-loop-slot
invariant-loop-slot l = l.files.items ≡ filter_map (λ slot. slot.sealed) (take l.slot-index l.slots)
