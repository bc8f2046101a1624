use Rattle.std.proofs.Common.{◌≡◌, [], All, map, take}
use Rattle.idx_events.specs.Start.{new_volumes}
use Rattle.idx_core_layers.specs.Division.{layers_of}
use Rattle.idx_core_steps.specs.Steps.{AreSlots, volume_of}
use Rattle.idx_core.proofs.taking.steps_of.Given as goal

-- there is a revision for each of the volumes so far
abbrev pub invariant-loop-i : goal.invariant-loop-i
invariant-loop-i l = record {
  volumes : map volume_of l.steps.items ≡ new_volumes (layers_of l.below) [] (take l.i l.volumes);
  slots : All (AreSlots l.below) l.steps.items;
}
