use Rattle.std.proofs.Common.{◌≡◌, ◌++◌, map, All}
use Rattle.std.specs.Prelude.{Contains}
use Rattle.idx_layout.specs.OfHeader.{placing_of}
use Rattle.idx_layout.specs.Placing.{file_numbers}
use Rattle.idx_core_steps.specs.Steps.{fresh_slot}
use Rattle.idx_core_steps.proofs.step.fresh_slots.Given as goal

-- the slots so far, and behind them those of the files that are left, are all
abbrev pub invariant-loop-file : goal.invariant-loop-file
invariant-loop-file l = record {
  slots : l.slots.items ++ map (fresh_slot l.below) l.file-iterator ≡ map (fresh_slot l.below) (file_numbers (placing_of l.below.header));
  left : All (Contains (file_numbers (placing_of l.below.header))) l.file-iterator;
}
