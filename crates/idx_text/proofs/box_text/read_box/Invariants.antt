use Rattle.std.proofs.Common.{◌≡◌, ◌++◌, ◌+◌, ◌≤◌, length}
use Rattle.std.specs.List.{zip}
use Rattle.idx_text.specs.BoxText.{both_ends}
use Rattle.idx_text.proofs.box_text.read_box.Given as goal

abbrev pub invariant-loop-rest : goal.invariant-loop-rest
invariant-loop-rest l = record {
  ends : both_ends (zip l.lower.items l.upper.items) ++ l.rest ≡ l.initial.rest;
  same : length l.lower.items ≡ length l.upper.items;
  few : length l.lower.items + length l.upper.items + length l.rest ≤ 10;
}

abbrev pub decreases-loop-rest : goal.decreases-loop-rest
decreases-loop-rest l = length l.rest
