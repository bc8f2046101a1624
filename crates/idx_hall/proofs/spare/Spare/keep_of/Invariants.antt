use Rattle.std.proofs.Common.{◌≡◌}
use Rattle.idx_hall.proofs.spare.Spare.keep_of.Given as goal

-- both have room as before
abbrev pub invariant-loop-place : goal.invariant-loop-place
invariant-loop-place l = record {
  room : l.self ≡ l.initial.self;
  others : l.others ≡ l.initial.others;
}
