use Rattle.std.proofs.Common.{◌≡◌, ◌+◌, ◌++◌, ◌≤◌, vec_capacity, vec_len}
use Rattle.idx_convert.proofs.first_raws.move_last.Given as goal

abbrev pub invariant-loop-moved : goal.invariant-loop-moved
invariant-loop-moved g l = record {
  joined : l.from.items ++ l.to.items ≡ l.initial.from.items ++ l.initial.to.items;
  left : vec_len l.from + l.moved ≡ vec_len l.initial.from;
  there : vec_len l.to ≡ vec_len l.initial.to + l.moved;
  room : vec_capacity l.initial.to ≤ vec_capacity l.to;
}
