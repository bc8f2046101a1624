use Rattle.std.proofs.Common.{◌≡◌, ◌+◌, ◌++◌, ◌≤◌, vec_len}
use Rattle.std.specs.Prelude.{vec_capacity}
use Rattle.idx_ranks.specs.Jobs.{raws_of, reads_of}
use Rattle.idx_ranks.proofs.moving.give_back.Given as goal

abbrev pub invariant-loop-taken : goal.invariant-loop-taken
invariant-loop-taken g l = record {
  raws : raws_of l.jobs.items ++ l.raws.items ≡ raws_of l.initial.jobs.items;
  reads : reads_of l.jobs.items ++ l.reads.items ≡ reads_of l.initial.jobs.items;
  left : vec_len l.jobs + l.taken ≡ l.count;
  raws_len : vec_len l.raws ≡ l.taken;
  reads_len : vec_len l.reads ≡ l.taken;
  room : l.count ≤ vec_capacity l.raws;
  reads_room : l.count ≤ vec_capacity l.reads;
}
