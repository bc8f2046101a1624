use Rattle.std.proofs.Common.{◌≡◌, ◌+◌, ◌-◌, ◌++◌, ◌≤◌, vec_len}
use Rattle.std.specs.Prelude.{All, vec_capacity}
use Rattle.std.specs.List.{range_with_len}
use Rattle.idx_ranks.specs.Jobs.{IsBegun, ranks_of, raws_of}
use Rattle.idx_ranks.proofs.moving.make_jobs.Given as goal

abbrev pub invariant-loop-taken : goal.invariant-loop-taken
invariant-loop-taken g l = record {
  raws : l.raws.items ++ raws_of l.jobs.items ≡ l.initial.raws.items;
  ranks : ranks_of l.jobs.items ≡ range_with_len (l.count - l.taken) l.taken;
  begun : All (IsBegun l.header.box l.count) l.jobs.items;
  left : vec_len l.raws + l.taken ≡ vec_len l.initial.raws;
  jobs : vec_len l.jobs ≡ l.taken;
  room : l.count ≤ vec_capacity l.jobs;
  same_room : vec_capacity l.raws ≡ vec_capacity l.initial.raws;
}
