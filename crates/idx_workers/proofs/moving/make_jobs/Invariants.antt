use Rattle.std.proofs.Common.{◌≡◌, ◌+◌, ◌++◌, ◌≤◌, vec_len}
use Rattle.std.specs.Prelude.{All, vec_capacity}
use Rattle.idx_workers.specs.Jobs.{IsBegun, doors_of, readers_of}
use Rattle.idx_workers.proofs.moving.make_jobs.Given as goal

abbrev pub invariant-loop-taken : goal.invariant-loop-taken
invariant-loop-taken g l = record {
  seat : l.seat ≡ l.initial.seat;
  number : vec_len l.jobs ≡ l.taken;
  begun : All (IsBegun l.initial.seat) l.jobs.items;
  doors : doors_of l.jobs.items ++ l.doors.items ≡ l.initial.doors.items;
  readers : readers_of l.jobs.items ++ l.readers.items ≡ l.initial.readers.items;
  doors_left : l.taken + vec_len l.doors ≡ vec_len l.initial.doors;
  readers_left : l.taken + vec_len l.readers ≡ vec_len l.initial.readers;
  doors_room : vec_len l.initial.doors ≤ vec_capacity l.doors;
  readers_room : vec_len l.initial.readers ≤ vec_capacity l.readers;
  room : l.workers ≤ vec_capacity l.jobs;
}
