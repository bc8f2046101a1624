use Rattle.std.proofs.Common.{◌≡◌, ◌+◌, ◌≤◌, vec_len}
use Rattle.std.specs.Prelude.{All, vec_capacity}
use Rattle.idx_workers.specs.Jobs.{GivenBack, IsReady}
use Rattle.idx_workers.proofs.moving.give_back.Given as goal

abbrev pub invariant-loop-taken : goal.invariant-loop-taken
invariant-loop-taken g l = record {
  back : GivenBack l.initial.seat l.initial.jobs.items l.jobs.items l.initial.doors.items l.doors.items l.initial.readers.items l.readers.items l.seat l.total;
  ready : All (IsReady l.lock l.initial.seat.seen.shape) l.jobs.items;
  left : vec_len l.jobs + l.taken ≡ l.count;
  doors_room : vec_len l.jobs + vec_len l.doors ≤ vec_capacity l.doors;
  readers_room : vec_len l.jobs + vec_len l.readers ≤ vec_capacity l.readers;
}
