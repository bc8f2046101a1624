use Rattle.std.proofs.Common.{◌≡◌, [], vec_len}
use Rattle.idx_aggregate.specs.Jobs.{loads_of}
use Rattle.idx_aggregate.proofs.workers.idle_jobs.Given as goal

abbrev pub invariant-loop-worker : goal.invariant-loop-worker
invariant-loop-worker l = record {
  none : loads_of l.jobs.items ≡ [];
  number : vec_len l.jobs ≡ l.worker;
}
