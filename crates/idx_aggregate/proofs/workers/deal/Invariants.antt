use Rattle.std.proofs.Common.{◌≡◌, ◌<◌, vec_len}
use Rattle.idx_aggregate.specs.Jobs.{AreDealt}
use Rattle.idx_aggregate.proofs.workers.deal.Given as goal

abbrev pub invariant-loop-load : goal.invariant-loop-load
invariant-loop-load l = record {
  dealt : AreDealt l.initial.load-iterator.rest.items l.load-iterator.rest.items l.jobs.items;
  number : vec_len l.jobs ≡ l.workers;
  within : l.worker < l.workers;
}
