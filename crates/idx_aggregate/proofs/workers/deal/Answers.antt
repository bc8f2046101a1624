use Rattle.std.proofs.Common.{◌+◌, arith}
use Rattle.std.proofs.Math.Nat.{mod-lt}
use Rattle.idx_aggregate.proofs.WorkerLemmas.{dealt_next}
use Rattle.idx_aggregate.proofs.workers.deal.Goals as goal

pub loop-load-preserved : goal.loop-load-preserved
loop-load-preserved c = record {
  dealt =
      dealt_next c.into_iter-load-iterator.result.rest.items c.loop-load.load-iterator.rest.items c.next.new.self.rest.items c.in-Some.load c.loop-load.jobs.items c.give.new.jobs.items
      c.in-Some.ensures.steps.0 c.in_ok-give.ensures.given c.loop-load.invariant.dealt;
  number = omega (arith, c.in_ok-give.ensures.number, c.loop-load.invariant.number);
  within = mod-lt (c.loop-load.worker + 1) (omega (arith, c.requires.some));
}
