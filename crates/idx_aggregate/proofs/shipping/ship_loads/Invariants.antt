use Rattle.idx_aggregate.specs.Jobs.{AreDelivering}
use Rattle.idx_aggregate.proofs.shipping.ship_loads.Given as goal

abbrev pub invariant-loop-job : goal.invariant-loop-job
invariant-loop-job g l = AreDelivering l.header l.fn.loads.items l.job-iterator.rest.items l.fn.docks.items l.docks.items
