use Rattle.std.specs.VecDeque.{deque_len}
use Rattle.idx_aggregate.specs.Jobs.{AreMaking}
use Rattle.idx_aggregate.proofs.job.make_all.Given as goal

abbrev pub invariant-loads : goal.invariant-loads
invariant-loads l = AreMaking l.header l.fn.loads.items l.loads.items l.made.items

abbrev pub decreases-loads : goal.decreases-loads
decreases-loads l = deque_len l.loads
