use Rattle.std.proofs.Common.{arith}
use Rattle.idx_serve.proofs.answering.refuse_memory.Goals as goal

pub returns-in_err-text-clause-later : goal.returns-in_err-text-clause-later
returns-in_err-text-clause-later g c faults reads = record {
  grew = (c.evict_half.ensures.halved faults reads).grew;
  count = omega arith;
  shape = c.evict_half.ensures.shape;
  lock = c.evict_half.ensures.lock;
}

pub returns-clause-later : goal.returns-clause-later
returns-clause-later g c faults reads = record {
  grew = (c.evict_half.ensures.halved faults reads).grew;
  count = omega arith;
  shape = c.evict_half.ensures.shape;
  lock = c.evict_half.ensures.lock;
}
