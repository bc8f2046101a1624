use Rattle.std.proofs.Common.{arith}
use Rattle.idx_cache.proofs.Puts.{packed_from_vacant}
use Rattle.idx_cache.proofs.cache.Cache.new.Goals as goal

pub invariant_of-result : goal.invariant_of-result
invariant_of-result g c = (packed_from_vacant c.in_ok-slots.slots c.in_ok-slots.ensures.vacant, omega (arith, c.in_ok-slots.ensures.len))
