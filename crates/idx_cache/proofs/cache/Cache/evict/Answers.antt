use Rattle.std.proofs.Common.{arith}
use Rattle.idx_cache.proofs.Evictions.{evict_packed, evict_view}
use Rattle.idx_cache.proofs.cache.Cache.evict.Goals as goal

pub keep-requires : goal.keep-requires
keep-requires g c = c.self.invariant.0

pub invariant_of-self : goal.invariant_of-self
invariant_of-self g c = evict_packed _ c.self.inside.slots c.keep.new.self c.self.invariant.0 c.self.invariant.1 c.keep.ensures

pub returns-then-gone-gt0-clause-kept : goal.returns-then-gone-gt0-clause-kept
returns-then-gone-gt0-clause-kept g c = evict_view _ c.args.n c.self.inside.slots c.keep.new.self c.self.invariant.0 c.keep.ensures (omega (arith, c.min-gone.ensures, c.len-len.ensures.len)) c.args.self.now c.self.view_is
