use Rattle.std.proofs.Common.{subst}
use Rattle.idx_cache.specs.Cached.{Cached, IsBounded}
use Rattle.idx_cache.proofs.SlotKeys.{bounded}
use Rattle.idx_cache.proofs.cache.Cache.len.Goals as goal

pub returns-clause-valid : goal.returns-clause-valid
returns-clause-valid g c = subst (λ (x : Cached g.row.K.Denot g.row.V.Denot). IsBounded g.K.PartialEq.eq x) c.self.view_is (bounded g.K.PartialEq.eq c.self.inside.slots c.len.ensures.keys_apart c.self.invariant.1)
