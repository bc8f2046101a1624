use Rattle.std.proofs.Common.{ℕ, ◌≤◌, List, sym, subst}
use Rattle.idx_cache.specs.Cached.{Cached}
use Rattle.idx_hall.specs.declared.block_name.BlockName.{BlockName}
use Rattle.idx_hall.proofs.HallLemmas.{evict-holds}
use Rattle.idx_hall.proofs.hall.Hall.evict.Goals as goal

pub invariant_of-self : goal.invariant_of-self
invariant_of-self g c = (evict-holds _ _ _ _ c.self.invariant.0 _ c.evict.ensures.kept, c.self.invariant.1, subst (λ (x : Cached BlockName (List ℕ)). x.cap ≤ 65536) (sym c.evict.ensures.kept) c.self.invariant.2)
