use Rattle.std.proofs.Common.{ℕ, ◌≤◌, List, sym, subst, ◌∙◌}
use Rattle.idx_cache.specs.Cached.{Cached}
use Rattle.idx_hall.specs.declared.block_name.BlockName.{BlockName}
use Rattle.idx_hall.specs.Calls.{pairs_of}
use Rattle.idx_hall.proofs.HallLemmas.{fill-holds}
use Rattle.idx_hall.proofs.hall.Hall.fill.Goals as goal

pub invariant_of-self : goal.invariant_of-self
invariant_of-self g c = (fill-holds _ _ _ _ c.self.invariant.0 c.args.self.now c.self.view_is c.args.post (pairs_of c.args.loaded.items) c.requires.blocks (sym c.is_newest.ensures ∙ c.if-is_newest.true) c.put_blocks.ensures, c.self.invariant.1, subst (λ (x : Cached BlockName (List ℕ)). x.cap ≤ 65536) (sym c.put_blocks.ensures) c.self.invariant.2)
