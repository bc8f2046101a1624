use Rattle.std.proofs.Common.{sym, ap, ◌∙◌, length}
use Rattle.idx_cache.proofs.Placed.{length_placed}
use Rattle.idx_cache.proofs.slots.Slots.capacity.Goals as goal

pub returns : goal.returns
returns g c = c.len.ensures.len ∙ sym (length_placed c.self.inside.contents.items c.self.inside.order.entries) ∙ ap length c.self.view_is
