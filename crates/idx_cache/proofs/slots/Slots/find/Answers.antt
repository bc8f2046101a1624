use Rattle.idx_cache.proofs.Placed.{apart_placed}
use Rattle.idx_cache.proofs.slots.Slots.find.Goals as goal

pub returns-clause-slots_apart : goal.returns-clause-slots_apart
returns-clause-slots_apart g c = apart_placed c.self.inside.contents.items c.self.inside.order.entries c.len-valid.ensures.valid.0 c.args.self.now c.self.view_is
