use Rattle.std.proofs.Common.{List, Option, ap, ◌∙◌}
use Rattle.idx_cache.specs.Slotted.{content_at}
use Rattle.idx_cache.proofs.Placed.{content_placed}
use Rattle.idx_cache.proofs.slots.Slots.content.Goals as goal

pub returns : goal.returns
returns g c = c.content_of.ensures ∙ ap (λ (l : List (Option (g.row.K.Denot × g.row.V.Denot))). content_at l c.args.slot) c.deref.ensures.value ∙ content_placed c.args.slot c.self.inside.contents.items c.self.inside.order.entries c.args.self.now c.self.view_is c.requires
