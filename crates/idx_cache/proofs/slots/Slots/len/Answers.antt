use Rattle.std.proofs.Common.{ap, ◌∙◌, length}
use Rattle.idx_cache.specs.Slotted.{Slotted, filled, placed}
use Rattle.idx_cache.proofs.SlotKeys.{length_homes_filled}
use Rattle.idx_cache.proofs.slots.Slots.len.Goals as goal

pub returns-clause-len : goal.returns-clause-len
returns-clause-len g c = c.len.ensures ∙ c.self.invariant.0.len ∙ length_homes_filled (placed c.self.inside.contents.items c.self.inside.order.entries) ∙ ap (λ (l : Slotted g.row.K.Denot g.row.V.Denot). length (filled l)) c.self.view_is
