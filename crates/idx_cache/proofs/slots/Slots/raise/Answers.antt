use Rattle.std.proofs.Common.{◌<◌, length, IsSome, ap, ◌∙◌, sym, subst, nat_eq}
use Rattle.std.specs.Map.{lookup}
use Rattle.lru.specs.LruCache.{promoted}
use Rattle.idx_cache.specs.Slotted.{Slotted, placed, IsTied, IsWithin}
use Rattle.idx_cache.proofs.Placed.{promoted_placed, promoted_within, present_placed}
use Rattle.idx_cache.proofs.Ties.{raised_tied}
use Rattle.idx_cache.proofs.slots.Slots.raise.Goals as goal

pub invariant_of-self : goal.invariant_of-self
invariant_of-self g c =
    let present : IsSome (lookup (nat_eq c.args.slot) (placed c.self.inside.contents.items c.self.inside.order.entries)) = rw c.self.view_is c.requires in
    subst (λ x. IsTied g.K.PartialEq.eq (placed c.self.inside.contents.items x.entries) c.self.inside.index × IsWithin (length c.self.inside.contents.items) x.entries) (sym c.promote.ensures.entries)
    (subst (λ (l : Slotted g.row.K.Denot g.row.V.Denot). IsTied g.K.PartialEq.eq l c.self.inside.index) (sym (promoted_placed (nat_eq c.args.slot) c.self.inside.contents.items c.self.inside.order.entries)) (raised_tied g.met.K.Eq.laws c.args.slot (placed c.self.inside.contents.items c.self.inside.order.entries) c.self.inside.index c.self.invariant.0 present), promoted_within (λ y. y < length c.self.inside.contents.items) c.args.slot c.self.inside.order.entries c.self.invariant.1 (present_placed c.args.slot c.self.inside.contents.items c.self.inside.order.entries present))

pub returns : goal.returns
returns g c = ap (λ x. placed c.self.inside.contents.items x.entries) c.promote.ensures.entries ∙ promoted_placed (nat_eq c.args.slot) c.self.inside.contents.items c.self.inside.order.entries ∙ ap (λ (l : Slotted g.row.K.Denot g.row.V.Denot). promoted (nat_eq c.args.slot) l) c.self.view_is
