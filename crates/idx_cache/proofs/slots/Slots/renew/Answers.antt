use Rattle.std.proofs.Common.{◌∷◌, Option, Some, ap, ◌∙◌, sym, subst, nat_eq, IsSome, refl}
use Rattle.std.specs.Option.{option_flatten, option_map}
use Rattle.std.specs.Map.{lookup, remove_entry}
use Rattle.idx_cache.specs.Slotted.{Slotted, placed, IsTied, Holds}
use Rattle.idx_cache.proofs.Placed.{present_placed}
use Rattle.idx_cache.proofs.Ties.{renewed}
use Rattle.idx_cache.proofs.slots.Slots.renew.Goals as goal

pub place-requires-clause-present : goal.place-requires-clause-present
place-requires-clause-present g c =
    let on = subst (λ (l : Slotted g.row.K.Denot g.row.V.Denot). Holds g.K.PartialEq.eq l c.args.slot c.args.key) (sym c.self.view_is) c.requires in
    let present : IsSome (lookup (nat_eq c.args.slot) (placed c.self.inside.contents.items c.self.inside.order.entries)) = rw on.there refl in
    present_placed c.args.slot c.self.inside.contents.items c.self.inside.order.entries present

pub invariant_of-self : goal.invariant_of-self
invariant_of-self g c =
    let on = subst (λ (l : Slotted g.row.K.Denot g.row.V.Denot). Holds g.K.PartialEq.eq l c.args.slot c.args.key) (sym c.self.view_is) c.requires in
    (subst (λ (l : Slotted g.row.K.Denot g.row.V.Denot). IsTied g.K.PartialEq.eq l c.self.inside.index) (sym c.place.ensures.front) (renewed g.met.K.Eq.laws c.args.slot (placed c.self.inside.contents.items c.self.inside.order.entries) c.self.inside.index c.self.invariant.0 c.args.key c.args.value on), c.place.ensures.within)

pub returns-clause-slots : goal.returns-clause-slots
returns-clause-slots g c = c.place.ensures.front ∙ ap (λ (l : Slotted g.row.K.Denot g.row.V.Denot). (c.args.slot, Some (c.args.key, c.args.value)) ∷ remove_entry (nat_eq c.args.slot) l) c.self.view_is

pub returns-clause-value : goal.returns-clause-value
returns-clause-value g c =
    c.value_of.ensures ∙ ap (λ (o : Option (g.row.K.Denot × g.row.V.Denot)). option_map (λ p. p.1) o)
    (c.place.ensures.was ∙ ap (λ (l : Slotted g.row.K.Denot g.row.V.Denot). option_flatten (lookup (nat_eq c.args.slot) l)) c.self.view_is)
