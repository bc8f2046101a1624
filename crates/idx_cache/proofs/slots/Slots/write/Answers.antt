use Rattle.std.proofs.Common.{◌≡◌, IsSome, sym, ap, ◌∙◌, subst, nat_eq, Option, Some, ◌∷◌, ◌+◌, length, cond}
use Rattle.std.specs.Option.{option_flatten, option_map, option_map_or, option_to_list}
use Rattle.std.specs.Map.{lookup, remove_entry}
use Rattle.idx_cache.specs.Slotted.{Slotted, placed, IsTied}
use Rattle.idx_cache.proofs.Placed.{present_placed}
use Rattle.idx_cache.proofs.Ties.{write_present, write_room, write_fresh, write_claimed}
use Rattle.idx_cache.proofs.slots.Slots.write.Goals as goal

pub release-requires : goal.release-requires
release-requires g c = record { present = write_present g.met.K.Eq.laws c.args.slot (placed c.self.inside.contents.items c.self.inside.order.entries) c.self.inside.index c.self.invariant.0 (rw c.self.view_is c.requires.present) c.key_in-old.result (rw c.self.view_is c.key_in-old.ensures) }

pub claim-requires-clause-absent : goal.claim-requires-clause-absent
claim-requires-clause-absent g c =
    rw c.key_of-new.ensures (write_fresh g.met.K.Eq.laws c.args.slot (placed c.self.inside.contents.items c.self.inside.order.entries) c.self.inside.index c.self.invariant.0 (rw c.self.view_is c.requires.present) c.key_in-old.result (rw c.self.view_is c.key_in-old.ensures) c.release.new.self c.release.ensures.gets c.release.ensures.len c.release.ensures.room c.args.content (rw c.self.view_is c.requires.fresh))

pub claim-requires-clause-has_room : goal.claim-requires-clause-has_room
claim-requires-clause-has_room g c =
    write_room g.met.K.Eq.laws c.args.slot (placed c.self.inside.contents.items c.self.inside.order.entries) c.self.inside.index c.self.invariant.0 (rw c.self.view_is c.requires.present) c.key_in-old.result (rw c.self.view_is c.key_in-old.ensures) c.release.new.self c.release.ensures.gets c.release.ensures.len c.release.ensures.room

pub place-requires-clause-present : goal.place-requires-clause-present
place-requires-clause-present g c =
    let present : IsSome (lookup (nat_eq c.args.slot) (placed c.self.inside.contents.items c.self.inside.order.entries)) = rw c.self.view_is c.requires.present in
    present_placed c.args.slot c.self.inside.contents.items c.self.inside.order.entries present

pub invariant_of-self : goal.invariant_of-self
invariant_of-self g c = (
  subst (λ (l : Slotted g.row.K.Denot g.row.V.Denot). IsTied g.K.PartialEq.eq l c.claim.new.self) (sym c.place.ensures.front)
      (write_claimed g.met.K.Eq.laws c.args.slot (placed c.self.inside.contents.items c.self.inside.order.entries) c.self.inside.index c.self.invariant.0 (rw c.self.view_is c.requires.present) c.key_in-old.result (rw c.self.view_is c.key_in-old.ensures) c.release.new.self c.release.ensures.gets c.release.ensures.len c.release.ensures.room c.args.content (rw c.self.view_is c.requires.fresh)
      c.claim.new.self (subst (λ (k : Option g.row.K.Denot). (q : g.row.K.Denot) → lookup (g.K.PartialEq.eq q) c.claim.new.self.entries ≡ option_map_or (λ k. cond (g.K.PartialEq.eq k q) (Some c.args.slot) (lookup (g.K.PartialEq.eq q) c.release.new.self.entries)) k (lookup (g.K.PartialEq.eq q) c.release.new.self.entries)) c.key_of-new.ensures c.claim.ensures.gets) (subst (λ (k : Option g.row.K.Denot). length c.claim.new.self.entries ≡ length c.release.new.self.entries + length (option_to_list k)) c.key_of-new.ensures c.claim.ensures.len) c.claim.ensures.room),
  c.place.ensures.within,
)

pub returns-clause-slots : goal.returns-clause-slots
returns-clause-slots g c = c.place.ensures.front ∙ ap (λ (l : Slotted g.row.K.Denot g.row.V.Denot). (c.args.slot, c.args.content) ∷ remove_entry (nat_eq c.args.slot) l) c.self.view_is

pub returns-clause-value : goal.returns-clause-value
returns-clause-value g c =
    c.value_of.ensures ∙ ap (λ (o : Option (g.row.K.Denot × g.row.V.Denot)). option_map (λ p. p.1) o)
    (c.place.ensures.was ∙ ap (λ (l : Slotted g.row.K.Denot g.row.V.Denot). option_flatten (lookup (nat_eq c.args.slot) l)) c.self.view_is)
