use Rattle.std.proofs.Common.{◌<◌, ◌≡◌, ◌∷◌, length, arith, nat_eq, set, refl, sym, ap, ◌∙◌, subst}
use Rattle.std.specs.Option.{option_flatten}
use Rattle.std.specs.Map.{remove_entry}
use Rattle.std.proofs.lemmas.Option.{slice_get_read}
use Rattle.idx_cache.specs.Slotted.{placed, IsWithin}
use Rattle.idx_cache.proofs.Placed.{within_of, front_placed, front_within, held_placed}
use Rattle.idx_cache.proofs.slots.place.Goals as goal

pub index_mut-requires : goal.index_mut-requires
index_mut-requires g c = let lt : c.args.slot < length c.args.contents.now.items = within_of (λ y. y < length c.args.contents.now.items) c.args.slot c.args.order.now.entries c.requires.within c.requires.present in omega (arith, lt, c.args.contents.now.ok)

pub returns-clause-front : goal.returns-clause-front
returns-clause-front g c =
    subst (λ x. placed (set c.args.contents.now.items c.args.slot c.replace.new.dest) x.entries ≡ (c.args.slot, c.args.content) ∷ remove_entry (nat_eq c.args.slot) (placed c.args.contents.now.items c.args.order.now.entries)) (sym c.promote.ensures.entries)
    (rw c.replace.ensures.after (front_placed c.args.slot c.args.contents.now.items c.args.content c.args.order.now.entries c.requires.within c.len-valid.ensures.valid.0 c.requires.present))

pub returns-clause-within : goal.returns-clause-within
returns-clause-within g c =
    subst (λ x. IsWithin (length (set c.args.contents.now.items c.args.slot c.replace.new.dest)) x.entries) (sym c.promote.ensures.entries)
    (front_within c.args.slot c.args.contents.now.items c.replace.new.dest c.args.order.now.entries c.requires.within c.requires.present)

pub returns-clause-was : goal.returns-clause-was
returns-clause-was g c =
    let lt : c.args.slot < length c.args.contents.now.items = within_of (λ y. y < length c.args.contents.now.items) c.args.slot c.args.order.now.entries c.requires.within c.requires.present in
    let there = slice_get_read c.args.contents.now.items (length c.args.contents.now.items) c.args.slot c.index_mut.result.now refl lt c.index_mut.ensures.value in
    c.replace.ensures.value ∙ sym (ap option_flatten there) ∙ held_placed c.args.slot c.args.contents.now.items c.args.order.now.entries c.requires.present
