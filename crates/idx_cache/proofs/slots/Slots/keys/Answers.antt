use Rattle.std.proofs.Common.{◌≡◌, ◌++◌, List, Option, Some, sym, ap, ◌∙◌, subst}
use Rattle.std.specs.Map.{keys_of}
use Rattle.idx_cache.specs.Slotted.{content_at, filled, placed}
use Rattle.idx_cache.proofs.Placed.{keys_next}
use Rattle.idx_cache.proofs.slots.Slots.keys.Goals as goal

pub loop-slot-preserved-in-Continue-branch-2 : goal.loop-slot-preserved-in-Continue-branch-2
loop-slot-preserved-in-Continue-branch-2 g c =
    let contents : List (Option (g.row.K.Denot × g.row.V.Denot)) = c.self.inside.contents.items in
    let at : content_at contents c.in-Some.slot.now ≡ Some c.in-Some-content_of.pair.now =
    ap (λ (l : List (Option (g.row.K.Denot × g.row.V.Denot))). content_at l c.in-Some.slot.now) (sym c.deref.ensures.value) ∙ sym c.in-Some-content_of.ensures in
    ap (λ l. l ++ keys_of (filled (placed contents c.next.new.self))) c.in_ok-push.ensures.items
    ∙ keys_next contents c.loop-slot.keys.items (keys_of (filled c.args.self.now)) c.in-Some.slot.now c.next.new.self c.in-Some-content_of.pair.now at
    (subst (λ l. c.loop-slot.keys.items ++ keys_of (filled (placed contents l)) ≡ keys_of (filled c.args.self.now)) c.in-Some.ensures.steps c.loop-slot.invariant)
