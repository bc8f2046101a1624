use Rattle.std.proofs.Common.{arith, ◌+◌, List, [], Option, nat_eq, sym, ap, ◌∙◌, subst}
use Rattle.lru.specs.LruCache.{lru_cache, put_entries}
use Rattle.idx_cache.specs.Slotted.{IsVacant, IsWithin}
use Rattle.idx_cache.proofs.Placed.{length_placed}
use Rattle.idx_cache.proofs.Vacant.{vacant_first, vacant_more, vacant_tied, vacant_filled}
use Rattle.idx_cache.proofs.slots.Slots.new.Goals as goal

pub loop-slot-init : goal.loop-slot-init
loop-slot-init g c =
    (subst (λ x. IsVacant c.in_ok-contents.contents.items x.entries 0) (sym c.in_ok-order.ensures) (subst (λ (l : List (Option (g.row.K.Denot × g.row.V.Denot))). IsVacant l [] 0) (sym c.in_ok-contents.ensures.items) vacant_first), ap (λ x. x.cap) c.in_ok-order.ensures ∙ c.slot_count.ensures)

pub loop-slot-preserved : goal.loop-slot-preserved
loop-slot-preserved g c =
    let inv = c.loop-slot.invariant in (
      subst (λ x. IsVacant c.push.new.self.items x.entries (c.loop-slot.slot + 1)) (sym c.in_ok-put.ensures.entries)
          (subst (λ (l : List (Option (g.row.K.Denot × g.row.V.Denot))). IsVacant l (put_entries nat_eq (lru_cache c.loop-slot.order.entries c.loop-slot.order.cap) c.loop-slot.slot tt) (c.loop-slot.slot + 1)) (sym c.in_ok-push.ensures.items)
          (vacant_more c.loop-slot.contents.items c.loop-slot.order.entries tt c.loop-slot.slot c.loop-slot.order.cap inv.0 (omega (arith, inv.1, c.loop-slot-test.true)))),
      ap (λ x. x.cap) c.in_ok-put.ensures.entries ∙ inv.1,
    )

pub invariant_of-result : goal.invariant_of-result
invariant_of-result g c =
    let v = c.loop-slot.invariant.0 in
    (vacant_tied c.loop-slot.contents.items g.K.PartialEq.eq c.loop-slot.order.entries c.loop-slot.slot c.in_ok-index.index c.args.capacity v c.in_ok-index.ensures (omega (arith, c.loop-slot.auto.slot-end)), subst (λ n. IsWithin n c.loop-slot.order.entries) (sym v.room) v.below)

pub returns-clause-len : goal.returns-clause-len
returns-clause-len g c = omega (arith, length_placed c.loop-slot.contents.items c.loop-slot.order.entries, c.loop-slot.invariant.0.slots, c.loop-slot-test.false, c.loop-slot.auto.slot-end)

pub returns-clause-vacant : goal.returns-clause-vacant
returns-clause-vacant g c = vacant_filled c.loop-slot.contents.items c.loop-slot.order.entries c.loop-slot.slot c.loop-slot.invariant.0
