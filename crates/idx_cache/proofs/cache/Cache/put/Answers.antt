use Rattle.std.proofs.Common.{sym, ◌∙◌}
use Rattle.idx_cache.proofs.Puts.{slot_of, hit_fallen, hit_view, miss_fallen, miss_present, miss_fresh, miss_view, put_packed}
use Rattle.idx_cache.proofs.cache.Cache.put.Goals as goal

pub renew-requires : goal.renew-requires
renew-requires g c =
    slot_of g.K.PartialEq.eq c.args.key c.in-Some.slot c.self.inside.slots (sym c.in-Some.ensures.slot) c.in-Some.ensures.slots_apart

pub write-requires-clause-present : goal.write-requires-clause-present
write-requires-clause-present g c =
    miss_present g.met.K.Eq.laws c.args.key c.args.value c.last-slot.result c.self.inside.slots c.last-slot.ensures.last c.in-None.ensures.slots_apart c.in-None.ensures.keys_apart (sym c.in-None.ensures.slot)

pub write-requires-clause-fresh : goal.write-requires-clause-fresh
write-requires-clause-fresh g c =
    miss_fresh g.met.K.Eq.laws c.args.key c.args.value c.last-slot.result c.self.inside.slots c.last-slot.ensures.last c.in-None.ensures.slots_apart c.in-None.ensures.keys_apart (sym c.in-None.ensures.slot)

pub invariant_of-self : goal.invariant_of-self
invariant_of-self g c = put_packed c.args.key c.args.value c.in-Some.slot c.self.inside.slots c.renew.new.self c.self.invariant.0 c.renew.ensures.slots

pub invariant_of-self-in-None : goal.invariant_of-self-in-None
invariant_of-self-in-None g c = put_packed c.args.key c.args.value c.last-slot.result c.self.inside.slots c.write.new.self c.self.invariant.0 c.write.ensures.slots

pub returns-in-Some-clause-pairs : goal.returns-in-Some-clause-pairs
returns-in-Some-clause-pairs g c =
    hit_view g.met.K.Eq.laws c.args.key c.args.value c.in-Some.slot c.self.inside.slots (sym c.in-Some.ensures.slot) c.in-Some.ensures.slots_apart c.in-Some.ensures.keys_apart c.renew.new.self c.renew.ensures.slots c.args.self.now c.self.view_is

pub returns-in-None-clause-pairs : goal.returns-in-None-clause-pairs
returns-in-None-clause-pairs g c =
    miss_view g.met.K.Eq.laws c.args.key c.args.value c.last-slot.result c.self.inside.slots c.last-slot.ensures.last c.in-None.ensures.slots_apart c.in-None.ensures.keys_apart (sym c.in-None.ensures.slot) c.self.invariant.0 c.write.new.self c.write.ensures.slots c.args.self.now c.self.view_is

pub returns-in-Some-clause-fallen : goal.returns-in-Some-clause-fallen
returns-in-Some-clause-fallen g c =
    c.renew.ensures.value ∙ hit_fallen g.met.K.Eq.laws c.args.key c.args.value c.in-Some.slot c.self.inside.slots (sym c.in-Some.ensures.slot) c.in-Some.ensures.slots_apart c.in-Some.ensures.keys_apart c.args.self.now c.self.view_is

pub returns-in-None-clause-fallen : goal.returns-in-None-clause-fallen
returns-in-None-clause-fallen g c =
    c.write.ensures.value ∙ miss_fallen g.met.K.Eq.laws c.args.key c.args.value c.last-slot.result c.self.inside.slots c.last-slot.ensures.last c.in-None.ensures.slots_apart c.in-None.ensures.keys_apart (sym c.in-None.ensures.slot) c.self.invariant.0 c.args.self.now c.self.view_is
