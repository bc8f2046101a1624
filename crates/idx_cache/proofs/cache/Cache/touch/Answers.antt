use Rattle.std.proofs.Common.{sym}
use Rattle.idx_cache.proofs.Raises.{touch_present, touch_packed, touch_found, touch_view, miss_found, miss_order}
use Rattle.idx_cache.proofs.cache.Cache.touch.Goals as goal

pub raise-requires : goal.raise-requires
raise-requires g c = touch_present g.met.K.Eq.laws c.args.key c.in-Some.slot c.self.inside.slots (sym c.in-Some.ensures.slot) c.in-Some.ensures.slots_apart c.in-Some.ensures.keys_apart

pub invariant_of-self : goal.invariant_of-self
invariant_of-self g c = touch_packed g.met.K.Eq.laws c.args.key c.in-Some.slot c.self.inside.slots (sym c.in-Some.ensures.slot) c.in-Some.ensures.slots_apart c.in-Some.ensures.keys_apart c.self.invariant.0 c.raise.new.self c.raise.ensures

pub returns-in-Some-clause-present : goal.returns-in-Some-clause-present
returns-in-Some-clause-present g c = touch_found g.met.K.Eq.laws c.args.key c.in-Some.slot c.self.inside.slots (sym c.in-Some.ensures.slot) c.in-Some.ensures.slots_apart c.in-Some.ensures.keys_apart c.args.self.now c.self.view_is

pub returns-in-Some-clause-order : goal.returns-in-Some-clause-order
returns-in-Some-clause-order g c = touch_view g.met.K.Eq.laws c.args.key c.in-Some.slot c.self.inside.slots (sym c.in-Some.ensures.slot) c.in-Some.ensures.slots_apart c.in-Some.ensures.keys_apart c.raise.new.self c.raise.ensures c.args.self.now c.self.view_is

pub returns-in-None-clause-present : goal.returns-in-None-clause-present
returns-in-None-clause-present g c = miss_found g.K.PartialEq.eq c.args.key c.self.inside.slots (sym c.in-None.ensures.slot) c.args.self.now c.self.view_is

pub returns-in-None-clause-order : goal.returns-in-None-clause-order
returns-in-None-clause-order g c = miss_order g.K.PartialEq.eq c.args.key c.self.inside.slots (sym c.in-None.ensures.slot) c.args.self.now c.self.view_is
