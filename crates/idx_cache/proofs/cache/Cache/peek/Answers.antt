use Rattle.std.proofs.Common.{sym, ap, ◌∙◌}
use Rattle.std.specs.Map.{lookup}
use Rattle.idx_cache.specs.Cached.{Cached}
use Rattle.idx_cache.proofs.Raises.{peek_value, touch_present, miss_lookup}
use Rattle.idx_cache.proofs.cache.Cache.peek.Goals as goal

pub peek-requires : goal.peek-requires
peek-requires g c = touch_present g.met.K.Eq.laws c.args.key c.in-Some.slot c.self.inside.slots (sym c.in-Some.ensures.slot) c.in-Some.ensures.slots_apart c.in-Some.ensures.keys_apart

pub returns-in-Some : goal.returns-in-Some
returns-in-Some g c =
    c.peek.ensures ∙ peek_value g.met.K.Eq.laws c.args.key c.in-Some.slot c.self.inside.slots (sym c.in-Some.ensures.slot) c.in-Some.ensures.slots_apart c.in-Some.ensures.keys_apart
    ∙ ap (λ (x : Cached g.row.K.Denot g.row.V.Denot). lookup (g.K.PartialEq.eq c.args.key) x.pairs) c.self.view_is

pub returns-in-None : goal.returns-in-None
returns-in-None g c = miss_lookup g.K.PartialEq.eq c.args.key c.self.inside.slots (sym c.in-None.ensures.slot) c.args.self.now c.self.view_is
