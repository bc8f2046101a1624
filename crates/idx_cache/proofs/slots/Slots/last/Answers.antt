use Rattle.std.proofs.Common.{◌≡◌, refl, arith, length, sym, ap, ◌∙◌}
use Rattle.std.proofs.lemmas.Grind.{common_steps}
use Rattle.std.proofs.lemmas.Option.{gets}
use Rattle.idx_cache.proofs.Placed.{apart_placed, length_placed, last_placed}
use Rattle.idx_cache.proofs.slots.Slots.last.Goals as goal

pub prove-unreachable-requires : goal.prove-unreachable-requires
prove-unreachable-requires g c = let len : length c.self.inside.order.entries ≡ length c.args.self.now = sym (length_placed c.self.inside.contents.items c.self.inside.order.entries) ∙ ap length c.self.view_is in grind (arith, common_steps, gets, c.in-None.ensures, len)

pub returns-in-Some-clause-last : goal.returns-in-Some-clause-last
returns-in-Some-clause-last g c = rw (← c.self.view_is) (last_placed c.self.inside.contents.items c.self.inside.order.entries ∙ rw (← c.in-Some.ensures) refl)

pub returns-in-Some-clause-slots_apart : goal.returns-in-Some-clause-slots_apart
returns-in-Some-clause-slots_apart g c = apart_placed c.self.inside.contents.items c.self.inside.order.entries c.len-valid.ensures.valid.0 c.args.self.now c.self.view_is
