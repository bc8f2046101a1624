use Rattle.std.proofs.Common.{◌≡◌, ap, ◌∙◌}
use Rattle.idx_core_asks.specs.Asked.{AskedValue}
use Rattle.idx_core_asks.proofs.RoundLemmas.{count-made}
use Rattle.idx_core_asks.proofs.asked.Asked.rounds.Goals as goal

pub returns : goal.returns
returns c = count-made c.args.below.now c.args.self.now c.requires c.keys.result.now c.header.result.now c.self.inside.ask.field c.width-width.result c.max.result
    (c.keys.ensures ∙ ap (λ (x : AskedValue). x.plan.keys) c.self.view_is) c.header.ensures.value (ap (λ (x : AskedValue). x.query.ask.field) c.self.view_is) c.width-width.ensures.value c.max.ensures
