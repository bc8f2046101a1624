use Rattle.std.proofs.Common.{◌≡◌, ℕ, ◌≤◌, ◌<◌, ◌*◌, List, length, take, drop, sym, ap, ◌∙◌, arith}
use Rattle.std.specs.Prelude.{min}
use Rattle.idx_header.specs.Header.{HeaderValue}
use Rattle.idx_plan.specs.Rounds.{cut_at, width_for}
use Rattle.idx_core_asks.specs.Asked.{AskedValue}
use Rattle.idx_core_asks.proofs.RoundLemmas.{cut-is, keys-are}
use Rattle.idx_core_asks.proofs.asked.Asked.round_keys.Goals as goal

pub returns : goal.returns
returns c =
    let x : AskedValue = c.args.self.now in
    let keys = c.keys-keys.ensures ∙ ap (λ (y : AskedValue). y.plan.keys) c.self.view_is in
    let field : c.self.inside.ask.field ≡ x.query.ask.field = ap (λ (y : AskedValue). y.query.ask.field) c.self.view_is in
    let width = c.width-width.ensures.value ∙ ap (λ (h : HeaderValue). width_for h c.self.inside.ask.field) c.header.ensures.value ∙ ap (width_for c.args.below.now.header) field in
    let ended : c.ended.result ≡ x.query.ended = c.ended.ensures ∙ ap (λ (y : AskedValue). y.query.ended) c.self.view_is in
    c.in_ok-from_slice.ensures.items
    ∙ cut-is c.keys-keys.result.now c.ended.result c.width-width.result c.min-from.result c.min-to.result (omega (arith, c.keys-keys.type_inv.0)) (c.min-from.ensures ∙ ap (λ n. min n (length c.keys-keys.result.now)) c.saturating_mul.ensures) (c.min-to.ensures ∙ ap (λ n. min n (length c.keys-keys.result.now)) c.saturating_add.ensures)
    ∙ ap (λ ks. cut_at c.width-width.result ks c.ended.result) keys ∙ ap (λ w. cut_at w x.plan.keys c.ended.result) width ∙ ap (λ n. cut_at (width_for c.args.below.now.header x.query.ask.field) x.plan.keys n) ended
    ∙ sym (keys-are c.args.below.now x c.requires.planned c.requires.left)
