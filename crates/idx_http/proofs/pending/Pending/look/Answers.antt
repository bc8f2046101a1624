use Rattle.std.proofs.Common.{◌≡◌, List, ℕ, take, ap, subst, ◌∙◌, arith}
use Rattle.idx_http.specs.Heads.{window}
use Rattle.idx_http.specs.Read.{IsLook}
use Rattle.idx_http.proofs.ListLemmas.{window_of_kept}
use Rattle.idx_http.proofs.pending.Pending.look.Goals as goal

pub returns : goal.returns
returns c =
    let inside = c.self.inside in
    let front : take c.min-len.result c.deref.result.now ≡ window c.args.self.now =
    ap (take c.min-len.result) c.deref.ensures.value
    ∙ window_of_kept inside.buffer.items inside.len c.min-len.result c.self.invariant.0 (λ few. omega arith) (λ many. omega arith)
    ∙ ap window c.self.view_is in
    subst (λ (t : List ℕ). IsLook t c.look_at.result) front c.look_at.ensures
