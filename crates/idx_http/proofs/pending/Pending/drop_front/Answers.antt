use Rattle.std.proofs.Common.{length, ap, sym, ◌∙◌, ◌-◌, ◌≤◌, take, drop, subst, ℕ, List}
use Rattle.idx_http.proofs.ListLemmas.{take-copy_within}
use Rattle.idx_http.proofs.pending.Pending.drop_front.Goals as goal

pub returns : goal.returns
returns c =
    let inside = c.self.inside in
    let few : c.args.count ≤ length (take inside.len inside.buffer.items) = subst (λ (t : List ℕ). c.args.count ≤ length t) (sym c.self.view_is) c.requires in
    ap (take (inside.len - c.args.count)) c.copy_within.ensures.items
    ∙ take-copy_within inside.buffer.items inside.len c.args.count c.self.invariant.0 few
    ∙ ap (drop c.args.count) c.self.view_is
