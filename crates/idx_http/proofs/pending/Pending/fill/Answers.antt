use Rattle.std.proofs.Common.{◌+◌, take, ap, ◌∙◌, arith}
use Rattle.std.proofs.lemmas.List.{with_items_is}
use Rattle.idx_outside.specs.Input.{behind}
use Rattle.idx_http.proofs.ListLemmas.{filled}
use Rattle.idx_http.proofs.pending.Pending.fill.Goals as goal

pub returns-clause-input : goal.returns-clause-input
returns-clause-input g c =
    let inside = c.self.inside in
    let old = g.L.Link.incoming c.args.link.now in
    let whole = with_items_is inside.buffer c.read_behind.new.buffer (omega (arith, c.read_behind.auto.buffer, c.as_mut_slice.ensures.len)) in
    let new = g.L.Link.incoming c.read_behind.new.link in
    ap (λ xs. behind (take (inside.len + c.in_ok-count.count) xs) new) whole
    ∙ filled c.as_mut_slice.result.now c.read_behind.new.buffer inside.len c.in_ok-count.count old new
    c.in_ok-count.ensures.front c.in_ok-count.ensures.given
    ∙ ap (λ t. behind t old) (ap (take inside.len) c.as_mut_slice.ensures.value ∙ c.self.view_is)
