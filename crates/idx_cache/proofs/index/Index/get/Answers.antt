use Rattle.std.proofs.Common.{List, ◌≡◌, ℕ, sym, ap, ◌∙◌, Some, get_or}
use Rattle.idx_cache.specs.Indexed.{Indexed}
use Rattle.idx_cache.proofs.Search.{lookup_at, lookup_in_gap}
use Rattle.idx_cache.proofs.index.Index.get.Goals as goal

pub returns-in-Ok : goal.returns-in-Ok
returns-in-Ok g c =
    let d = c.index.result.now in
    let same = ap (λ (x : Indexed g.row.K.Denot). x.entries) c.self.view_is in
    let read : d ≡ get_or c.args.self.now.entries c.in-Ok.at d = c.index.ensures ∙ ap (λ (l : List (g.row.K.Denot × ℕ)). get_or l c.in-Ok.at d) same in
    ap (λ (x : g.row.K.Denot × ℕ). Some x.1) read ∙ sym (lookup_at g.met.K.Ord.total g.met.K.Eq.laws g.met.K.Ord.matches_eq c.args.self.now.entries c.in-Ok.ensures.rising c.args.key c.in-Ok.at c.in-Ok.ensures.found d)

pub returns-in-Err : goal.returns-in-Err
returns-in-Err g c = sym (lookup_in_gap g.met.K.Ord.total g.met.K.Eq.laws g.met.K.Ord.matches_eq _ _ _ c.in-Err.ensures.absent)
