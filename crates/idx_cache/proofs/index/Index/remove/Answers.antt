use Rattle.std.proofs.Common.{ap, ◌≡◌}
use Rattle.idx_cache.specs.Indexed.{Indexed}
use Rattle.idx_cache.proofs.Search.{lookup_in_gap, lookup_remove}
use Rattle.idx_cache.proofs.index.Index.remove.Goals as goal

pub prove-unreachable-requires : goal.prove-unreachable-requires
prove-unreachable-requires g c =
    let gone = lookup_in_gap g.met.K.Ord.total g.met.K.Eq.laws g.met.K.Ord.matches_eq _ _ _ c.in-Err.ensures.absent in
    cc (rw gone at c.requires.present)

pub returns-in-Ok-clause-gets : goal.returns-in-Ok-clause-gets
returns-in-Ok-clause-gets g c q =
    let same : c.self.inside.sorted.items ≡ c.args.self.now.entries = ap (λ (v : Indexed g.row.K.Denot). v.entries) c.self.view_is in
    rw (c.remove.ensures.items, same) (lookup_remove g.met.K.Ord.total g.met.K.Eq.laws g.met.K.Ord.matches_eq c.args.self.now.entries c.in-Ok.ensures.rising c.args.key c.in-Ok.at c.in-Ok.ensures.found (c.args.key, 0) q)
