use Rattle.std.proofs.Common.{true, sym, ap, subst, rules, ◌≡◌, is_ok}
use Rattle.std.proofs.lemmas.Map.{lookup-insert, none_passes_from_lookup}
use Rattle.idx_cache.specs.Indexed.{Indexed, IsGapFor}
use Rattle.idx_cache.proofs.Search.{lookup_at, rising_insert}
use Rattle.idx_cache.proofs.index.Index.insert.Goals as goal

pub prove-unreachable-requires : goal.prove-unreachable-requires
prove-unreachable-requires g c =
    let there = lookup_at g.met.K.Ord.total g.met.K.Eq.laws g.met.K.Ord.matches_eq c.args.self.now.entries c.in-Ok.ensures.rising c.args.key c.in-Ok.field-0 c.in-Ok.ensures.found (c.args.key, 0) in
    cc (c.requires.absent, there)

pub invariant_of-self : goal.invariant_of-self
invariant_of-self g c =
    let gap = c.in-Err.ensures.absent in
    let done : is_ok c.insert.result ≡ true = search rules in
    let items = rw done at c.insert.ensures.items in
    rw items (rising_insert g.met.K.Ord.total g.met.K.Eq.laws g.met.K.Ord.matches_eq c.self.inside.sorted.items c.args.key c.in-Err.at (subst (λ (v : Indexed g.row.K.Denot). IsGapFor g.K.Ord.cmp v.entries c.args.key c.in-Err.at) (sym c.self.view_is) gap) c.args.slot c.self.invariant)

pub returns-in-Err-clause-gets : goal.returns-in-Err-clause-gets
returns-in-Err-clause-gets g c q =
    let done : is_ok c.insert.result ≡ true = search rules in
    let items = rw done at c.insert.ensures.items in
    let same : c.self.inside.sorted.items ≡ c.args.self.now.entries = ap (λ (v : Indexed g.row.K.Denot). v.entries) c.self.view_is in
    rw (items, same) (lookup-insert g.met.K.Eq.laws c.args.key c.args.slot q c.args.self.now.entries c.in-Err.at (none_passes_from_lookup (g.K.PartialEq.eq c.args.key) c.args.self.now.entries c.requires.absent))
